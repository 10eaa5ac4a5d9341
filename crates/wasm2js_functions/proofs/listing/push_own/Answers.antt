use Rattle.std.proofs.Common.{length, map, sym}
use Rattle.sem_words.specs.Lists.{list_items}
use Rattle.asm_tree.specs.Views.{function_view}
use Rattle.wasm_lang_valid.specs.ModuleRules.{imported_functions}
use Rattle.wasm_tree.specs.Views.{body_of, module_of, type_of}
use Rattle.wasm2js_functions.proofs.Bodies.{is_tree, some_tree, translated_there}
use Rattle.wasm2js_functions.proofs.OwnFunctions.{no_body_there, no_type_there, own_there}
use Rattle.wasm2js_functions.proofs.Viewed.{viewed, not_viewed}
use Rattle.wasm2js_functions.proofs.listing.push_own.Goals as goal

pub returns-in_default-get : goal.returns-in_default-get
returns-in_default-get c =
    no_body_there (module_of c.args.«module».now) c.args.number c.args.place (map function_view (list_items c.args.functions.now))
    (not_viewed body_of (list_items c.args.«module».now.bodies) c.args.place c.in_default-get.ensures.value)

pub returns-in_default-get-2 : goal.returns-in_default-get-2
returns-in_default-get-2 c =
    let module_now = c.args.«module».now in
    no_type_there (module_of module_now) c.args.number c.args.place (map function_view (list_items c.args.functions.now)) c.in-Some.type_number.now (body_of c.in-Some-get.body.now)
    (sym c.in-Some.ensures.value)
    (viewed body_of (list_items module_now.bodies) c.args.place c.in-Some-get.body.now c.in-Some-get.ensures.value)
    (not_viewed type_of (list_items module_now.types) c.in-Some.type_number.now c.in_default-get-2.ensures.value)

pub own_function-requires-clause-expression : goal.own_function-requires-clause-expression
own_function-requires-clause-expression c =
    let m = module_of c.args.«module».now in
    let b = body_of c.in-Some-get.body.now in
    some_tree b (is_tree m c.requires.valid c.args.place b (viewed body_of (list_items c.args.«module».now.bodies) c.args.place c.in-Some-get.body.now c.in-Some-get.ensures.value))

pub own_function-requires-clause-translated : goal.own_function-requires-clause-translated
own_function-requires-clause-translated c =
    let m = module_of c.args.«module».now in
    translated_there m.bodies (length (imported_functions m.imports)) c.args.place (body_of c.in-Some-get.body.now) c.requires.translated
    (viewed body_of (list_items c.args.«module».now.bodies) c.args.place c.in-Some-get.body.now c.in-Some-get.ensures.value)

pub returns : goal.returns
returns c =
    let module_now = c.args.«module».now in
    let m = module_of module_now in
    let b = body_of c.in-Some-get.body.now in
    let there = viewed body_of (list_items module_now.bodies) c.args.place c.in-Some-get.body.now c.in-Some-get.ensures.value in
    let it = is_tree m c.requires.valid c.args.place b there in
    own_there m c.args.number c.args.place (map function_view (list_items c.args.functions.now)) (map function_view (list_items c.push.new.functions)) c.in-Some.type_number.now b
    (type_of c.in-Some-get-2.function_type.now) it.tree (function_view c.in_ok-made.made)
    (sym c.in-Some.ensures.value) there
    (viewed type_of (list_items module_now.types) c.in-Some.type_number.now c.in-Some-get-2.function_type.now c.in-Some-get-2.ensures.value)
    it.is (c.in_ok-made.ensures it.tree it.is) c.in_ok-push.ensures
