use Rattle.std.proofs.Common.{[], ◌∷◌, ◌++◌, map, sym, ap, ◌∙◌, append-nil}
use Rattle.sem_words.specs.Lists.{list_items}
use Rattle.asm_tree.specs.Views.{function_view}
use Rattle.wasm_tree.specs.Views.{type_of}
use Rattle.wasm2js_functions.specs.Listing.{wrapper_for}
use Rattle.wasm2js_functions.proofs.Viewed.{viewed, not_viewed}
use Rattle.wasm2js_functions.proofs.listing.push_wrapper.Goals as goal

pub returns-in_default : goal.returns-in_default
returns-in_default c =
    let old = map function_view (list_items c.args.functions.now) in
    let none = not_viewed type_of (list_items c.args.«module».now.types) c.args.type_number c.in_default.ensures.value in
    sym (ap (λ o. old ++ wrapper_for c.args.number o) none ∙ append-nil old)

pub returns : goal.returns
returns c =
    let old = map function_view (list_items c.args.functions.now) in
    let some = viewed type_of (list_items c.args.«module».now.types) c.args.type_number c.in-Some.function_type.now c.in-Some.ensures.value in
    c.in_ok-push.ensures ∙ ap (λ f. old ++ f ∷ []) c.in_ok-made.ensures ∙ ap (λ o. old ++ wrapper_for c.args.number o) (sym some)
