use Rattle.std.proofs.Common.{rules, ◌≡◌, [], ◌∷◌, ◌++◌, map, ap, ◌∙◌}
use Rattle.sem_words.specs.Lists.{list_items}
use Rattle.wasm_tree.specs.Views as views
use Rattle.wasm_tree.specs.declared.module.Body.{Body}
use Rattle.wasm_tree.specs.declared.code.Code.TheVariants as codes
use Rattle.wat_read_names.specs.Bound.{space_names}
use Rattle.wat_read_tokens.specs.Marks.{marks_of}
use Rattle.wat_read_fields.proofs.AddedFunction.{same_body, function_added}
use Rattle.wat_read_fields.proofs.lists.Functions.add.Goals as goal

pub returns : goal.returns
returns c = λ fs f h is e code.
    let names_of = space_names c.args.context.spaces.now in
    let types = map views.type_of c.args.context.types.now in
    let old = c.args.self.now in
    let number : list_items c.push.new.self ≡ list_items old.types ++ c.function_type_in.result ∷ [] = search rules in
    let added : Body = record { locals = c.in_ok-locals.locals; code = codes.Own c.from_vec.result } in
    let body : list_items c.push-2.new.self ≡ list_items old.bodies ++ added ∷ [] = search rules in
    function_added names_of types old _ fs f (marks_of c.args.parts.now) c.function_type_in.result added is e
    c.function_type_in.ensures number
    (same_body names_of types f (marks_of c.args.parts.now) added is e c.in_ok-locals.ensures (ap (map views.instr_of) c.from_vec.ensures ∙ code)) body h
