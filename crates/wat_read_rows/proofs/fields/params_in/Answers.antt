use Rattle.std.proofs.Common.{◌≤◌, ◌-◌, ◌^◌, ap, ◌∙◌, map, length, arith}
use Rattle.std.proofs.lemmas.List.{length-map}
use Rattle.wasm_lang.specs.Limits as limits
use Rattle.wasm_tree.specs.Views.{type_of}
use Rattle.wat_lang.specs.Modules.{function_type_in}
use Rattle.wat_read_names.specs.Bound.{space_names}
use Rattle.wat_read_tokens.specs.Marks.{marks_of}
use Rattle.wat_read_rows.proofs.Params.{params_capped}
use Rattle.wat_read_rows.proofs.fields.params_in.Goals as goal

pub returns : goal.returns
returns c =
    let types = map type_of c.args.types.now in
    let few : length types ≤ 2 ^ 64 - 1 = omega (arith, length-map c.args.types.now type_of) in
    c.params_of.ensures ∙ ap (limits.params_of types) c.capped_use.ensures
    ∙ params_capped types (function_type_in (space_names c.args.spaces.now) (marks_of c.args.parts.now)) (2 ^ 64 - 1) few
