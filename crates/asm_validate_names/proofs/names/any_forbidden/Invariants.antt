use Rattle.std.proofs.Common.{◌≡◌, drop}
use Rattle.asm_tree.specs.Views.{texts_view}
use Rattle.asm_lang_valid.specs.NameRows as rows
use Rattle.asm_validate_names.proofs.names.any_forbidden.Given as goal

abbrev pub invariant-loop-param : goal.invariant-loop-param
invariant-loop-param l = rows.any_forbidden (texts_view l.params) ≡ rows.any_forbidden (texts_view (drop l.param-index l.params))
