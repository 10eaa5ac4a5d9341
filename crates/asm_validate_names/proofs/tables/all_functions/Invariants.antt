use Rattle.std.proofs.Common.{◌≡◌, drop}
use Rattle.asm_tree.specs.Views.{module_view, texts_view}
use Rattle.asm_lang_valid.specs.NameRows as rows
use Rattle.asm_validate_names.proofs.tables.all_functions.Given as goal

abbrev pub invariant-loop-member : goal.invariant-loop-member
invariant-loop-member l = rows.all_functions (module_view l.environment.home.now) (texts_view l.members) ≡ rows.all_functions (module_view l.environment.home.now) (texts_view (drop l.member-index l.members))
