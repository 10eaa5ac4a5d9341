use Rattle.std.proofs.Common.{ap, sym, ◌∙◌}
use Rattle.asm_tree.specs.declared.tree.Module.{Module}
use Rattle.asm_tree.specs.Views.{module_view}
use Rattle.asm_lang_valid.specs.Rows.{first}
use Rattle.asm_lang_valid.specs.NameRows as rows
use Rattle.asm_validate_names.proofs.Bindings.{nothing}
use Rattle.asm_validate_names.proofs.names.check_names.Goals as goal

pub returns-clause-exactly : goal.returns-clause-exactly
returns-clause-exactly c = nothing (rows.name_rows (module_view c.args.«module».now)) (ap (λ (h : Module). first (rows.name_rows (module_view h))) (sym c.in_ok-environment.ensures.of) ∙ c.in_ok-module_names.ensures)
