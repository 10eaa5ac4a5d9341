use Rattle.std.proofs.Common.{rules, sym, ap, ◌∙◌}
use Rattle.asm_tree.specs.declared.tree.Module.{Module}
use Rattle.asm_tree.specs.Views.{module_view, init_view}
use Rattle.asm_lang_valid.specs.NameRows as rows
use Rattle.asm_validate_names.specs.declared.refusal.AsmRefusal.TheVariants.{Refused}
use Rattle.asm_validate_names.specs.Imported.{imports_view}
use Rattle.asm_validate_names.specs.Seen.{names}
use Rattle.asm_validate_names.proofs.Order.{err_row}
use Rattle.asm_validate_names.proofs.Rest.{added_new}
use Rattle.asm_validate_names.proofs.globals.global_names.Goals as goal

pub returns-in_err-global_row-clause-row : goal.returns-in_err-global_row-clause-row
returns-in_err-global_row-clause-row c =
    err_row _ _ (Refused c.in_err-global_row.field-0.0.rule c.in_err-global_row.field-0.0.node) (search rules) (c.in_err-global_row.ensures.row (names c.args.seen.now) c.in_ok-is_new.ensures.is_new)

pub returns-clause-row : goal.returns-clause-row
returns-clause-row c = c.in_ok-global_row.ensures.row (names c.args.seen.now) c.in_ok-is_new.ensures.is_new

pub returns-clause-seen : goal.returns-clause-seen
returns-clause-seen c = c.in_ok-is_new.ensures.added ∙ added_new _ _ (sym c.in_ok-global_row.ensures.is_new ∙ c.in_ok-is_new.ensures.is_new)

pub returns-clause-imports : goal.returns-clause-imports
returns-clause-imports c = c.in_ok-add_import.ensures ∙ ap (λ (h : Module). rows.with_import (module_view h) (init_view c.args.global.now.init) (imports_view c.args.imports.now)) c.home.ensures
