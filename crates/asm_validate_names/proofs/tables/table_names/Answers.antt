use Rattle.std.proofs.Common.{rules, sym, ap, ◌∙◌}
use Rattle.sem_words.specs.Lists.{list_items, text_bytes}
use Rattle.asm_tree.specs.Views.{module_view, texts_view}
use Rattle.asm_lang_valid.specs.Rows.{first}
use Rattle.asm_lang_valid.specs.NameRows as rows
use Rattle.asm_validate_names.specs.declared.refusal.AsmRefusal.TheVariants.{Refused}
use Rattle.asm_validate_names.specs.Seen.{names}
use Rattle.asm_validate_names.proofs.Found.{first_after}
use Rattle.asm_validate_names.proofs.Order.{err_row, row_before}
use Rattle.asm_validate_names.proofs.tables.table_names.Goals as goal

pub returns-in_err-declare-clause-row : goal.returns-in_err-declare-clause-row
returns-in_err-declare-clause-row c =
    err_row _ _ c.in_err-declare.field-0.0 (search rules) (row_before (rows.declares (names c.args.seen.now) (text_bytes c.args.table.now.name) c.args.node) _ _ c.in_err-declare.ensures.row)

pub returns-in_err-use_functions-clause-row : goal.returns-in_err-use_functions-clause-row
returns-in_err-use_functions-clause-row c =
    err_row _ _ (Refused c.in_err-use_functions.field-0.0.rule c.in_err-use_functions.field-0.0.node) (search rules)
    (first_after (rows.declares (names c.args.seen.now) (text_bytes c.args.table.now.name) c.args.node) (rows.function_uses (module_view c.args.environment.now.home.now) (texts_view (list_items c.args.table.now.members)) c.args.node) c.in_ok-declare.ensures.row
    ∙ ap (λ l. first (rows.function_uses (module_view c.args.environment.now.home.now) (texts_view l) c.args.node)) (sym c.as_slice.ensures)
    ∙ c.in_err-use_functions.ensures)

pub returns-clause-row : goal.returns-clause-row
returns-clause-row c =
    first_after (rows.declares (names c.args.seen.now) (text_bytes c.args.table.now.name) c.args.node) (rows.function_uses (module_view c.args.environment.now.home.now) (texts_view (list_items c.args.table.now.members)) c.args.node) c.in_ok-declare.ensures.row
    ∙ ap (λ l. first (rows.function_uses (module_view c.args.environment.now.home.now) (texts_view l) c.args.node)) (sym c.as_slice.ensures)
    ∙ c.in_ok-use_functions.ensures
