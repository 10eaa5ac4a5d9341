use Rattle.std.proofs.Common.{rules}
use Rattle.sem_words.specs.Lists.{text_bytes}
use Rattle.asm_lang_valid.specs.NameRows as rows
use Rattle.asm_validate_names.specs.Seen.{names}
use Rattle.asm_validate_names.proofs.Order.{err_row, row_before}
use Rattle.asm_validate_names.proofs.tables.export_names.Goals as goal

pub returns-in_err-declare_key-clause-row : goal.returns-in_err-declare_key-clause-row
returns-in_err-declare_key-clause-row c =
    err_row _ _ c.in_err-declare_key.field-0.0 (search rules) (row_before (rows.declares_key (names c.args.keys.now) (text_bytes c.args.export.now.key) c.args.node) _ _ c.in_err-declare_key.ensures.row)
