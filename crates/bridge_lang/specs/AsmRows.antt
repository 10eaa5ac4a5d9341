-- What a text of asm.js breaks, by number and name, as it is printed.
use Rattle.std.specs.Prelude.{ℕ, List, codes}
use Rattle.asm_lang_valid.specs.RuleNames.{rule_name, rule_number}
use Rattle.bridge_lang.specs.declared.asm_rows.AsmRow.{AsmRow}
use Rattle.bridge_lang.specs.declared.asm_rows.AsmRow.TheVariants as rows

unfoldable pub row_name : AsmRow → List ℕ
row_name rows.NonAscii = codes "A1 NonAscii"
row_name rows.BadToken = codes "A2 BadToken"
row_name rows.OpenComment = codes "A3 OpenComment"
row_name rows.LiteralForm = codes "A4 LiteralForm"
row_name rows.Grammar = codes "A5 Grammar"
row_name rows.NoUseAsm = codes "A6 NoUseAsm"
row_name rows.Height = codes "A7 Height"
row_name (rows.Rule rule) = rule_name rule

abbrev pub row_number : AsmRow → ℕ
row_number rows.NonAscii = 1
row_number rows.BadToken = 2
row_number rows.OpenComment = 3
row_number rows.LiteralForm = 4
row_number rows.Grammar = 5
row_number rows.NoUseAsm = 6
row_number rows.Height = 7
row_number (rows.Rule rule) = rule_number rule
