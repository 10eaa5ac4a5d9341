-- Which texts are accepted, and why any other is refused.
use Rattle.std.specs.Prelude.{◌≡◌, ℕ, List, [], ◌∷◌, length, codes, decimal}
use Rattle.std.specs.List.{concat}
use Rattle.asm_lang.specs.Modules.{Module}
use Rattle.asm_lang.specs.Texts as texts
use Rattle.asm_lang_valid.specs.Rows.{exports_count}
use Rattle.asm_lang_valid.specs.LimitRows.{foreign_calls}
use Rattle.asm_lang_valid.specs.Texts.{IsAcceptedText, IsRefusedModule}
use Rattle.bridge_lang.specs.declared.asm_rows.AsmRow.{AsmRow}
use Rattle.bridge_lang.specs.declared.asm_rows.AsmRow.TheVariants as rows

-- the functions, the tables, the exports, and the calls of foreign functions
abbrev pub counts_line : Module → List ℕ
counts_line m = concat (codes "asm.js functions " ∷ decimal (length m.functions) ∷ codes " tables " ∷ decimal (length m.tables)
    ∷ codes " exports " ∷ decimal (exports_count m.exports) ∷ codes " foreign " ∷ decimal (length (foreign_calls m)) ∷ codes "\n" ∷ [])

-- the text is accepted, and the output is the counts of its module
pub record IsCounted (text output : List ℕ) : Type 0 where
  pub «module» : Module
  pub accepted : IsAcceptedText text «module»
  pub counted : output ≡ counts_line «module»

-- why a text isn't accepted, and the offset in bytes
abbrev pub IsRefusedText : List ℕ → AsmRow → ℕ → Type 0
IsRefusedText text rows.NonAscii at = texts.IsFault text texts.non_ascii at
IsRefusedText text rows.BadToken at = texts.IsFault text texts.bad_token at
IsRefusedText text rows.OpenComment at = texts.IsFault text texts.open_comment at
IsRefusedText text rows.LiteralForm at = texts.IsFault text texts.literal_form at
IsRefusedText text rows.Grammar at = texts.IsFault text texts.grammar at
IsRefusedText text rows.NoUseAsm at = texts.IsFault text texts.no_use_asm at
IsRefusedText text rows.Height at = texts.IsFault text texts.height at
IsRefusedText text (rows.Rule rule) at = IsRefusedModule text rule at
