-- The faults of code as those of texts.
use Rattle.std.specs.Prelude.{ℕ, List}
use Rattle.asm_lang.specs.Texts as texts
use Rattle.asm_text.specs.declared.fault.TextFault.{TextFault}
use Rattle.asm_text.specs.declared.fault.TextFault.TheVariants as faults

-- want of memory says nothing of the text
abbrev pub IsFault : List ℕ → TextFault → Type 0
IsFault text (faults.NonAscii at) = texts.IsFault text texts.non_ascii at
IsFault text (faults.BadToken at) = texts.IsFault text texts.bad_token at
IsFault text (faults.OpenComment at) = texts.IsFault text texts.open_comment at
IsFault text (faults.LiteralForm at) = texts.IsFault text texts.literal_form at
IsFault text (faults.Grammar at) = texts.IsFault text texts.grammar at
IsFault text (faults.NoUseAsm at) = texts.IsFault text texts.no_use_asm at
IsFault text (faults.Height at) = texts.IsFault text texts.height at
IsFault text faults.Memory = Unit {0}
