-- What a refusal says of a text.
use Rattle.std.specs.Prelude.{ℕ, ◌<◌, List, length, slice_index}
use Rattle.asm_lang_valid.specs.declared.rule.Rule.{Rule}
use Rattle.asm_text.specs.declared.fault.TextFault.{TextFault}
use Rattle.asm_text.specs.declared.fault.TextFault.TheVariants as texts
use Rattle.asm_validate_names.specs.declared.refusal.AsmRefusal.{AsmRefusal}
use Rattle.asm_validate_names.specs.declared.refusal.AsmRefusal.TheVariants as refusals
use Rattle.bridge_lang.specs.declared.asm_rows.AsmRow.TheVariants as rows
use Rattle.cmd_check_asm.specs.declared.fault.CheckFault.{CheckFault}
use Rattle.cmd_check_asm.specs.declared.fault.CheckFault.TheVariants.{Refused, Memory}

-- the refusal, if it isn't want of memory, names a node that has a place
abbrev pub IsWithin : List ℕ → AsmRefusal → Type 0
IsWithin places (refusals.Refused rule node) = node < length places
IsWithin places refusals.Memory = Unit {0}

abbrev pub of_text : TextFault → CheckFault
of_text (texts.NonAscii at) = Refused rows.NonAscii at
of_text (texts.BadToken at) = Refused rows.BadToken at
of_text (texts.OpenComment at) = Refused rows.OpenComment at
of_text (texts.LiteralForm at) = Refused rows.LiteralForm at
of_text (texts.Grammar at) = Refused rows.Grammar at
of_text (texts.NoUseAsm at) = Refused rows.NoUseAsm at
of_text (texts.Height at) = Refused rows.Height at
of_text texts.Memory = Memory

abbrev pub of_module : List ℕ → AsmRefusal → CheckFault
of_module places (refusals.Refused rule node) = Refused (rows.Rule rule) (slice_index places node)
of_module places refusals.Memory = Memory
