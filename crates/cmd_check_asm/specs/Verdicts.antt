-- What a refusal says of a text, and that a text has a verdict.
use Rattle.std.specs.Prelude.{◌≡◌, ℕ, List}
use Rattle.asm_lang.specs.Modules.{Module}
use Rattle.asm_lang_valid.specs.Texts.{IsAcceptedText}
use Rattle.cmd_check_asm.specs.declared.fault.CheckFault.{CheckFault}
use Rattle.cmd_check_asm.specs.declared.fault.CheckFault.TheVariants.{Refused, Memory}
use Rattle.bridge_lang.specs.AsmVerdicts.{IsRefusedText}

-- want of memory says nothing of the text
abbrev pub IsRefusal : List ℕ → CheckFault → Type 0
IsRefusal text (Refused row at) = IsRefusedText text row at
IsRefusal text Memory = Unit {0}

-- the text is refused, and not for want of memory
abbrev pub HasRefusal : List ℕ → CheckFault → Type 0
HasRefusal text e = IsRefusal text e × (¬ (e ≡ Memory))

-- A text is accepted, or refused.
pub data Verdict (text : List ℕ) : Type 0 where
  accepted : (m : Module) → IsAcceptedText text m → Verdict text
  refused : (e : CheckFault) → HasRefusal text e → Verdict text
