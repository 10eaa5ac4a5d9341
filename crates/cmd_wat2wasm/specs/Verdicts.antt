-- Why a text is refused, and what is written for another one.
use Rattle.std.specs.Prelude.{ℕ, List}
use Rattle.wasm_lang.specs.Modules.{WasmModule}
use Rattle.asm2wasm_lang.specs.Allowed.{IsShortest}
use Rattle.bridge_lang.specs.Reason.{not_wat, not_valid}
use Rattle.bridge_lang.specs.WatVerdicts.{IsValidWat, IsWatRefusal}
use Rattle.cmd_check_wasm.specs.declared.fault.CheckFault.TheVariants as checks
use Rattle.cmd_wat2wasm.specs.declared.fault.TextFault.{TextFault}
use Rattle.cmd_wat2wasm.specs.declared.fault.TextFault.TheVariants.{Unsaid, Check}

-- want of memory says nothing of the text, which isn't refused for what bytes are
abbrev pub IsRefused : List ℕ → TextFault → Type 0
IsRefused text (Unsaid row at) = IsWatRefusal text (not_wat row at)
IsRefused text (Check (checks.Invalid rule section index instruction)) = IsWatRefusal text (not_valid rule section index instruction)
IsRefused text (Check (checks.Binary row at)) = ⊥
IsRefused text (Check checks.Memory) = Unit {0}

pub record IsSpelledFor (text bytes : List ℕ) : Type 0 where
  pub «module» : WasmModule
  pub said : IsValidWat text «module»
  pub shortest : IsShortest bytes «module»
