-- Why bytes are refused.
use Rattle.std.specs.Prelude.{ℕ, List}
use Rattle.wasm_lang.specs.Bytes.{IsFirstFault}
use Rattle.wasm_lang_valid.specs.Bytes.{IsInvalidBytes}
use Rattle.cmd_check_wasm.specs.declared.fault.CheckFault.{CheckFault}
use Rattle.cmd_check_wasm.specs.declared.fault.CheckFault.TheVariants.{Binary, Invalid, Memory}

-- want of memory says nothing of the bytes
abbrev pub IsRefused : List ℕ → CheckFault → Type 0
IsRefused bytes (Binary row at) = IsFirstFault bytes row at
IsRefused bytes (Invalid rule section index instruction) = IsInvalidBytes bytes rule section index instruction
IsRefused bytes Memory = Unit {0}
