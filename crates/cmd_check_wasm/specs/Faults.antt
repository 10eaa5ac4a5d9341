-- What the code's faults are told as.
use Rattle.wasm_binary.specs.declared.fault.BinFault.{BinFault}
use Rattle.wasm_binary.specs.declared.fault.BinFault.TheVariants as binary
use Rattle.wasm_validate.specs.declared.fault.Invalid as validity
use Rattle.cmd_check_wasm.specs.declared.fault.CheckFault.{CheckFault}
use Rattle.cmd_check_wasm.specs.declared.fault.CheckFault.TheVariants.{Binary, Invalid, Memory}

abbrev pub of_binary : BinFault → CheckFault
of_binary (binary.Refused row at) = Binary row at
of_binary binary.Memory = Memory

abbrev pub of_invalid : validity.Invalid → CheckFault
of_invalid (validity.TheVariants.Rule rule section index instruction) = Invalid rule section index instruction
of_invalid validity.TheVariants.Memory = Memory
