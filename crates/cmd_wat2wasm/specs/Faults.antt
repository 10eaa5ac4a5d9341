-- What the code's faults are told as.
use Rattle.wat_marks.specs.declared.fault.WatFault.{WatFault}
use Rattle.wat_marks.specs.declared.fault.WatFault.TheVariants as texts
use Rattle.cmd_check_wasm.specs.declared.fault.CheckFault.TheVariants as checks
use Rattle.cmd_wat2wasm.specs.declared.fault.TextFault.{TextFault}
use Rattle.cmd_wat2wasm.specs.declared.fault.TextFault.TheVariants.{Unsaid, Check}

abbrev pub of_wat : WatFault → TextFault
of_wat (texts.Refused row at) = Unsaid row at
of_wat texts.Memory = Check checks.Memory
