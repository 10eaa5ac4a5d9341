-- Why bytes spell no module that is run.
use Rattle.std.specs.Prelude.{ℕ, List}
use Rattle.cmd_check_wasm.specs.Verdicts.{IsRefused}
use Rattle.bridge_lang.specs.WasmRuns.{IsOutside}
use Rattle.cmd_run_wasm.specs.declared.fault.RunFault.{RunFault}
use Rattle.cmd_run_wasm.specs.declared.fault.RunFault.TheVariants.{Check, Outside}

abbrev pub IsNotRun : List ℕ → RunFault → Type 0
IsNotRun bytes (Check fault) = IsRefused bytes fault
IsNotRun bytes (Outside row) = IsOutside bytes row
