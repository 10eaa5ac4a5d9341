-- What is printed of a script's run on the module that bytes spell, and which scripts are refused for it.
use Rattle.std.specs.Prelude.{ℕ, List}
use Rattle.script_read.specs.declared.fault.ScriptFault.{ScriptFault}
use Rattle.wasm_lang.specs.Modules.{WasmModule}
use Rattle.bridge_lang.specs.WasmRuns.{IsRunnable}
use Rattle.bridge_lang.specs.WasmRuns.{Prints}
use Rattle.cmd_run_wasm.specs.Runs.{IsScriptRefusal}

-- the bytes spell a module that is run, and the output is printed of the script's run on it
pub record IsPlayed (bytes text : List ℕ) (steps : ℕ) (output : List ℕ) : Type 0 where
  pub «module» : WasmModule
  pub taken : IsRunnable bytes «module»
  pub prints : Prints «module» text steps output

-- the bytes spell a module that is run, and the script is refused for it
pub record IsUnplayed (bytes text : List ℕ) (fault : ScriptFault) : Type 0 where
  pub «module» : WasmModule
  pub taken : IsRunnable bytes «module»
  pub refusal : IsScriptRefusal «module» text fault
