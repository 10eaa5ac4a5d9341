-- What an instance stands for.
use Rattle.std.specs.Prelude.{◌≡◌, ℕ, List, [], Option, None}
use Rattle.session_lang.specs.Script.{ScriptPlain}
use Rattle.session_lang.specs.Imports.{first_replies}
use Rattle.wasm_lang.specs.Modules.{WasmModule}
use Rattle.wasm_lang_exec.specs.Session.{first_store}
use Rattle.wasm_lang_exec.specs.Fits.{misfit}
use Rattle.wasm_laws_sound.specs.Laws.{IsWhole}
use Rattle.wasm_run_operands.specs.declared.state.State.{State}
use Rattle.wasm_run_operands.specs.Effects.{store_of}
use Rattle.wasm_run_machine.specs.declared.functions.Function.{Function}
use Rattle.wasm_run_machine.specs.Functions.{AreFunctions, AllHaveForms}
use Rattle.wasm_run.specs.Exports.{callees_of}

-- a module and the script that it is run with
pub record InstancePlain : Type 0 where
  pub code : WasmModule
  pub script : ScriptPlain

-- the functions, those that the script's calls name, and the first state of both
pub record IsInstance (m : WasmModule) (script : ScriptPlain) (functions : List Function) (called : List (Option ℕ)) (state : State) : Type 0 where
  pub whole : IsWhole m
  pub fits : misfit m script ≡ None
  pub each : AreFunctions m functions
  pub forms : AllHaveForms functions
  pub calls : called ≡ callees_of m script.calls
  pub begins : store_of state [] (first_replies script) ≡ first_store m script
