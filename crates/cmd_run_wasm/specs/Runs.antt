-- Which texts are no scripts that fit a module.
use Rattle.std.specs.Prelude.{◌≡◌, ℕ, List, Err}
use Rattle.script_read.specs.declared.fault.ScriptFault.{ScriptFault}
use Rattle.script_read.specs.declared.fault.ScriptFault.TheVariants.{Refused, Memory}
use Rattle.wasm_lang.specs.Modules.{WasmModule}
use Rattle.bridge_lang.specs.WasmRuns.{script_for}

-- want of memory says nothing of the text
abbrev pub IsScriptRefusal : WasmModule → List ℕ → ScriptFault → Type 0
IsScriptRefusal m text (Refused line) = script_for m text ≡ Err line
IsScriptRefusal m text Memory = Unit {0}
