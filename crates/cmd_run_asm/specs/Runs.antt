-- Which texts are no scripts that fit a module of asm.js.
use Rattle.std.specs.Prelude.{◌≡◌, ℕ, List, Err}
use Rattle.script_read.specs.declared.fault.ScriptFault.{ScriptFault}
use Rattle.script_read.specs.declared.fault.ScriptFault.TheVariants.{Refused, Memory}
use Rattle.asm_lang.specs.Modules.{Module}
use Rattle.bridge_lang.specs.AsmRuns.{script_for}

-- want of memory says nothing of the text
abbrev pub IsScriptRefusal : Module → ℕ → List ℕ → ScriptFault → Type 0
IsScriptRefusal m size text (Refused line) = script_for m size text ≡ Err line
IsScriptRefusal m size text Memory = Unit {0}
