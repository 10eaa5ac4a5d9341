-- Which texts are scripts that fit a module of asm.js with a heap of so many bytes, and what is printed of their runs.
use Rattle.std.specs.Prelude.{◌≡◌, ℕ, List, Some, Result, Ok}
use Rattle.session_lang.specs.Observation.{ObservationPlain}
use Rattle.session_lang.specs.Script.{ScriptPlain}
use Rattle.session_lang.specs.Fits.{fitting}
use Rattle.script_lang.specs.Reading.{said_script}
use Rattle.script_lang.specs.Texts.{observation_text}
use Rattle.asm_lang.specs.Modules.{Module}
use Rattle.asm_lang_exec.specs.Fits.{misfit}
use Rattle.asm_lang_exec.specs.Session.{asm}

-- the script that the text says, where it fits the module; or the first line that isn't in the grammar, or else the misfit's
abbrev pub script_for : Module → ℕ → List ℕ → Result ScriptPlain ℕ
script_for m size text = fitting (misfit m size) (said_script text)

-- the output is what is seen of the script's session with this budget of units
pub record Shows (m : Module) (size : ℕ) (script : ScriptPlain) (budget : ℕ) (output : List ℕ) : Type 0 where
  pub seen : ObservationPlain
  pub meaning : asm m size script budget ≡ Some seen
  pub printed : output ≡ observation_text seen

-- .. of the session of the text's script
pub record Prints (m : Module) (size : ℕ) (text : List ℕ) (budget : ℕ) (output : List ℕ) : Type 0 where
  pub script : ScriptPlain
  pub said : script_for m size text ≡ Ok script
  pub shows : Shows m size script budget output
