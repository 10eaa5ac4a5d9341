-- Which bytes spell a module that is run, which texts are scripts that fit it, and what is printed of their runs.
use Rattle.std.specs.Prelude.{◌≡◌, ℕ, List, Some, None, Result, Ok}
use Rattle.session_lang.specs.Script.{ScriptPlain}
use Rattle.session_lang.specs.Fits.{fitting}
use Rattle.script_lang.specs.Reading.{said_script}
use Rattle.script_lang.specs.Texts.{observation_text}
use Rattle.wasm_lang.specs.Modules.{WasmModule}
use Rattle.wasm_lang_valid.specs.declared.profile.Outside.{Outside as Row}
use Rattle.wasm_lang_valid.specs.Runnable.{not_runnable}
use Rattle.wasm_lang_valid.specs.Bytes.{IsValidBytes}
use Rattle.wasm_lang_exec.specs.Fits.{misfit}
use Rattle.wasm_lang_exec.specs.Session.{wasm}

-- ---- modules

-- the bytes spell this valid module, and it meets no row of those that aren't run
pub record IsRunnable (bytes : List ℕ) (m : WasmModule) : Type 0 where
  pub taken : IsValidBytes bytes m
  pub runs : not_runnable m ≡ None

-- the bytes spell a valid module, and this is the first row that it meets
pub record IsOutside (bytes : List ℕ) (row : Row) : Type 0 where
  pub «module» : WasmModule
  pub taken : IsValidBytes bytes «module»
  pub meets : not_runnable «module» ≡ Some row

-- ---- scripts

-- the script that the text says, where it fits the module; or the first line that isn't in the grammar, or else the misfit's
abbrev pub script_for : WasmModule → List ℕ → Result ScriptPlain ℕ
script_for m text = fitting (misfit m) (said_script text)

-- the output is what is seen of the session of the text's script after so many reductions
pub record Prints (m : WasmModule) (text : List ℕ) (steps : ℕ) (output : List ℕ) : Type 0 where
  pub script : ScriptPlain
  pub said : script_for m text ≡ Ok script
  pub printed : output ≡ observation_text (wasm m script steps)
