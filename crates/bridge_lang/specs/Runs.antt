-- Modules that are run, and what is printed of a script's run on one.
use Rattle.std.specs.Prelude.{ℕ, List, Result}
use Rattle.session_lang.specs.Script.{ScriptPlain}
use Rattle.asm_lang.specs.Modules.{Module}
use Rattle.asm_lang_valid.specs.Texts.{IsAcceptedText}
use Rattle.bridge_lang.specs.AsmRuns as texts
use Rattle.wasm_lang.specs.Modules.{WasmModule}
use Rattle.bridge_lang.specs.WasmRuns.{IsRunnable}
use Rattle.bridge_lang.specs.WasmRuns as binaries
use Rattle.bridge_lang.specs.Command.{Running, as_text, as_binary}

-- a module that is run; one of asm.js with a heap of so many bytes
pub data Runner : Type 0 where
  text_runner : Module → (heap : ℕ) → Runner
  binary_runner : WasmModule → Runner

-- the bytes are this module, which is run
pub data IsRunner (bytes : List ℕ) : Running → Runner → Type 0 where
  a_text : {heap : ℕ} (m : Module) → IsAcceptedText bytes m → IsRunner bytes (as_text heap) (text_runner m heap)
  a_binary : (m : WasmModule) → IsRunnable bytes m → IsRunner bytes as_binary (binary_runner m)

-- the script that a text says, or the first line that isn't taken
abbrev pub script_for : Runner → List ℕ → Result ScriptPlain ℕ
script_for (text_runner m heap) text = texts.script_for m heap text
script_for (binary_runner m) text = binaries.script_for m text

-- the output is what is seen of the text's script after so many units or reductions
abbrev pub Prints : Runner → List ℕ → ℕ → List ℕ → Type 0
Prints (text_runner m heap) text steps output = texts.Prints m heap text steps output
Prints (binary_runner m) text steps output = binaries.Prints m text steps output
