-- What becomes of a text that is translated to WebAssembly and back.
use Rattle.std.specs.Prelude.{◌≡◌, ℕ, List, None}
use Rattle.session_lang.specs.Script.{ScriptPlain}
use Rattle.session_lang.specs.Simulation.{Sim}
use Rattle.session_lang.specs.Laws.{comparison_there_and_back}
use Rattle.wasm_lang.specs.Modules.{WasmModule}
use Rattle.wasm_lang_valid.specs.Bytes.{IsValidBytes}
use Rattle.asm_lang.specs.Modules.{Module}
use Rattle.asm_lang_valid.specs.Texts.{IsAcceptedText}
use Rattle.asm_lang_exec.specs.Session.{first_heap}
use Rattle.asm_lang_exec.specs.Fits.{misfit}
use Rattle.asm2wasm_lang.specs.Allowed.{source_session}
use Rattle.wasm2js_lang.specs.RoundTrips.{script_back, size_back, session_back}
use Rattle.bridge_lang.specs.declared.making.Making.TheVariants.{WasmToAsm}
use Rattle.bridge_lang.specs.Command.{make, translate}
use Rattle.bridge_lang.specs.Job.{IsMade}

-- where `asm2wasm` makes the bytes of a text, and `wasm2js` another text of those, the second text simulates the first one, with
-- each script that fits it
abbrev pub WrittenBackSimulate : Type 0
WrittenBackSimulate =
    (text bytes output : List ℕ) (heap : ℕ) → IsMade (translate heap) text bytes → IsMade (make WasmToAsm) bytes output
    → (a b : Module) (w : WasmModule) → IsAcceptedText text a → IsValidBytes bytes w → IsAcceptedText output b
    → (s : ScriptPlain) → misfit a heap s ≡ None
    → Sim (comparison_there_and_back (first_heap b (size_back heap) (script_back w s))) (source_session a heap s) (session_back heap w b s)
