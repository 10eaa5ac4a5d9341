-- From asm.js to WebAssembly and back.
use Rattle.std.specs.Prelude.{◌≡◌, ℕ, None}
use Rattle.session_lang.specs.Script.{ScriptPlain}
use Rattle.session_lang.specs.Simulation.{Session, Sim}
use Rattle.session_lang.specs.CallingForms.{script_to_wasm}
use Rattle.session_lang.specs.Laws.{comparison_there_and_back}
use Rattle.wasm_lang.specs.Modules.{WasmModule}
use Rattle.asm_lang.specs.Modules.{Module}
use Rattle.asm_lang_exec.specs.Session.{asm, first_heap}
use Rattle.asm_lang_exec.specs.Fits.{misfit}
use Rattle.asm2wasm_lang.specs.Heaps.{pages_for}
use Rattle.asm2wasm_lang.specs.Allowed as there
use Rattle.asm2wasm_lang.specs.Allowed.{or_nothing}
use Rattle.wasm2js_lang.specs.Heaps.{heap_for}
use Rattle.wasm2js_lang.specs.Allowed as back
use Rattle.wasm2js_lang.specs.Allowed.{script_for}

-- the script goes over twice, and the heap is that of the pages that held the first one
abbrev pub script_back : WasmModule → ScriptPlain → ScriptPlain
script_back w s = script_for w (script_to_wasm s)

abbrev pub size_back : ℕ → ℕ
size_back size = heap_for (pages_for size)

abbrev pub session_back : ℕ → WasmModule → Module → ScriptPlain → Session
session_back size w b s n = or_nothing (asm b (size_back size) (script_back w s) n)

-- what may be written for a module, and then for that, simulates the module, with each script that fits it
abbrev pub RoundTripsSimulate : Type 0
RoundTripsSimulate =
    (a : Module) (size : ℕ) (w : WasmModule) (b : Module) → there.IsAllowed a size w → back.IsAllowed w b
    → (s : ScriptPlain) → misfit a size s ≡ None
    → Sim (comparison_there_and_back (first_heap b (size_back size) (script_back w s))) (there.source_session a size s) (session_back size w b s)
