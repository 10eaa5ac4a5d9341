-- What the calling form alone gives: each script that fits a module of WebAssembly fits one of asm.js that is called as asked, and the
-- heap begins with the memory.
use Rattle.std.specs.Prelude.{◌≡◌, ℕ, List, length, take, Some, None}
use Rattle.std.specs.List.{AllByRecursion}
use Rattle.hex.specs.Hex.{IsBytes}
use Rattle.session_lang.specs.Script.{ScriptPlain}
use Rattle.session_lang.specs.CallingForms.{shape_of_name}
use Rattle.wasm_lang.specs.Modules.{FunctionType, Exported, WasmModule}
use Rattle.wasm_lang.specs.Shape.{IsShaped}
use Rattle.wasm_lang_valid.specs.Profile.{outside_profile}
use Rattle.wasm_lang_exec.specs.Session.{function_named, first_memory}
use Rattle.wasm_lang_exec.specs.Fits as machine
use Rattle.asm_lang.specs.Modules.{Module}
use Rattle.asm_lang_exec.specs.Session.{first_heap}
use Rattle.asm_lang_exec.specs.Fits.{misfit}
use Rattle.wasm2js_lang.specs.Heaps.{heap_bytes}
use Rattle.wasm2js_lang.specs.Calling.{shape, shapes_of, IsCalledAs}
use Rattle.wasm2js_lang.specs.Allowed.{script_for}

-- the function that is exported under a name has the shape of its type
abbrev pub ShapesAreFound : Type 0
ShapesAreFound = (w : WasmModule) (name : List ℕ) (t : FunctionType) → machine.type_at w (function_named w.exports name) ≡ Some t → shape_of_name (shapes_of w) name ≡ Some (shape (record { key = name; type = t }))

abbrev pub ExportsAreBytes : WasmModule → Type 0
ExportsAreBytes w = AllByRecursion (λ (e : Exported). IsBytes e.name) w.exports

-- .. as those of a module that bytes spell are
abbrev pub ShapedExportsAreBytes : Type 0
ShapedExportsAreBytes = (w : WasmModule) → IsShaped w → ExportsAreBytes w

abbrev pub ScriptsFit : Type 0
ScriptsFit =
    (w : WasmModule) (a : Module) (s : ScriptPlain) → outside_profile w ≡ None → ExportsAreBytes w → IsCalledAs w a → machine.misfit w s ≡ None
    → misfit a (heap_bytes w) (script_for w s) ≡ None

abbrev pub HeapsBegin : Type 0
HeapsBegin =
    (w : WasmModule) (a : Module) (s : ScriptPlain) → IsCalledAs w a → machine.misfit w s ≡ None
    → take (length (first_memory w s)) (first_heap a (heap_bytes w) (script_for w s)) ≡ first_memory w s
