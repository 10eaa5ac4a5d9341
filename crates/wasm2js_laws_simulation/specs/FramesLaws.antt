-- Calls of the functions of a translated module follow.
use Rattle.std.specs.Prelude.{◌≡◌, ℕ, List, Some}
use Rattle.wasm_lang.specs.declared.types.ValType.{ValType}
use Rattle.wasm_lang.specs.Modules.{FunctionType}
use Rattle.wasm_lang_exec.specs.Code.{Trees}
use Rattle.wasm_lang_exec.specs.Reductions.{a_function, callee_at}
use Rattle.asm_laws_continuation.specs.Following.{call_at_to}
use Rattle.wasm2js_translation.specs.Modules.{translated}
use Rattle.wasm2js_laws_preservation.specs.ControlControl.{Function}
use Rattle.wasm2js_laws_preservation.specs.ComputedLaws.{IsHelped}
use Rattle.wasm2js_laws_simulation.specs.CallsCalled.{CallsFollow}
use Rattle.wasm2js_laws_simulation.specs.FramesFrames.{in_body, IsSettled, AreHelped, AccessesAreKept, ImportsFollow}

-- each body is a function whose helpers do what they should
abbrev pub BodiesAreHelped : Type 0
BodiesAreHelped =
    (f : Function) → IsSettled f → AreHelped f → (k : ℕ) (t : FunctionType) (more : List ValType) (code : Trees) → callee_at f.home k ≡ Some (a_function t more code) → (d : ℕ)
    → IsHelped (in_body f k t more code d)

-- calls follow from any caller, however deep they lie, where those of imported functions do
abbrev pub FunctionsFollow : Type 0
FunctionsFollow =
    (f : Function) → IsSettled f → AreHelped f → AccessesAreKept f → ImportsFollow f → f.scope.home ≡ translated f.home → f.calls ≡ call_at_to f.scope.home f.bound → CallsFollow f
