-- Calls of the functions of a translated module follow, where a reduction may pay for each loop over the memory that occurs.
use Rattle.std.specs.Prelude.{◌≡◌, ℕ, ◌+◌, ◌≤◌, true, false, List, Some}
use Rattle.wasm_lang.specs.declared.types.ValType.{ValType}
use Rattle.wasm_lang.specs.Modules.{FunctionType, WasmModule}
use Rattle.wasm_lang_valid.specs.Profile.{memory_bytes}
use Rattle.wasm_lang_exec.specs.Code.{Trees}
use Rattle.wasm_lang_exec.specs.Reductions.{a_function, callee_at}
use Rattle.asm_laws_continuation.specs.Following.{call_at_to}
use Rattle.wasm2js_lang.specs.Allowed.{has_block_operations}
use Rattle.wasm2js_translation.specs.Modules.{translated}
use Rattle.wasm2js_laws_preservation.specs.ControlControl.{Function}
use Rattle.wasm2js_laws_preservation.specs.OccurringLaws.{AllPlain}
use Rattle.wasm2js_laws_preservation.specs.MemoryLaws.{moves_run}
use Rattle.wasm2js_laws_simulation.specs.CallsCalled.{CallsFollow}
use Rattle.wasm2js_laws_simulation.specs.FramesFrames.{IsSettled}
use Rattle.wasm2js_laws_simulation.specs.ImportsLaws.{IsSplit}
use Rattle.wasm2js_laws_simulation.specs.HostHosts.{HostedCallsFollow}

-- where a body copies or fills, a reduction may pay for a loop over the whole memory
abbrev pub PaysForMoves : Function → Type 0
PaysForMoves f =
    (k : ℕ) (t : FunctionType) (more : List ValType) (code : Trees) → callee_at f.home k ≡ Some (a_function t more code)
    → AllPlain (λ p. moves_run p ≡ true → f.setting.bytes + 80 ≤ f.pace) code

-- from any caller
abbrev pub SettledCallsFollow : Type 0
SettledCallsFollow =
    (f : Function) → IsSettled f → IsSplit f → 68 ≤ f.pace → PaysForMoves f → f.scope.home ≡ translated f.home → f.calls ≡ call_at_to f.scope.home f.bound → CallsFollow f

-- from the host
abbrev pub HostedCallsAreFollowed : Type 0
HostedCallsAreFollowed = (w : WasmModule) (pace : ℕ) → memory_bytes w + 80 ≤ pace → HostedCallsFollow w pace

-- .. and where no body copies or fills, however large the memory is
abbrev pub UnmovedCallsAreFollowed : Type 0
UnmovedCallsAreFollowed = (w : WasmModule) (pace : ℕ) → has_block_operations w ≡ false → 68 ≤ pace → HostedCallsFollow w pace
