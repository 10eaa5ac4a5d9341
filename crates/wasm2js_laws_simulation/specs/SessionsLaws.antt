-- What holds of the whole sessions of a module of WebAssembly and of its translation, where calls follow.
use Rattle.std.specs.Prelude.{◌≡◌, ℕ, ◌+◌, ◌*◌, ◌≤◌, false, length, None}
use Rattle.session_lang.specs.Script.{ScriptPlain}
use Rattle.session_lang.specs.Simulation.{SourceIsBelow, Sim}
use Rattle.session_lang.specs.Laws.{IsFollowed}
use Rattle.wasm_lang.specs.Modules.{WasmModule}
use Rattle.wasm_lang_exec.specs.Fits.{misfit}
use Rattle.wasm2js_lang.specs.Calling.{IsCalledAs}
use Rattle.wasm2js_lang.specs.Allowed.{source_session, target_session, comparison, segment_bytes, enough_for, has_block_operations, IsAllowed, IsBounded}
use Rattle.wasm2js_translation.specs.Modules.{translated}
use Rattle.wasm2js_laws_acceptance.specs.FunctionsFunctions.{IsSource}
use Rattle.wasm2js_laws_acceptance.specs.AcceptedLaws.{HaveFirstWords}
use Rattle.wasm2js_laws_simulation.specs.HostHosts.{HostedCallsFollow}

-- what is asked of a module at a pace of so many units a reduction: the module can be translated, its translation is called as asked, and
-- calls of its functions follow
pub record IsReady (w : WasmModule) (pace : ℕ) : Type 0 where
  pub source : IsSource w
  pub words : HaveFirstWords w
  pub called : IsCalledAs w (translated w)
  pub some : 1 ≤ pace
  pub follow : HostedCallsFollow w pace

-- what the target shows with a number of units lies between two sights of the source, and no more than so many units are worth a reduction
abbrev pub SessionsAreFollowed : Type 0
SessionsAreFollowed =
    (w : WasmModule) (pace : ℕ) → IsReady w pace → (s : ScriptPlain) → misfit w s ≡ None
    → (units : ℕ) → IsFollowed (comparison w (translated w) s) (source_session w s) (target_session w (translated w) s) (λ m. pace * (m + length s.calls + segment_bytes w.segments + 1)) units

-- .. so that the two simulate each other
abbrev pub SessionsSimulate : Type 0
SessionsSimulate =
    (w : WasmModule) (pace : ℕ) → IsReady w pace → (s : ScriptPlain) → misfit w s ≡ None
    → Sim (comparison w (translated w) s) (source_session w s) (target_session w (translated w) s)

-- .. and at a pace of 256 so many units are enough
abbrev pub SessionsAreBounded : Type 0
SessionsAreBounded =
    (w : WasmModule) → IsReady w 256 → (s : ScriptPlain) → misfit w s ≡ None
    → (m : ℕ) → SourceIsBelow (comparison w (translated w) s) (source_session w s m) (target_session w (translated w) s (enough_for w s m))

abbrev pub TranslationsAreAllowed : Type 0
TranslationsAreAllowed = (w : WasmModule) (pace : ℕ) → IsReady w pace → IsAllowed w (translated w)

-- a module that moves whole blocks of bytes may need another pace
abbrev pub TranslationsAreBounded : Type 0
TranslationsAreBounded = (w : WasmModule) → (has_block_operations w ≡ false → IsReady w 256) → IsBounded w (translated w)
