-- Calls of imported functions follow.
use Rattle.std.specs.Prelude.{◌≡◌, ℕ, List, [], ◌∷◌, ◌++◌}
use Rattle.std.specs.List.{flat_map}
use Rattle.sem_words.specs.declared.word.Word.{Word}
use Rattle.session_lang.specs.Observation.{EventPlain, import_called, stopped, no_reply}
use Rattle.session_lang.specs.CallingForms.{split_word}
use Rattle.asm_laws_continuation.specs.Following.{call_at_to}
use Rattle.wasm2js_translation.specs.Modules.{translated}
use Rattle.wasm2js_laws_preservation.specs.ControlControl.{Function, Match}
use Rattle.wasm2js_laws_simulation.specs.CallsCalled.{CallsFollow}
use Rattle.wasm2js_laws_simulation.specs.FramesFrames.{IsSettled, AreHelped, AccessesAreKept, ImportsFollow}

-- what is shown of imported functions is compared with 64-bit words as two words
pub record IsSplit (f : Function) : Type 0 where
  pub stopped : (name : List ℕ) (args : List Word) → f.by.source_end (stopped name args) ≡ stopped name (flat_map split_word args)
  pub no_reply : (name : List ℕ) (args : List Word) → f.by.source_end (no_reply name args) ≡ no_reply name (flat_map split_word args)
  pub called : (name : List ℕ) (args : List Word) (source target : List EventPlain) → Match f source target
      → Match f (source ++ import_called name args ∷ []) (target ++ import_called name (flat_map split_word args) ∷ [])

abbrev pub ImportedFollow : Type 0
ImportedFollow = (f : Function) → IsSettled f → IsSplit f → ImportsFollow f

-- calls of all functions of the module, from any caller
abbrev pub AllFollow : Type 0
AllFollow = (f : Function) → IsSettled f → IsSplit f → AreHelped f → AccessesAreKept f → f.scope.home ≡ translated f.home → f.calls ≡ call_at_to f.scope.home f.bound → CallsFollow f
