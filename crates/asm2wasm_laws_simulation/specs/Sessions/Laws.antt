-- What holds of the whole sessions of an accepted module of asm.js and of its translation.
use Rattle.std.specs.Prelude.{◌≡◌, ℕ, true, Some, None}
use Rattle.session_lang.specs.Script.{ScriptPlain}
use Rattle.session_lang.specs.Observation.{EndPlain}
use Rattle.session_lang.specs.Laws.{IsMatched}
use Rattle.asm_lang.specs.Heights.{IsWellFormed}
use Rattle.asm_lang.specs.Modules.{Module}
use Rattle.asm_lang_valid.specs.Refusal.{IsAccepted}
use Rattle.asm_lang_exec.specs.Fits.{misfit}
use Rattle.wasm_lang_exec.specs.Fits as machine
use Rattle.wasm_lang_exec.specs.Session.{wasm}
use Rattle.asm2wasm_lang.specs.Allowed.{source_session, target_session, comparison, IsAllowed, enough_for, IsBounded}
use Rattle.asm2wasm_lang.specs.Heaps.{is_heap_length}
use Rattle.asm2wasm_translation.specs.Modules.{translation}
use Rattle.asm2wasm_laws_run.specs.State.{IsNoTrap}

-- each number of units has one of reductions, no greater than is enough, by which the two sessions show the same; it is no less than the
-- units where they are used up
abbrev pub SessionsAreMatched : Type 0
SessionsAreMatched =
    (m : Module) (size : ℕ) (s : ScriptPlain) → IsAccepted m → IsWellFormed m → is_heap_length size ≡ true → misfit m size s ≡ None
    → (n : ℕ) → IsMatched (comparison (translation m size) s) (source_session m size s) (target_session (translation m size) s) (enough_for m s) n

-- no session of the translation ends with a trap, also where its script fits no text, since it writes past the heap
abbrev pub SessionsNeverTrap : Type 0
SessionsNeverTrap =
    (m : Module) (size : ℕ) (s : ScriptPlain) → IsAccepted m → IsWellFormed m → is_heap_length size ≡ true → machine.misfit (translation m size) s ≡ None
    → (n : ℕ) (e : EndPlain) → (wasm (translation m size) s n).end ≡ Some e → IsNoTrap e

-- the translation of an accepted module that a text says may be written for it
abbrev pub TranslationIsAllowed : Type 0
TranslationIsAllowed = (m : Module) (size : ℕ) → IsAccepted m → IsWellFormed m → is_heap_length size ≡ true → IsAllowed m size (translation m size)

-- .. and a unit is worth a bounded number of its reductions
abbrev pub TranslationIsBounded : Type 0
TranslationIsBounded = (m : Module) (size : ℕ) → IsAccepted m → IsWellFormed m → is_heap_length size ≡ true → IsBounded m size (translation m size)
