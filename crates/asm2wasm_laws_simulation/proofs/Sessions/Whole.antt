-- Whole sessions.
use Rattle.std.proofs.Common.{◌≡◌, ℕ, ◌+◌, ◌*◌, ◌≤◌, length, Some, None, true, refl, sym, ap, ◌∙◌, arith}
use Rattle.std.proofs.lemmas.List.{length-map}
use Rattle.std.proofs.lemmas.Option.{none-some}
use Rattle.heap_lang.specs.Heap.{IsHeapLength}
use Rattle.session_lang.specs.Script.{ScriptPlain}
use Rattle.session_lang.specs.Observation.{EndPlain, ObservationPlain}
use Rattle.session_lang.specs.Simulation.{SourceIsBelow, TargetIsBelow, Sim}
use Rattle.session_lang.specs.CallingForms.{script_to_wasm}
use Rattle.session_lang.specs.Laws.{IsMatched}
use Rattle.session_lang.proofs.Forms.{calling_forms_keep_order}
use Rattle.session_lang.proofs.Runs.{matched_sessions_simulate}
use Rattle.session_lang.specs.FitLaws.{Fits}
use Rattle.session_lang.proofs.Misfits.{no_misfit_fits}
use Rattle.wasm_lang.specs.Modules.{WasmModule}
use Rattle.wasm_lang_exec.specs.Store.{page}
use Rattle.wasm_lang_exec.specs.Session.{first_memory, calls_seen, wasm}
use Rattle.wasm_laws_drive.proofs.Sessions.{sessions_are_monotone}
use Rattle.asm_lang.specs.Heights.{IsWellFormed}
use Rattle.asm_lang.specs.Modules.{Module}
use Rattle.asm_lang_valid.specs.Refusal.{IsAccepted, foreign_globals}
use Rattle.asm_lang_exec.specs.Runs.{Run}
use Rattle.asm_lang_exec.specs.Meaning.{call_at}
use Rattle.asm_lang_exec.specs.Session.{heap_length, first_place, host_calls, observed}
use Rattle.asm_lang_exec.specs.Fits.{misfit, tests}
use Rattle.asm_laws_print.specs.Fitting.{FitsModule}
use Rattle.asm_laws_sound.proofs.Sessions.{accepted_never_go_wrong, checks_change_nothing}
use Rattle.asm2wasm_lang.specs.Heaps.{is_heap_length, pages_for}
use Rattle.session_lang.specs.Written.{WritesBytes}
use Rattle.asm_lang_exec.proofs.Written.{fitting_writes}
use Rattle.asm2wasm_lang.specs.Allowed.{or_nothing, source_session, target_session, comparison, most_nodes, enough_for}
use Rattle.asm2wasm_translation.specs.Modules.{translation}
use Rattle.asm2wasm_laws_run.specs.State.{Fixed, IsNoTrap, store_of}
use Rattle.asm2wasm_laws_preservation.specs.Kept.{Surroundings}
use Rattle.asm2wasm_laws_preservation.specs.Made.{OwnKept}
use Rattle.asm2wasm_laws_preservation.specs.Laws.{AreAccepted}
use Rattle.asm2wasm_laws_simulation.specs.Functions.Laws.{FunctionsAreKept, NodesPay}
use Rattle.asm2wasm_laws_acceptance.specs.Laws.{FunctionsAreCalled, TranslationIsValid, TranslationIsCalled, ScriptsFit}
use Rattle.asm2wasm_laws_acceptance.specs.Scripts.{text_script, ScriptsFitBack}
use Rattle.asm2wasm_laws_acceptance.proofs.Bytes.{imported_bytes}
use Rattle.asm2wasm_laws_simulation.specs.Sessions.Reached.{fixed_for, Reaches}
use Rattle.asm2wasm_laws_simulation.specs.Sessions.Laws.{SessionsAreMatched, SessionsNeverTrap, TranslationIsAllowed, TranslationIsBounded}
use Rattle.asm2wasm_laws_simulation.proofs.Sessions.Called.{hosted, calls_reached, reaches_after}
use Rattle.asm2wasm_laws_simulation.proofs.Sessions.Begun.{FitsTo, Starts, fits_to, begins_holding, given_is, session_begins, past_it, starts_alike}
use Rattle.asm2wasm_laws_simulation.proofs.Sessions.Anywhere.{fixed_anywhere, starts_anywhere}
use Rattle.asm2wasm_laws_simulation.proofs.Sessions.Named.{all_name_exports}
use Rattle.asm2wasm_laws_simulation.proofs.Sessions.Matched.{matched, no_trap}

-- what a unit is worth: the code of the largest function, the call and the end of its frame
abbrev worth_of : Module → ℕ
worth_of m = 14 * most_nodes m.functions + 2

enough : (nodes calls n : ℕ) → 1 + calls + (14 * nodes + 2) * n ≤ 64 * (nodes + 1) * (n + calls + 1)
enough nodes calls n = omega arith

module _ (called : FunctionsAreCalled) (hold : (size : ℕ) → size ≤ pages_for size * page) (of_heap : (size : ℕ) → is_heap_length size ≡ true → IsHeapLength size)
    (formed_fits : (m : Module) → IsWellFormed m → FitsModule m) (kept : FunctionsAreKept) (pay : NodesPay) where
  module _ (m : Module) (size : ℕ) (s : ScriptPlain) (ok : IsAccepted m) (formed : IsWellFormed m) (heap : is_heap_length size ≡ true) (fit : misfit m size s ≡ None) where
    bytes : WritesBytes s
    bytes = fitting_writes m size s fit

    abbrev w : WasmModule
    w = translation m size

    fits : Fits (tests m size) s
    fits = no_misfit_fits (tests m size) s fit

    parts : FitsTo m size s
    parts = fits_to m size s fits bytes (imported_bytes m (formed_fits m formed))

    abbrev run_of : ℕ → Run (Unit {0})
    run_of n = host_calls (call_at true m n) m s.calls (first_place m size s n)

    module _ (to : ScriptPlain) (x : Fixed) (starts : Starts m size s to x) where
      abbrev around : Surroundings
      around = hosted w x (worth_of m) m size

      are_accepted : AreAccepted around
      are_accepted = record {
        accepted = ok;
        given = ap length (starts.given ∙ given_is m size s to starts.globals parts.named parts.asks) ∙ length-map (foreign_globals m) _;
        heap_fits = λ h. of_heap size heap;
      }

      own_kept : (n : ℕ) → OwnKept around n (call_at true m n)
      own_kept n = kept around n n (record { accepted = are_accepted; target = refl; entries = starts.entries }) (pay around (omega arith)) (omega arith)

      reached : (n : ℕ) → Reaches x (heap_length m size) (worth_of m) (1 + length s.calls) n (wasm w to) (run_of n)
      reached n =
          reaches_after x (heap_length m size) (worth_of m) 1 (length s.calls) n n 1 0 (wasm w to) (λ k. calls_seen w s.calls k (store_of x (first_place m size s n))) (run_of n) (omega arith) (omega arith) (omega arith)
          (session_begins m size s to x starts parts n)
          (calls_reached w x (worth_of m) m size n (call_at true m n) (own_kept n) s.calls (all_name_exports m size called s fits)
          (first_place m size s n) (begins_holding m size s x starts.answered parts n) (omega arith))

    seen : (n : ℕ) → (seen : ObservationPlain) × (observed (run_of n) ≡ Some seen)
    seen n = let there = accepted_never_go_wrong m size s n ok fit in (there.0, checks_change_nothing m size s n ok fit ∙ there.1)

    source_is : (n : ℕ) → source_session m size s n ≡ or_nothing (observed (run_of n))
    source_is n = ap or_nothing (sym (checks_change_nothing m size s n ok fit))

    pub match : (n : ℕ) → IsMatched (comparison w s) (source_session m size s) (target_session w s) (enough_for m s) n
    match n =
        let there = seen n in
        matched m size s (hold size) parts (source_session m size s) (worth_of m) (1 + length s.calls) (enough_for m s) n (enough (most_nodes m.functions) (length s.calls) n) (run_of n) there.0 there.1
        (source_is n) (reached (script_to_wasm s) (fixed_for m size s) (starts_alike m size s (hold size) parts) n)

    pub never_trap : (to : ScriptPlain) (x : Fixed) → Starts m size s to x → (n : ℕ) (e : EndPlain) → (wasm w to n).end ≡ Some e → IsNoTrap e
    never_trap to x starts n e h =
        let there = seen n in
        no_trap w to x (heap_length m size) (worth_of m) (1 + length s.calls) n (run_of n) there.0 there.1 (reached to x starts n) e h

    pub simulate : Sim (comparison w s) (source_session m size s) (target_session w s) × ((n : ℕ) → SourceIsBelow (comparison w s) (source_session m size s n) (target_session w s (enough_for m s n)))
        × ((n : ℕ) → TargetIsBelow (comparison w s) (target_session w s n) (source_session m size s n))
    simulate =
        matched_sessions_simulate (comparison w s) (calling_forms_keep_order (first_memory w (script_to_wasm s))).0 (source_session m size s) (target_session w s)
        (sessions_are_monotone w (script_to_wasm s)) (enough_for m s) match

  pub sessions_are_matched : SessionsAreMatched
  sessions_are_matched m size s ok formed heap fit n = match m size s ok formed heap fit n

  pub sessions_never_trap : ScriptsFitBack → SessionsNeverTrap
  sessions_never_trap fit_back m size s ok formed heap fit n e h =
      let back = fit_back m size s formed fit in
      let there = text_script m size s in
      never_trap m size there ok formed heap back.fits s (fixed_anywhere m size s) (starts_anywhere m size s (past_it m size there (hold size)) back (parts m size there ok formed heap back.fits)) n e h

  pub translation_is_bounded : TranslationIsBounded
  translation_is_bounded m size ok formed heap = record {
    no_fewer = λ s fit n. (simulate m size s ok formed heap fit).2 n;
    no_more = λ s fit n. (simulate m size s ok formed heap fit).1 n;
  }

  pub translation_is_allowed : TranslationIsValid → TranslationIsCalled → ScriptsFit → TranslationIsAllowed
  translation_is_allowed valid is_called scripts_fit m size ok formed heap = record {
    valid = valid m size ok heap;
    called = is_called m size;
    fits = λ s fit. scripts_fit m size s formed fit;
    never_wrong = λ s fit units none. let there = accepted_never_go_wrong m size s units ok fit in none-some there.0 (sym none ∙ there.1);
    simulates = λ s fit. (simulate m size s ok formed heap fit).0;
  }
