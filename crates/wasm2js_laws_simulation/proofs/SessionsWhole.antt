-- Whole sessions.
use Rattle.std.proofs.Common.{◌≡◌, ℕ, ◌+◌, ◌*◌, true, false, length, [], Some, None, refl, sym, ap, ◌∙◌, arith}
use Rattle.std.specs.List.{AllByRecursion}
use Rattle.session_lang.specs.Script.{ScriptPlain}
use Rattle.session_lang.specs.Simulation.{Comparison, SourceIsBelow, Sim}
use Rattle.session_lang.specs.Laws.{IsFollowed}
use Rattle.session_lang.proofs.Forms.{calling_forms_keep_order}
use Rattle.session_lang.proofs.Runs.{followed_sessions_simulate}
use Rattle.session_lang.specs.FitLaws.{a_call, Fits}
use Rattle.session_lang.proofs.Misfits.{no_misfit_fits}
use Rattle.wasm_lang.specs.Modules.{WasmModule}
use Rattle.wasm_lang_exec.specs.Fits as machine
use Rattle.wasm_laws_drive.proofs.Sessions.{sessions_are_monotone}
use Rattle.asm_lang_exec.specs.Runs.{Run, goes, stops, spent, wrong, after, gives}
use Rattle.asm_lang_exec.specs.Meaning.{call_at}
use Rattle.asm_lang_exec.specs.Session.{host_calls, observed, first_heap}
use Rattle.asm_lang_exec.specs.Fits.{misfit}
use Rattle.asm_laws_continuation.specs.Following.{call_at_to, host_calls_to}
use Rattle.asm_laws_continuation.proofs.Following.{sessions_follow}
use Rattle.asm_laws_sound.proofs.Sessions.{accepted_never_go_wrong}
use Rattle.asm2wasm_lang.specs.Allowed.{or_nothing}
use Rattle.wasm2js_lang.specs.Heaps.{heap_bytes}
use Rattle.wasm2js_lang.specs.Allowed.{script_for, source_session, target_session, comparison, Shows, segment_bytes}
use Rattle.wasm2js_translation.specs.Modules.{translated}
use Rattle.wasm2js_laws_scripts.proofs.Fitting.{holds_or, all_from_places, scripts_fit}
use Rattle.wasm2js_laws_scripts.proofs.Names.{shaped_exports_are_bytes}
use Rattle.wasm2js_laws_acceptance.proofs.AcceptedWhole.{translations_are_accepted, translations_are_well_formed}
use Rattle.wasm2js_laws_places.specs.Following.{Follows}
use Rattle.wasm2js_laws_places.proofs.Paced.{followed_from_the_start}
use Rattle.wasm2js_laws_simulation.proofs.HostCalls.{host_calls_follow}
use Rattle.wasm2js_laws_simulation.specs.SegmentsLaws.{segments_units}
use Rattle.wasm2js_laws_simulation.proofs.SegmentsStored.{segments_few}
use Rattle.wasm2js_laws_simulation.specs.StartLaws.{begins_at}
use Rattle.wasm2js_laws_simulation.proofs.StartInit.{init_follows}
use Rattle.wasm2js_laws_simulation.proofs.StartHigh.{no_high_word}
use Rattle.wasm2js_laws_simulation.specs.InstancesLaws.{StoresAreHeld}
use Rattle.wasm2js_laws_simulation.specs.SessionsLaws.{IsReady, SessionsAreFollowed, SessionsSimulate, SessionsAreBounded, TranslationsAreAllowed, TranslationsAreBounded}

-- with nothing after it a part is the part
nothing_after : (r : Run (Unit {0})) → after r gives ≡ r
nothing_after (goes u p) = refl
nothing_after (stops e p) = refl
nothing_after (spent p) = refl
nothing_after wrong = refl

module _ (held : StoresAreHeld) where
  module _ (w : WasmModule) (pace : ℕ) (ready : IsReady w pace) where
    fitting : (s : ScriptPlain) → machine.misfit w s ≡ None → misfit (translated w) (heap_bytes w) (script_for w s) ≡ None
    fitting s fit = scripts_fit w (translated w) s ready.source.within (shaped_exports_are_bytes w ready.source.shaped) ready.called fit

    shown : (s : ScriptPlain) → machine.misfit w s ≡ None → (units : ℕ) → Shows w (translated w) s units
    shown s fit units =
        let right = accepted_never_go_wrong (translated w) (heap_bytes w) (script_for w s) units (translations_are_accepted w ready.source ready.words) (fitting s fit) in
        record { seen = right.0; shows = right.1 }

    module _ (s : ScriptPlain) (fit : machine.misfit w s ≡ None) where
      abbrev by : Comparison
      by = comparison w (translated w) s

      fits : Fits (machine.tests w) s
      fits = no_misfit_fits (machine.tests w) s fit

      calls_fit : AllByRecursion (λ c. machine.fits_call w c ≡ true) s.calls
      calls_fit = all_from_places (λ c. machine.fits_call w c ≡ true) s.calls (λ i c e. holds_or (machine.fits_call w c) (λ h. fits.all_fit c.line (a_call i c e h)))

      abbrev run_of : ℕ → Run (Unit {0})
      run_of n = host_calls_to (call_at_to (translated w) n) (translated w) (script_for w s).calls gives (begins_at w s n)

      follows : (n : ℕ) → Follows by pace (length s.calls + segments_units w.segments + 1) (begins_at w s n) (source_session w s) (run_of n)
      follows n =
          init_follows w s pace ready.source ready.called ready.some ready.follow (held w ready.source ready.words ready.called s fit)
          (λ bound. host_calls_follow w s pace bound s.calls ready.source ready.some ready.follow calls_fit) n

      -- what is seen of it is what the target shows
      direct : (n : ℕ) → run_of n ≡ host_calls (call_at false (translated w) n) (translated w) (script_for w s).calls (begins_at w s n)
      direct n = sessions_follow (translated w) n (script_for w s).calls gives (begins_at w s n) ∙ nothing_after _

      seen : (n : ℕ) → observed (run_of n) ≡ Some (target_session w (translated w) s n)
      seen n =
          let right = accepted_never_go_wrong (translated w) (heap_bytes w) (script_for w s) n (translations_are_accepted w ready.source ready.words) (fitting s fit) in
          ap observed (direct n) ∙ right.1 ∙ ap (λ o. Some (or_nothing o)) (sym right.1)

      pub followed : (n : ℕ) → IsFollowed by (source_session w s) (target_session w (translated w) s) (λ m. pace * (m + length s.calls + segment_bytes w.segments + 1)) n
      followed n =
          followed_from_the_start by pace (length s.calls + segments_units w.segments + 1) (length s.calls) (segment_bytes w.segments) (begins_at w s n) (source_session w s) (target_session w (translated w) s) (run_of n)
          ready.some (let few = segments_few w.segments in omega (arith, few)) (record { events = []; is_running = refl; match = refl }) (seen n) (follows n)

      pub simulate : Sim by (source_session w s) (target_session w (translated w) s)
          × ((m : ℕ) → SourceIsBelow by (source_session w s m) (target_session w (translated w) s (pace * (m + length s.calls + segment_bytes w.segments + 1))))
      simulate =
          followed_sessions_simulate by (calling_forms_keep_order (first_heap (translated w) (heap_bytes w) (script_for w s))).1 (source_session w s) (target_session w (translated w) s)
          (sessions_are_monotone w s) (λ m. pace * (m + length s.calls + segment_bytes w.segments + 1)) followed

  pub sessions_are_followed : SessionsAreFollowed
  sessions_are_followed w pace ready s fit n = followed w pace ready s fit n

  pub sessions_simulate : SessionsSimulate
  sessions_simulate w pace ready s fit = (simulate w pace ready s fit).0

  pub sessions_are_bounded : SessionsAreBounded
  sessions_are_bounded w ready s fit m = (simulate w 256 ready s fit).1 m

  pub translations_are_allowed : TranslationsAreAllowed
  translations_are_allowed w pace ready = record {
    accepted = translations_are_accepted w ready.source ready.words;
    well_formed = translations_are_well_formed w ready.source ready.words;
    called = ready.called;
    fits = λ s fit. fitting w pace ready s fit;
    never_wrong = λ s fit units. shown w pace ready s fit units;
    no_high_word = λ none s fit. no_high_word w ready.source ready.called s fit none;
    simulates = λ s fit. sessions_simulate w pace ready s fit;
  }

  pub translations_are_bounded : TranslationsAreBounded
  translations_are_bounded w ready none s fit m = sessions_are_bounded w (ready none) s fit m
