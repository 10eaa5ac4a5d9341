-- What is seen of a session by flat code is what the meaning says.
use Rattle.std.proofs.Common.{◌≡◌, ℕ, suc, ◌+◌, ◌≤◌, true, List, [], ◌∷◌, ◌++◌, length, map, Option, Some, None, ℤ, refl, sym, ap, ◌∙◌, subst, arith}
use Rattle.std.specs.Prelude.{slice_get, option_and_then}
use Rattle.std.specs.List.{AllByRecursion}
use Rattle.std.proofs.lemmas.Bool.{and_parts, eqb-true}
use Rattle.sem_words.specs.declared.js_value.JsValue.{JsValue}
use Rattle.sem_words.specs.declared.js_value.JsValue.TheVariants.{Whole}
use Rattle.sem_words.specs.Words.{word_of}
use Rattle.session_lang.specs.Script.{CallPlain}
use Rattle.session_lang.specs.Observation.{ObservationPlain, running, ended}
use Rattle.asm_lang.specs.Modules.{Function}
use Rattle.asm_lang_exec.specs.Runs.{Place, Run, goes, stops, spent, wrong, after, and_then, defined, add_event}
use Rattle.asm_lang_exec.specs.Meaning.{call_at}
use Rattle.asm_lang_exec.specs.Session.{first_place, result_event, host_calls, observed}
use Rattle.asm_lang_exec.specs.Fits.{takes, fits_call}
use Rattle.asm_laws_sound.proofs.Sessions.{accepted_never_go_wrong, checks_change_nothing}
use Rattle.asm_run_laws.specs.Places.{Holds}
use Rattle.asm_run_code.specs.Machine.{State, Came, and_on, followed}
use Rattle.asm_run_code.specs.Modules.{codes_of}
use Rattle.asm_run_code.specs.Sessions.{begins, seen_of, seen_by, function_at, number_at, key_number, flat_calls, first_state}
use Rattle.asm_run_laws.specs.Frames.{Setting, word}
use Rattle.asm_run_laws.specs.Hosts.{nothing, resting, HostDoes}
use Rattle.asm_run_laws.specs.Laws.{IsSetting, SessionsDo}
use Rattle.asm_run_laws.proofs.First.{begins_holding, calls_fit}
use Rattle.asm_run_laws.proofs.Whole.{host_calls_do}

wholes_length : (zs : List ℤ) → length (map Whole zs) ≡ length zs
wholes_length [] = refl
wholes_length (z ∷ zs) = ap suc (wholes_length zs)

wholes_words : (zs : List ℤ) → map word (map Whole zs) ≡ map (word_of 32) zs
wholes_words [] = refl
wholes_words (z ∷ zs) = ap (λ ws. word_of 32 z ∷ ws) (wholes_words zs)

module _ (s : Setting) (i : IsSetting s) (units : ℕ) where
  -- what is seen of a run is seen after so many steps, and after each greater number of them
  abbrev Shows : Run (Unit {0}) → (ℕ → Option ObservationPlain) → Type 0
  Shows o flat = (seen : ObservationPlain) → observed o ≡ Some seen → (k : ℕ) × ((j : ℕ) → flat (k + j) ≡ Some seen)

  abbrev rest_of : List CallPlain → Place → Run (Unit {0})
  rest_of cs p = host_calls (call_at true s.home units) s.home cs p

  abbrev flat_of : List CallPlain → State → ℕ → Option ObservationPlain
  flat_of cs t k = flat_calls k s.codes s.home cs t

  abbrev AllShow : List CallPlain → Type 0
  AllShow cs = (t : State) (p : Place) → Holds s.home s.heap nothing p → p.units ≤ units → Shows (rest_of cs p) (flat_of cs (resting t p))

  -- what is seen once a start has been followed
  abbrev flat_after : Function → List CallPlain → Came → ℕ → Option ObservationPlain
  flat_after g cs start k = seen_of g (flat_calls k s.codes s.home cs) (and_on (followed k s.codes) start)

  -- a call has come to something, and then the others
  call_shows : (cs : List CallPlain) → AllShow cs → (g : Function) (n : ℕ) → n ≤ units → (start : Came) (o : Run JsValue) → HostDoes s n start o
      → Shows (after (after o (λ v. add_event (result_event g v))) (λ u. rest_of cs)) (flat_after g cs start)
  call_shows cs others g n le start (goes v q) d seen h =
      let few = d.few in
      let next = record q { events = q.events ++ result_event g v ∷ [] } in
      let rest = others d.last next (record { locals = d.holds.locals; globals = d.holds.globals; heap = d.holds.heap; bytes = d.holds.bytes; replies = d.holds.replies }) (omega (arith, few, le)) seen h in
      let a = d.comes.0 in
      let b = rest.0 in (
        a + b,
        λ j.
            let one : a + b + j ≡ a + (b + j) = omega arith in
            let two : a + b + j ≡ b + (a + j) = omega arith in
            ap (λ k. seen_of g (flat_calls (a + b + j) s.codes s.home cs) (and_on (followed k s.codes) start)) one
            ∙ ap (seen_of g (flat_calls (a + b + j) s.codes s.home cs)) (d.comes.1 (b + j))
            ∙ ap (λ k. flat_calls k s.codes s.home cs (resting d.last next)) two
            ∙ rest.1 (a + j),
      )
  call_shows cs others g n le start (stops e q) d seen h =
      (d.comes.0, λ j. ap (seen_of g (flat_calls (d.comes.0 + j) s.codes s.home cs)) (d.comes.1 j) ∙ ap (λ es. Some (ended es e d.last.heap)) d.events ∙ ap (λ heap. Some (ended q.events e heap)) d.heap ∙ h)
  call_shows cs others g n le start (spent q) d seen h =
      (d.comes.0, λ j. ap (seen_of g (flat_calls (d.comes.0 + j) s.codes s.home cs)) (d.comes.1 j) ∙ ap (λ es. Some (running es)) d.events ∙ h)
  call_shows cs others g n le start wrong d seen h = absurd (cc h)

  all_show : (cs : List CallPlain) → AllByRecursion (λ (c : CallPlain). fits_call s.home c ≡ true) cs → AllShow cs
  all_show [] all t p holds few = λ seen h. (0, λ j. h)
  all_show (c ∷ cs) all t p holds few = by_key (all_show cs all.1) (key_number s.home c.name) all.0
    where
      run : Option Function → Run (Unit {0})
      run o = after (after (defined o p) (λ g. and_then (call_at true s.home units g (map Whole c.args)) (λ v. add_event (result_event g v)))) (λ u. rest_of cs)

      start : Option ℕ → Came
      start o = begins s.codes (number_at o) (map (word_of 32) c.args) (resting t p)

      by_function : AllShow cs → (n : ℕ) (o : Option Function) → slice_get s.home.functions n ≡ o → takes o c.args ≡ true → Shows (run o) (λ k. seen_by o (flat_calls k s.codes s.home cs) (and_on (followed k s.codes) (start (Some n))))
      by_function others n None e fit = λ seen h. absurd (cc h)
      by_function others n (Some g) e fit =
          let many = wholes_length c.args ∙ eqb-true (length c.args) (length g.params) (and_parts _ _ fit).0 in
          call_shows cs others g p.units few (start (Some n)) (call_at true s.home units g (map Whole c.args) p)
          (subst (λ ws. HostDoes s p.units (begins s.codes n ws (resting t p)) (call_at true s.home units g (map Whole c.args) p)) (wholes_words c.args)
          (host_calls_do s i units n g (map Whole c.args) t p e many holds few))

      by_key : AllShow cs → (o : Option ℕ) → takes (option_and_then (λ i. slice_get s.home.functions i) o) c.args ≡ true
          → Shows (run (option_and_then (λ i. slice_get s.home.functions i) o)) (λ k. seen_by (function_at s.home o) (flat_calls k s.codes s.home cs) (and_on (followed k s.codes) (start o)))
      by_key others None fit = λ seen h. absurd (cc h)
      by_key others (Some n) fit = by_function others n (slice_get s.home.functions n) refl fit

pub sessions_do : SessionsDo
sessions_do m size script units ok long fit =
    let s : Setting = record { codes = codes_of m; home = m; heap = size } in
    let there = accepted_never_go_wrong m size script units ok fit in
    let checked = checks_change_nothing m size script units ok fit ∙ there.1 in
    let shown = all_show s (record { codes_are = refl; accepted = ok; long = long }) units script.calls (calls_fit m size script fit) (first_state m size script units) (first_place m size script units)
    (begins_holding m size script fit units) (omega arith) there.0 checked in
    (shown.0, λ j. shown.1 j ∙ sym there.1)
