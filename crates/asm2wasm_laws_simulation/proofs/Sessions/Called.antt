-- A call of the host, and all of them one after the other.
use Rattle.std.proofs.Common.{◌≡◌, ℕ, ◌+◌, ◌*◌, ◌≤◌, Bool, true, false, List, [], ◌∷◌, ◌++◌, length, map, Option, Some, None, refl, sym, ap, ◌∙◌, subst, arith}
use Rattle.std.specs.Prelude.{if◌then◌else◌, slice_get}
use Rattle.std.proofs.lemmas.List.{map-append, append-nil}
use Rattle.sem_words.specs.declared.js_value.JsValue.{JsValue}
use Rattle.sem_words.specs.declared.js_value.JsValue.TheVariants.{Whole}
use Rattle.session_lang.specs.Script.{CallPlain}
use Rattle.session_lang.specs.Observation.{EventPlain, call_gave, call_returned, ObservationPlain, running}
use Rattle.session_lang.specs.Simulation.{Session}
use Rattle.session_lang.specs.CallingForms.{event_to_wasm, end_to_wasm}
use Rattle.wasm_lang.specs.Modules.{WasmModule}
use Rattle.wasm_lang_exec.specs.Code.{ε, ◌▹◌, call}
use Rattle.wasm_lang_exec.specs.Store.{Store}
use Rattle.wasm_lang_exec.specs.Reductions.{callee_at, Code}
use Rattle.wasm_lang_exec.specs.Session as machine
use Rattle.wasm_lang_exec.specs.Session.{function_named, arguments_for, run_call, after_call, calls_seen}
use Rattle.wasm_laws_drive.specs.Drive.{drive}
use Rattle.wasm_laws_drive.specs.Laws.{run_of}
use Rattle.wasm_laws_drive.proofs.Counting.{run_is_driven}
use Rattle.asm_lang.specs.Modules.{Function, Module}
use Rattle.asm_lang_valid.specs.Scope.{signature_of}
use Rattle.asm_lang_valid.specs.LimitRows.{foreign_calls}
use Rattle.asm_lang_exec.specs.Runs.{Binding, Place, Run, goes, stops, spent, wrong, Part, after, and_then, add_event, defined}
use Rattle.asm_lang_exec.specs.Values.{Calls}
use Rattle.asm_lang_exec.specs.Session.{heap_length, exported_function, result_event, host_calls}
use Rattle.asm2wasm_laws_run.specs.Sim.{Steps, Sim}
use Rattle.asm2wasm_laws_run.specs.State.{Fixed, words, names, store_of, Holds, EndsAlike, AnyValue, run_from}
use Rattle.asm2wasm_laws_preservation.specs.Kept.{word, values, result, Surroundings, Shown}
use Rattle.asm2wasm_laws_preservation.specs.Made.{OwnKept}
use Rattle.asm2wasm_laws_simulation.specs.Sessions.Reached.{host, Shows, Reaches}

-- ---- reductions before what is shown

module _ (x : Fixed) (long worth : ℕ) where
  abbrev shows_after : (z1 z2 n n1 cost used : ℕ) (session later : Session) (seen : ObservationPlain) → used + n1 ≡ n → cost ≤ z1 + worth * used → ((k : ℕ) → session (cost + k) ≡ later k)
      → Shows worth z2 n1 seen later → Shows worth (z1 + z2) n seen session
  shows_after z1 z2 n n1 cost used session later seen units le e h =
      let all : worth * (used + n1) ≡ worth * n = ap (λ x. worth * x) units in
      let few = h.within in
      record { budget = cost + h.budget; within = omega (arith, all, le, few); by = e h.budget ∙ h.by }

  pub reaches_after : (z1 z2 n n1 cost used : ℕ) (session later : Session) (o : Run (Unit {0})) → used + n1 ≡ n → used ≤ cost → cost ≤ z1 + worth * used → ((k : ℕ) → session (cost + k) ≡ later k)
      → Reaches x long worth z2 n1 later o → Reaches x long worth (z1 + z2) n session o
  reaches_after z1 z2 n n1 cost used session later (goes u p) units few le e h = (h.0, shows_after z1 z2 n n1 cost used session later _ units le e h.1)
  reaches_after z1 z2 n n1 cost used session later (stops end p) units few le e h = (h.0, h.1, shows_after z1 z2 n n1 cost used session later _ units le e h.2)
  reaches_after z1 z2 n n1 cost used session later (spent p) units few le e h = (shows_after z1 z2 n n1 cost used session later _ units le e h.0, let many = h.1 in omega (arith, units, few, many))
  reaches_after z1 z2 n n1 cost used session later wrong units few le e h = tt

-- ---- a call

no_names : (bs : List Binding) → names bs ≡ [] → bs ≡ []
no_names [] e = refl
no_names (b ∷ bs) e = absurd (cc e)

event_is : (wanted : Bool) (v : JsValue) → machine.result_event (result wanted v ++ []) ≡ event_to_wasm (if wanted then call_gave (word v) else call_returned)
event_is true v = refl
event_is false v = refl

-- ---- what is called

module _ (w : WasmModule) (m : Module) where
  -- the calls name exported functions, and have as many arguments as these have parameters
  pub record NamesExport (c : CallPlain) : Type 0 where
    pub place : ℕ
    pub function : Function
    pub stands : slice_get m.functions place ≡ Some function
    pub exported : exported_function m c.name ≡ Some function
    pub named : function_named w.exports c.name ≡ Some (length (foreign_calls m) + place)
    pub arguments : arguments_for (callee_at w (length (foreign_calls m) + place)) c.args ≡ map word (map Whole c.args)
    pub many : length (map Whole c.args) ≡ length function.params

  abbrev pub AllNameExports : List CallPlain → Type 0
  AllNameExports [] = Unit {0}
  AllNameExports (c ∷ cs) = NamesExport c × AllNameExports cs

module _ (w : WasmModule) (x : Fixed) (worth : ℕ) (m : Module) (size : ℕ) where
  abbrev pub hosted : Surroundings
  hosted = record { target = w; fixed = x; worth = worth; home = m; heap = size; within = host; scratch = 0 }

  abbrev pub Reached : (more units : ℕ) → Session → Run (Unit {0}) → Type 0
  Reached = Reaches x (heap_length m size) worth

  -- with one more event
  abbrev seen_more : EventPlain → Place → Place
  seen_more e p = record p { events = p.events ++ e ∷ [] }

  holds_more : (e : EventPlain) (p : Place) → Holds x m size host p → Holds x m size host (seen_more e p)
  holds_more e p h = record { locals = h.locals; globals = h.globals; heap = h.heap; bytes = h.bytes; replies = h.replies }

  -- the result's event is the same in both
  event_added : (wanted : Bool) (v : JsValue) (q : Place)
      → machine.with_event (machine.result_event (result wanted v ++ [])) (store_of x q) ≡ store_of x (seen_more (if wanted then call_gave (word v) else call_returned) q)
  event_added wanted v q =
      let e = if wanted then call_gave (word v) else call_returned in
      let st = store_of x q in
      ap (λ e. machine.with_event e st) (event_is wanted v) ∙ ap (λ es. record st { events = es }) (sym (map-append event_to_wasm q.events (e ∷ [])))

  module _ (wanted : Bool) (limit : ℕ) (next : ℕ → Store → ObservationPlain) (rest : Part (Unit {0})) where
    abbrev event : JsValue → EventPlain
    event v = if wanted then call_gave (word v) else call_returned

    call_reached : (more n : ℕ) (r : Steps) (o : Run JsValue) → n ≤ limit
        → Sim worth (EndsAlike x m size) (Shown hosted 0 AnyValue (result wanted) [] []) 1 n r o
        → ((q : Place) → Holds x m size host q → q.units ≤ limit → Reached more q.units (λ k. next k (store_of x q)) (rest q))
        → Reached (1 + more) n (λ k. after_call (run_of (r k)) next) (after (after o (λ v. add_event (event v))) (λ u. rest))
    call_reached more n r (goes v q) le s go =
        let c = s.2 in
        let later = s.1 in
        let q' = seen_more (event v) q in
        let units = c.units in
        reaches_after x (heap_length m size) worth 1 more n q.units c.cost c.used (λ k. after_call (run_of (r k)) next) (λ k. next k (store_of x q')) (rest q') units c.no_fewer c.no_more
        (λ k. ap (λ r. after_call (run_of r) next) (c.by k) ∙ ap (λ r. after_call (run_of r) next) (later.shown k) ∙ ap (next k) (event_added wanted v q))
        (go q' (holds_more (event v) q later.holds) (omega (arith, le, units)))
    call_reached more n r (stops e q) le s go =
        let c = s.4 in
        let alike = s.2 in
        let few = c.no_more in
        let used = c.units in (
          alike.no_trap,
          alike.heap,
          record {
            budget = c.cost + 0;
            within = let all : worth * (c.used + s.3) ≡ worth * n = ap (λ x. worth * x) used in omega (arith, all, few);
            by = ap (λ r. after_call (run_of r) next) (c.by 0) ∙ ap (λ e. machine.seen_end e s.1) alike.is ∙ ap (machine.seen_end (end_to_wasm e)) alike.store;
          },
        )
    call_reached more n r (spent q) le s go = (
      record { budget = s.cost; within = let few = s.no_more in omega (arith, few); by = ap (λ r. after_call (run_of r) next) s.by ∙ ap running s.seen },
      s.no_fewer,
    )
    call_reached more n r wrong le s go = tt

  -- ---- all calls

  module _ (limit : ℕ) (calls : Calls) (kept : OwnKept hosted limit calls) where
    -- a call, and then the others
    first_reached : (c : CallPlain) (cs : List CallPlain) → NamesExport w m c → (p : Place) → Holds x m size host p → p.units ≤ limit
        → ((q : Place) → Holds x m size host q → q.units ≤ limit → Reached (length cs) q.units (λ k. calls_seen w cs k (store_of x q)) (host_calls calls m cs q))
        → Reached (length (c ∷ cs)) p.units (λ k. calls_seen w (c ∷ cs) k (store_of x p)) (host_calls calls m (c ∷ cs) p)
    first_reached c cs named p h le go = by (exported_function m c.name) named.exported
      where
        g : Function
        g = named.function

        f : ℕ
        f = length (foreign_calls m) + named.place

        vs : List JsValue
        vs = map Whole c.args

        r : Steps
        r = run_from w x (values vs ++ []) (call f ▹ ε) [] p

        next : ℕ → Store → ObservationPlain
        next = calls_seen w cs

        no_locals : words p.locals ++ [] ≡ []
        no_locals = ap (λ bs. words bs ++ []) (no_names p.locals h.locals)

        runs : (k : ℕ) → calls_seen w (c ∷ cs) k (store_of x p) ≡ after_call (run_of (r k)) next
        runs k =
            let st = store_of x p in
            ap (λ o. machine.one_call w o c.args k st next) named.named ∙ ap (λ zs. after_call (run_call w k f zs st) next) named.arguments
            ∙ ap (λ r. after_call r next) (run_is_driven w k (Code (values vs) (call f ▹ ε)) [] st)
            ∙ ap (λ vs. after_call (run_of (drive w k (Code vs (call f ▹ ε)) [] st)) next) (sym (append-nil (values vs)))
            ∙ ap (λ ls. after_call (run_of (drive w k (Code (values vs ++ []) (call f ▹ ε)) ls st)) next) (sym no_locals)

        reached : Reached (1 + length cs) p.units (λ k. after_call (run_of (r k)) next) (after (after (calls g vs p) (λ v. add_event (result_event g v))) (λ u. host_calls calls m cs))
        reached =
            call_reached (signature_of g).result limit next (host_calls calls m cs) (length cs) p.units r (calls g vs p) le ((kept g named.place named.stands 0 vs named.many).by p [] [] h refl le)
            go

        by : (o : Option Function) → o ≡ Some g → Reached (length (c ∷ cs)) p.units (λ k. calls_seen w (c ∷ cs) k (store_of x p))
            (after (after (defined o p) (λ f. and_then (calls f vs) (λ v. add_event (result_event f v)))) (λ u. host_calls calls m cs))
        by None e = absurd (cc e)
        by (Some g') e =
            let same : g ≡ g' = cc e in
            let one : 0 + (1 + length cs) ≡ length (c ∷ cs) = omega arith in
            subst (λ z. Reached z p.units (λ k. calls_seen w (c ∷ cs) k (store_of x p)) (after (after (defined (Some g') p) (λ f. and_then (calls f vs) (λ v. add_event (result_event f v)))) (λ u. host_calls calls m cs))) one
            (reaches_after x (heap_length m size) worth 0 (1 + length cs) p.units p.units 0 0 (λ k. calls_seen w (c ∷ cs) k (store_of x p)) (λ k. after_call (run_of (r k)) next)
            (after (after (defined (Some g') p) (λ f. and_then (calls f vs) (λ v. add_event (result_event f v)))) (λ u. host_calls calls m cs)) (omega arith) (omega arith) (omega arith)
            (λ k. let none : 0 + k ≡ k = omega arith in ap (λ k. calls_seen w (c ∷ cs) k (store_of x p)) none ∙ runs k)
            (subst (λ g. Reached (1 + length cs) p.units (λ k. after_call (run_of (r k)) next) (after (after (calls g vs p) (λ v. add_event (result_event g v))) (λ u. host_calls calls m cs))) same reached))

    pub calls_reached : (cs : List CallPlain) → AllNameExports w m cs → (p : Place) → Holds x m size host p → p.units ≤ limit
        → Reached (length cs) p.units (λ k. calls_seen w cs k (store_of x p)) (host_calls calls m cs p)
    calls_reached [] named p h le = (h.heap, record { budget = 0; within = omega arith; by = refl })
    calls_reached (c ∷ cs) (named, all) p h le = first_reached c cs named p h le (λ q holds few. calls_reached cs all q holds few)
