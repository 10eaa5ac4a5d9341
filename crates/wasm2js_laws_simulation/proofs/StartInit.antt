-- The call of `$init`.
use Rattle.std.proofs.Common.{◌≡◌, ℕ, zero, suc, ◌+◌, ◌<◌, ◌≤◌, true, false, List, [], ◌∷◌, ◌++◌, length, Option, Some, None, refl, sym, ap, ◌∙◌, subst, arith}
use Rattle.std.specs.Prelude.{reverse, if◌then◌else◌, codes}
use Rattle.std.specs.List.{flat_map}
use Rattle.std.proofs.lemmas.Bool.{and_parts}
use Rattle.sem_words.specs.declared.js_value.JsValue.{JsValue}
use Rattle.sem_words.specs.declared.js_value.JsValue.TheVariants.{Undef}
use Rattle.session_lang.specs.Script.{CallPlain, ScriptPlain}
use Rattle.session_lang.specs.Observation.{EventPlain, call_gave, call_returned, ObservationPlain}
use Rattle.session_lang.proofs.BelowLaws.{prefix_same}
use Rattle.session_lang.specs.Simulation.{Comparison}
use Rattle.session_lang.specs.CallingForms.{split_call}
use Rattle.session_lang.specs.Laws.{KeepsOrder}
use Rattle.wasm_lang.specs.declared.types.ValType.{ValType}
use Rattle.wasm_lang.specs.Modules.{FunctionType, WasmModule}
use Rattle.wasm_lang_valid.specs.declared.section.Section.TheVariants as sections
use Rattle.wasm_lang_valid.specs.ModuleRules.{is_empty, is_function, is_start, start_rule, type_of_function, at as rule_at}
use Rattle.wasm_lang_valid.specs.Typing.{result_of}
use Rattle.wasm_lang_valid.specs.Validity.{start_count}
use Rattle.wasm_lang_exec.specs.Code.{ε}
use Rattle.wasm_lang_exec.specs.Session.{after_start, started, instantiated, first_store, with_entries, with_bytes, calls_seen, wasm}
use Rattle.wasm_laws_drive.specs.Drive.{Outcome, at, onward}
use Rattle.wasm_laws_drive.specs.Laws.{run_of}
use Rattle.wasm_laws_drive.proofs.Counting.{host_call}
use Rattle.wasm_laws_drive.proofs.Instructions.{no_code}
use Rattle.wasm_laws_sound.proofs.Functions.{meets_none, meets_rest}
use Rattle.asm_lang.specs.Modules as text
use Rattle.asm_lang_valid.specs.Scope.{Signature, signature_of, a_function}
use Rattle.asm_lang_valid.specs.Typed.{scope_of}
use Rattle.asm_lang_exec.specs.Runs.{Place, Part, Run, spent, gives, and_then, defined, back_to, add_event}
use Rattle.asm_lang_exec.specs.Values.{word}
use Rattle.asm_lang_exec.specs.Meaning.{Completion, normal, function_end}
use Rattle.asm_lang_exec.specs.Session.{result_event}
use Rattle.asm_laws_continuation.specs.Following.{call_named_to, exec_all_to, unless_left_to, call_at_to, host_calls_to}
use Rattle.wasm2js_translation.specs.Names.{numbered, function, fixed, init}
use Rattle.wasm2js_translation.specs.Words.{stmts_in}
use Rattle.wasm2js_lang.specs.Calling.{shapes_of, IsCalledAs}
use Rattle.wasm2js_lang.specs.Allowed.{script_for, source_session, comparison}
use Rattle.wasm2js_translation.specs.Modules.{segment_stmts, start_stmts, init_function, translated}
use Rattle.wasm2js_laws_scripts.proofs.Calls.{IsExported, exported_as_asked}
use Rattle.wasm2js_laws_acceptance.proofs.ProvidedFunctions.{IsDeclared, function_declared}
use Rattle.wasm2js_laws_acceptance.proofs.ProvidedFound.{is_seen}
use Rattle.wasm2js_laws_acceptance.specs.FunctionsFunctions.{IsSource}
use Rattle.wasm2js_laws_places.specs.Following.{Rest, Follows}
use Rattle.wasm2js_laws_places.proofs.Paced.{same_is_followed, free_units, unpaid_stops, steps_are_paid}
use Rattle.wasm2js_laws_places.specs.Places.{Setting, store_of, World}
use Rattle.wasm2js_laws_preservation.specs.ControlControl.{Function}
use Rattle.wasm2js_laws_preservation.proofs.ControlStepping.{appended}
use Rattle.wasm2js_laws_simulation.specs.CallsCalled.{given_back, seen_with, call_then, Passes, IsReturn}
use Rattle.wasm2js_laws_simulation.specs.HostHosts.{starting, Matches, setting_of, host, HostedCallsFollow}
use Rattle.wasm2js_laws_simulation.specs.HostLaws.{CallsOfHostFollow}
use Rattle.wasm2js_laws_simulation.proofs.HostEvents.{match_returned}
use Rattle.wasm2js_laws_simulation.proofs.HostExports.{init_exported}
use Rattle.wasm2js_laws_simulation.proofs.HostPace.{weaker}
use Rattle.wasm2js_laws_simulation.proofs.HostKept.{store_same}
use Rattle.wasm2js_laws_simulation.proofs.HostCalls.{keeps, profile, hosted}
use Rattle.wasm2js_laws_simulation.specs.SegmentsLaws.{segments_units, Takes, through, short}
use Rattle.wasm2js_laws_simulation.specs.StartLaws.{begins_at, begins_with, IsStored, InitFollows}

-- ---- the start function takes and gives nothing

no_items : {A : Type 0} → (xs : List A) → is_empty xs ≡ true → xs ≡ []
no_items [] h = refl
no_items (x ∷ xs) h = cc h

pub record IsStart (w : WasmModule) (f : ℕ) : Type 0 where
  pub type : FunctionType
  pub typed : type_of_function w f ≡ Some type
  pub params : type.params ≡ []
  pub results : type.results ≡ []

start_typed : (w : WasmModule) (f : ℕ) → is_start (type_of_function w f) ≡ true → IsStart w f
start_typed w f h = by (type_of_function w f) refl h
  where
    by : (o : Option FunctionType) → type_of_function w f ≡ o → is_start o ≡ true → IsStart w f
    by None e h = absurd (cc h)
    by (Some t) e h =
        let p = and_parts (is_empty t.params) (is_empty t.results) h in
        record { type = t; typed = e; params = no_items t.params p.0; results = no_items t.results p.1 }

started_by : (w : WasmModule) → IsSource w → (f : ℕ) → w.start ≡ Some f → IsStart w f
started_by w source f e =
    let one : 0 < start_count w.start = subst (λ o. 0 < start_count o) (sym e) (omega arith) in
    let rule : start_rule w f ≡ None = sym (ap (λ o. rule_at o (start_rule w)) e) ∙ source.whole.is_valid sections.Start 0 one in
    start_typed w f (meets_none (is_start (type_of_function w f)) _ _ (meets_rest (is_function w f) _ _ rule))

no_params : (ts : List ValType) → ts ≡ [] → Passes ts [] []
no_params ts e = subst (λ ts. Passes ts [] []) (sym e) tt

no_result : (t : FunctionType) → t.results ≡ [] → result_of t ≡ None
no_result t e = rw e refl

-- ---- the call

module _ (w : WasmModule) (s : ScriptPlain) (c : ℕ) (source : IsSource w) (asked : IsCalledAs w (translated w)) (one : 1 ≤ c) (follow : HostedCallsFollow w c) (stored : IsStored w s)
    (rest : (bound : ℕ) → CallsOfHostFollow w s c bound s.calls) (units : ℕ) where
  abbrev by : Comparison
  by = comparison w (translated w) s

  abbrev order : KeepsOrder by
  order = keeps w s c source one

  abbrev x : Setting
  x = setting_of w s

  abbrev z : ℕ
  z = length s.calls

  abbrev there : ℕ → Place
  there u = begins_with w s stored.heap u

  abbrev others : List CallPlain
  others = flat_map (split_call (shapes_of w)) s.calls

  abbrev then_calls : Part (Unit {0})
  then_calls = host_calls_to (call_at_to (translated w) units) (translated w) others gives

  abbrev left_of : (p : Place) → List EventPlain → Rest
  left_of p events n = calls_seen w s.calls n (store_of x p events)

  -- what comes after `$init`
  next : JsValue → Part (Unit {0})
  next v = and_then (add_event (result_event (init_function w) v)) (λ _. then_calls)

  none_signed : signature_of (init_function w) ≡ record { params = 0; result = false }
  none_signed = by_export (exported_as_asked w (translated w) (codes "$init") _ asked refl)
    where
      by_export : IsExported (translated w) (codes "$init") (record { params = 0; result = false }) → signature_of (init_function w) ≡ record { params = 0; result = false }
      by_export it =
          let both : Some (init_function w) ≡ Some it.function = sym (init_exported w) ∙ it.is_this in
          let same : init_function w ≡ it.function = some_same both in
          ap signature_of same ∙ it.signature
        where
          some_same : {f g : text.Function} → ◌≡◌ {A = Option text.Function} (Some f) (Some g) → f ≡ g
          some_same h = cc h

  -- back from it
  back : (q : Place) (events : List EventPlain) (v : JsValue) → q.units ≤ units → q.locals ≡ [] → World x (Matches starting) events q
      → Follows by c z q (left_of q events) (next v (record q { locals = [] }))
  unfolding next
  back q events v few none world =
      let q' = record q { locals = []; events = q.events ++ call_returned ∷ [] } in
      subst (λ (f : Signature). Follows by c z q (left_of q events) (then_calls (record q { locals = []; events = q.events ++ (if f.result then call_gave (word v) else call_returned) ∷ [] }))) (sym none_signed)
      (weaker by order c z z q q' (left_of q events) (omega arith) refl (call_returned ∷ [], refl) (then_calls q')
      (same_is_followed by c z q' (left_of q events) (left_of q' events) (then_calls q')
      (λ n. ap (calls_seen w s.calls n) (sym (store_same x q q' events (sym none) refl refl refl)))
      (rest units q' events few refl
      (record { match = match_returned events q.events world.match; names = world.names; is_heap = world.is_heap; past = world.past; replies = world.replies }))))

  -- ---- the start function

  abbrev ends : Completion → Part (Unit {0})
  ends d = and_then (function_end d) (λ v. and_then (back_to [] v) next)

  -- what is left after instantiation
  abbrev left_to : Option ℕ → Rest
  left_to o n = started w o n (with_bytes w.segments (with_entries w.elements (first_store w s))) (calls_seen w s.calls)

  module _ (bound left : ℕ) (few : suc bound ≤ units) (room : left ≤ bound) where
    abbrev starts : Option ℕ → Part (Unit {0})
    starts o = exec_all_to (call_at_to (translated w) bound) (scope_of (translated w) (init_function w)) bound (stmts_in (start_stmts o)) ends

    none_starts : Follows by c z (there left) (left_to None) (starts None (there left))
    none_starts =
        same_is_followed by c z (there left) (left_to None) (left_of (there left) []) (starts None (there left)) (λ n. ap (calls_seen w s.calls n) (sym (stored.store left)))
        (back (there left) [] Undef (omega (arith, few, room)) refl (stored.world left))

    module _ (f : ℕ) (it : IsStart w f) where
      abbrev watch : Outcome → ObservationPlain
      watch o = after_start (run_of o) (calls_seen w s.calls)

      abbrev caller : Function
      caller = host w s c bound starting z watch

      abbrev declared : IsDeclared w f it.type
      declared = function_declared w (profile w s c source one) source.shaped f it.type it.typed

      abbrev g : text.Function
      g = declared.function

      begins : (n : ℕ) → left_to (Some f) n ≡ seen_with caller [] (call_then caller f ε) (reverse [] ++ []) [] (there left) [] n
      begins n =
          let after = calls_seen w s.calls in
          ap (λ r. after_start r after) (host_call w n f [] (with_bytes w.segments (with_entries w.elements (first_store w s))))
          ∙ ap (λ st. watch (call_then caller f ε (at [] [] st n))) (sym (stored.store left))

      returns : IsReturn caller bound (result_of it.type) [] ε [] [] (there left) (λ v. ends normal)
      returns q events v few' same world =
          subst (λ r. Follows by c z q (seen_with caller [] (onward w ε) (given_back r v q ++ []) [] q events) (ends normal q)) (sym (no_result it.type it.results))
          (same_is_followed by c z q (seen_with caller [] (onward w ε) [] [] q events) (left_of q events) (ends normal q) (λ n. ap watch (no_code w (at [] [] (store_of x q events) n)))
          (back q events Undef (omega (arith, few, room, few')) same world))

      some_starts : Follows by c z (there left) (left_to (Some f)) (starts (Some f) (there left))
      some_starts =
          subst (λ m. Follows by c z (there left) (left_to (Some f)) (call_named_to (call_at_to (translated w) bound) m [] (λ v. ends normal) (there left)))
          (sym (is_seen w (fixed init) [] [] (flat_map segment_stmts w.segments ++ start_stmts w.start) refl refl (numbered function f) (a_function g) refl declared.meaning))
          (same_is_followed by c z (there left) (left_to (Some f)) (seen_with caller [] (call_then caller f ε) (reverse [] ++ []) [] (there left) [])
          (call_at_to (translated w) bound g [] (λ v. ends normal) (there left)) begins
          (follow caller refl refl (hosted w s c source one bound starting z watch (λ e st. refl) (λ st. refl)) f it.type g it.typed declared.meaning
          bound [] ε [] [] (λ v. ends normal) (there left) [] [] [] (omega (arith, room)) (omega arith) (stored.world left) (no_params it.type.params it.params) returns))

    by_start : (o : Option ℕ) → w.start ≡ o → Follows by c z (there left) (left_to o) (starts o (there left))
    by_start None e = none_starts
    by_start (Some f) e = some_starts f (started_by w source f e)

    -- ---- instantiation is a reduction of its own

    instantiates : (n : ℕ) → wasm w s (suc n) ≡ left_to w.start n
    instantiates n = ap (λ b. instantiated b w s n (first_store w s)) stored.fit

    after_stores : Follows by c z (there left) (source_session w s) (starts w.start (there left))
    after_stores =
        steps_are_paid by order c z 0 (there left) (there left) (source_session w s) (left_to w.start) (starts w.start (there left)) (omega arith) (omega arith) (prefix_same _ _ refl)
        (record { events = []; is_running = refl; match = refl }) instantiates (by_start w.start refl)

  module _ (bound : ℕ) (few : suc bound ≤ units) where
    abbrev inside : Part (Unit {0})
    inside = exec_all_to (call_at_to (translated w) bound) (scope_of (translated w) (init_function w)) bound (init_function w).body ends

    abbrev cost : ℕ
    cost = segments_units w.segments

    abbrev further : Completion → Part (Unit {0})
    further d = unless_left_to d (exec_all_to (call_at_to (translated w) bound) (scope_of (translated w) (init_function w)) bound (stmts_in (start_stmts w.start))) ends

    abbrev stores : Part (Unit {0})
    stores = exec_all_to (call_at_to (translated w) bound) (scope_of (translated w) (init_function w)) bound (stmts_in (flat_map segment_stmts w.segments)) further

    apart : inside (begins_at w s bound) ≡ stores (begins_at w s bound)
    apart = ap (λ f. f (begins_at w s bound)) (appended (call_at_to (translated w) bound) (scope_of (translated w) (init_function w)) bound (flat_map segment_stmts w.segments) (start_stmts w.start) ends)

    -- the units of segments are paid by no reduction
    after_segments : (run : Run (Unit {0})) → Takes cost stored.heap (begins_at w s bound) (further normal) run → Follows by c (z + cost) (begins_at w s bound) (source_session w s) run
    after_segments run (through left many is) =
        subst (λ run. Follows by c (z + cost) (begins_at w s bound) (source_session w s) run) (sym is)
        (free_units by order c z cost (begins_at w s bound) (there left) (source_session w s) (further normal (there left)) many (prefix_same _ _ refl) (after_stores bound left few (omega (arith, many))))
    after_segments run (short q less shown is) =
        subst (λ run. Follows by c (z + cost) (begins_at w s bound) (source_session w s) run) (sym is)
        (unpaid_stops by order c (z + cost) 0 (begins_at w s bound) q (source_session w s) (omega (arith, less)) (prefix_same _ _ (sym shown)) (prefix_same _ _ (ap by.target_events shown)))

    inside_follows : Follows by c (z + cost) (begins_at w s bound) (source_session w s) (inside (begins_at w s bound))
    inside_follows =
        subst (λ run. Follows by c (z + cost) (begins_at w s bound) (source_session w s) run) (sym apart)
        (after_segments (stores (begins_at w s bound)) (stored.stores bound bound further (omega arith)))

  -- ---- its own unit

  no_unit : units ≡ 0 → Follows by c (z + segments_units w.segments + 1) (begins_at w s units) (source_session w s) (spent (begins_at w s units))
  no_unit e = unpaid_stops by order c (z + segments_units w.segments + 1) 0 (begins_at w s units) (begins_at w s units) (source_session w s) (omega (arith, e)) (prefix_same _ _ refl) (prefix_same _ _ refl)

  by_units : (n : ℕ) → units ≡ n → Follows by c (z + segments_units w.segments + 1) (begins_at w s units) (source_session w s) (call_at_to (translated w) n (init_function w) [] next (begins_at w s units))
  by_units zero e = no_unit e
  by_units (suc n) e =
      subst (λ u. Follows by c (z + segments_units w.segments + 1) (begins_at w s u) (source_session w s) (call_at_to (translated w) (suc n) (init_function w) [] next (begins_at w s u))) (sym e)
      (free_units by order c (z + segments_units w.segments) 1 (begins_at w s (suc n)) (begins_at w s n) (source_session w s) (inside n (omega (arith, e)) (begins_at w s n)) (omega arith) (prefix_same _ _ refl) (inside_follows n (omega (arith, e))))

  pub init_called : Follows by c (z + segments_units w.segments + 1) (begins_at w s units) (source_session w s) (host_calls_to (call_at_to (translated w) units) (translated w) (script_for w s).calls gives (begins_at w s units))
  unfolding next
  init_called =
      subst (λ o. Follows by c (z + segments_units w.segments + 1) (begins_at w s units) (source_session w s)
      (and_then (defined o) (λ g. call_at_to (translated w) units g [] (λ v. and_then (add_event (result_event g v)) (λ _. then_calls))) (begins_at w s units)))
      (sym (init_exported w)) (by_units units refl)

pub init_follows : InitFollows
init_follows w s pace source asked one follow stored rest units = init_called w s pace source asked one follow stored rest units
