-- The calls of a script, one after the other.
use Rattle.std.proofs.Common.{◌≡◌, ℕ, suc, ◌+◌, ◌*◌, ◌^◌, ◌<◌, ◌≤◌, Bool, true, List, [], ◌∷◌, ◌++◌, length, map, take, drop, append-nil, append_assoc, Option, Some, None, refl, sym, ap, ◌∙◌, subst, arith}
use Rattle.std.specs.Prelude.{reverse, is_some, if◌then◌else◌}
use Rattle.std.specs.List.{AllByRecursion, flat_map, list_any}
use Rattle.std.proofs.lemmas.List.{length-take}
use Rattle.sem_words.specs.declared.word.Word.{Word}
use Rattle.sem_words.specs.declared.word.Word.TheVariants.{W32, W64}
use Rattle.sem_words.specs.declared.js_value.JsValue.{JsValue}
use Rattle.sem_words.specs.declared.js_value.JsValue.TheVariants.{Whole}
use Rattle.sem_words.specs.JsValues.{to_uint32_of}
use Rattle.asm_types.proofs.Sound.{to_uint32_lt}
use Rattle.session_lang.specs.Script.{CallPlain, ScriptPlain}
use Rattle.session_lang.specs.Imports.{low_word, high_word}
use Rattle.session_lang.specs.Observation.{EventPlain, call_gave, call_returned, EndPlain, ObservationPlain, running, IsPrefix}
use Rattle.session_lang.proofs.BelowLaws.{prefix_trans}
use Rattle.session_lang.specs.Simulation.{Comparison, HeapsAgree, TargetIsBelow}
use Rattle.session_lang.specs.CallingForms.{ShapePlain, hi_call, split_args, split_call_by, split_call, split_event, without_init}
use Rattle.session_lang.specs.Laws.{KeepsOrder}
use Rattle.session_lang.proofs.Forms.{calling_forms_keep_order}
use Rattle.wasm_lang.specs.declared.types.ValType.{ValType}
use Rattle.wasm_lang.specs.declared.types.ValType.TheVariants.{I32, I64}
use Rattle.wasm_lang.specs.Modules.{FunctionType, WasmModule}
use Rattle.wasm_lang_valid.specs.ModuleRules.{type_of_function}
use Rattle.wasm_lang_valid.specs.Profile.{IsInProfile}
use Rattle.wasm_lang_valid.specs.Typing.{listed, result_of}
use Rattle.wasm_lang_exec.specs.Code.{ε}
use Rattle.wasm_lang_exec.specs.Store.{Store}
use Rattle.wasm_lang_exec.specs.Reductions.{callee_at}
use Rattle.wasm_lang_exec.specs.Session as machine
use Rattle.wasm_lang_exec.specs.Session.{function_named, words_for, arguments_for, with_event, run_call, after_call, one_call, calls_seen, seen_end, seen_running}
use Rattle.wasm_lang_exec.specs.Fits.{takes_arguments, takes, type_at, fits_call}
use Rattle.wasm_laws_drive.specs.Drive.{Outcome, Ended, Spent, at, onward}
use Rattle.wasm_laws_drive.specs.Equations.{pay, called}
use Rattle.wasm_laws_drive.specs.Laws.{run_of}
use Rattle.wasm_laws_drive.proofs.Counting.{host_call}
use Rattle.wasm_laws_drive.proofs.Instructions.{no_code}
use Rattle.wasm_laws_sound.proofs.Functions.{is_named, type_results, typed_functions}
use Rattle.asm_lang.specs.Modules as text
use Rattle.asm_lang_valid.specs.Scope.{signature_of, is_in}
use Rattle.asm_lang_exec.specs.Runs.{Place, Part, gives, and_then, defined, add_event}
use Rattle.asm_lang_exec.specs.Values.{word}
use Rattle.asm_lang_exec.specs.Session.{first_heap, result_event}
use Rattle.asm_laws_continuation.specs.Following.{CallsBefore, call_at_to, host_calls_to}
use Rattle.wasm2js_translation.specs.Names.{fixed, result_high, spelled}
use Rattle.wasm2js_lang.specs.Calling.{is_wide, shape, shapes_of}
use Rattle.wasm2js_lang.specs.Heaps.{heap_bytes}
use Rattle.wasm2js_lang.specs.Allowed.{script_for, comparison}
use Rattle.wasm2js_translation.specs.Modules.{high_function, translated}
use Rattle.wasm2js_laws_scripts.proofs.Calls.{callable, shapes_are_found}
use Rattle.wasm2js_laws_scripts.proofs.Names.{shaped_exports_are_bytes}
use Rattle.wasm2js_laws_acceptance.proofs.ProvidedFunctions.{IsDeclared, function_declared}
use Rattle.wasm2js_laws_acceptance.specs.FunctionsFunctions.{IsSource}
use Rattle.wasm2js_laws_places.specs.Following.{Rest, Follows}
use Rattle.wasm2js_laws_places.proofs.Paced.{same_is_followed}
use Rattle.wasm2js_laws_places.specs.Places.{word_at, Setting, store_of, World}
use Rattle.wasm2js_laws_preservation.specs.ControlControl.{Function}
use Rattle.wasm2js_laws_simulation.specs.CallsCalled.{given_back, seen_with, call_then, IsReturn}
use Rattle.wasm2js_laws_simulation.specs.HostHosts.{Phase, calling, Matches, setting_of, host, IsHosted, HostedCallsFollow}
use Rattle.wasm2js_laws_simulation.specs.HostLaws.{CallsOfHostFollow, HostCallsFollow}
use Rattle.wasm2js_laws_simulation.proofs.HostEvents.{match_counts, match_more, match_imports}
use Rattle.wasm2js_laws_simulation.proofs.HostExports.{high_exported, function_exported}
use Rattle.wasm2js_laws_simulation.proofs.HostArguments.{arguments_pass}
use Rattle.wasm2js_laws_simulation.proofs.HostNames.{names_apart}
use Rattle.wasm2js_laws_simulation.proofs.HostPace.{weaker}
use Rattle.wasm2js_laws_simulation.proofs.HostKept.{calls_keep, store_same}
use Rattle.wasm2js_laws_simulation.proofs.HostHigh.{high_called}

-- ---- numbers

low_is : (l h : ℕ) → l < 2 ^ 32 → low_word (l + 2 ^ 32 * h) ≡ l
low_is l h le = omega (arith, le)

high_is : (l h : ℕ) → l < 2 ^ 32 → high_word (l + 2 ^ 32 * h) ≡ h
high_is l h le = omega (arith, le)

taken : (bytes : ℕ) (heap : List ℕ) → bytes ≤ length heap → length (take bytes heap) ≡ bytes
taken bytes heap h = let e = length-take bytes heap in omega (arith, e, h)

-- ---- the host

module _ (w : WasmModule) (s : ScriptPlain) (c : ℕ) (source : IsSource w) (one : 1 ≤ c) where
  abbrev by : Comparison
  by = comparison w (translated w) s

  abbrev x : Setting
  x = setting_of w s

  pub keeps : KeepsOrder by
  keeps = (calling_forms_keep_order (first_heap (translated w) (heap_bytes w) (script_for w s))).1

  pub profile : IsInProfile w
  profile = record { valid = source.whole.is_valid; within = source.within }

  pub hosted : (bound : ℕ) (phase : Phase) (unpaid : ℕ) (watch : Outcome → ObservationPlain) → ((e : EndPlain) (st : Store) → watch (Ended e st) ≡ seen_end e st)
      → ((st : Store) → watch (Spent st) ≡ seen_running st) → IsHosted (host w s c bound phase unpaid watch)
  hosted bound phase unpaid watch ends spends = record {
    source = source;
    home = refl;
    calls = refl;
    form = refl;
    match = λ es fs h. match_counts phase es fs h;
    imports = λ es fs name args h. match_imports phase es fs name args h;
    ended = ends;
    spent = spends;
    some = one;
    bytes = refl;
    past = refl;
    kinds = refl;
    table = refl;
    names = λ n h. names_apart w (script_for w s) n h;
  }

  -- at the end
  pub memory_agrees : (p : Place) (phase : Phase) (events : List EventPlain) → World x (Matches phase) events p → HeapsAgree by.first_heap (take x.bytes p.heap) p.heap
  memory_agrees p phase events world =
      let e = taken x.bytes p.heap world.is_heap.holds in
      record {
        same = ap (λ n. take n p.heap) e;
        kept = ap (λ n. drop n p.heap) e ∙ world.past ∙ sym (ap (λ n. drop n by.first_heap) e);
      }

  -- ---- what a call of the script calls

  pub record IsCallable (call : CallPlain) : Type 0 where
    pub number : ℕ
    pub type : FunctionType
    pub named : function_named w.exports call.name ≡ Some number
    pub typed : type_of_function w number ≡ Some type
    pub takes_these : takes_arguments type.params call.args ≡ true

  callable_call : (call : CallPlain) → fits_call w call ≡ true → IsCallable call
  callable_call call h = by_name (function_named w.exports call.name) refl h
    where
      by_type : (k : ℕ) → function_named w.exports call.name ≡ Some k → (o : Option FunctionType) → type_of_function w k ≡ o → takes o call.args ≡ true → IsCallable call
      by_type k e None t h = absurd (cc h)
      by_type k e (Some t) is h = record { number = k; type = t; named = e; typed = is; takes_these = h }

      by_name : (o : Option ℕ) → function_named w.exports call.name ≡ o → takes (type_at w o) call.args ≡ true → IsCallable call
      by_name None e h = absurd (cc h)
      by_name (Some k) e h = by_type k e (type_of_function w k) refl h

  arguments_are : (k : ℕ) (t : FunctionType) (zs : List _) → type_of_function w k ≡ Some t → arguments_for (callee_at w k) zs ≡ words_for t.params zs
  arguments_are k t zs typed =
      let it = (typed_functions w source.whole.is_valid source.whole.bodies_match).are_there k t typed in
      ap (λ o. arguments_for o zs) it.1 ∙ ap (λ (t : FunctionType). words_for t.params zs) it.2

  results_are : (k : ℕ) (t : FunctionType) → type_of_function w k ≡ Some t → listed (result_of t) ≡ t.results
  results_are k t typed = let it = is_named w k t typed in type_results w source.whole.is_valid it.number t it.is_type

  -- ---- after a call

  module _ (bound : ℕ) (line : ℕ) (cs : List CallPlain) (rest : CallsOfHostFollow w s c bound cs) where
    abbrev calls : CallsBefore (Unit {0})
    calls = call_at_to (translated w) bound

    abbrev others : List CallPlain
    others = flat_map (split_call (shapes_of w)) cs

    -- what is called after it, where its result is wide or not
    abbrev called_next : Bool → Part (Unit {0})
    called_next wide = host_calls_to calls (translated w) ((if wide then hi_call line ∷ [] else []) ++ others) gives

    abbrev given_event : Bool → JsValue → EventPlain
    given_event result v = if result then call_gave (word v) else call_returned

    module _ (q : Place) (events : List EventPlain) (few : q.units ≤ bound) (none : q.locals ≡ []) (world : World x (Matches calling) events q) where
      -- what is left of the session, after the event of the result
      abbrev left_of : EventPlain → Rest
      left_of e n = calls_seen w cs n (with_event e (store_of x q events))

      -- with these events more
      abbrev with_more : (u : ℕ) → List EventPlain → Place
      with_more u more = record q { events = q.events ++ more; units = u }

      goes_on : (e : EventPlain) (more : List EventPlain) (u : ℕ) → u ≤ bound → flat_map split_event (e ∷ []) ≡ more
          → Follows by c (length cs) (with_more u more) (left_of e) (host_calls_to calls (translated w) others gives (with_more u more))
      goes_on e more u le is =
          let q' = with_more u more in
          same_is_followed by c (length cs) q' (left_of e) (λ n. calls_seen w cs n (store_of x q' (events ++ e ∷ []))) (host_calls_to calls (translated w) others gives q')
          (λ n. ap (calls_seen w cs n) (sym (store_same x q q' (events ++ e ∷ []) refl refl refl refl)))
          (rest q' (events ++ e ∷ []) le none
          (record {
            match = subst (λ more. Matches calling (events ++ e ∷ []) (q.events ++ more)) is (match_more events q.events (e ∷ []) world.match);
            names = world.names;
            is_heap = world.is_heap;
            past = world.past;
            replies = world.replies;
          }))

      -- with one event
      narrow : (e f : EventPlain) → flat_map split_event (e ∷ []) ≡ f ∷ []
          → Follows by c (suc (length cs)) q (left_of e) (host_calls_to calls (translated w) others gives (with_more q.units (f ∷ [])))
      narrow e f is =
          weaker by keeps c (length cs) (suc (length cs)) q (with_more q.units (f ∷ [])) (left_of e) (omega arith) refl (f ∷ [], refl)
          (host_calls_to calls (translated w) others gives (with_more q.units (f ∷ []))) (goes_on e (f ∷ []) q.units few is)

      -- ---- a result of two words

      module _ (v : JsValue) where
        abbrev low : ℕ
        low = to_uint32_of v

        abbrev high : ℕ
        high = word_at q (fixed result_high)

        abbrev wide_event : EventPlain
        wide_event = call_gave (W64 (low + 2 ^ 32 * high))

        abbrev both : List EventPlain
        both = call_gave (W32 low) ∷ call_gave (W32 high) ∷ []

        split_is : flat_map split_event (wide_event ∷ []) ≡ both
        split_is =
            ap (λ n. call_gave (W32 n) ∷ call_gave (W32 (high_word (low + 2 ^ 32 * high))) ∷ []) (low_is low high (to_uint32_lt v))
            ∙ ap (λ n. call_gave (W32 low) ∷ call_gave (W32 n) ∷ []) (high_is low high (to_uint32_lt v))

        -- the low word shows no more than the source after its event
        shows : TargetIsBelow by (running (q.events ++ call_gave (W32 low) ∷ [])) (left_of wide_event 0)
        shows =
            let es = events ++ wide_event ∷ [] in
            let whole = match_counts calling es (q.events ++ both) (subst (λ more. Matches calling es (q.events ++ more)) split_is (match_more events q.events (wide_event ∷ []) world.match)) in
            let first : IsPrefix (without_init (q.events ++ call_gave (W32 low) ∷ [])) (flat_map split_event es) =
            subst (λ xs. IsPrefix (without_init (q.events ++ call_gave (W32 low) ∷ [])) xs) (sym whole)
            (keeps.target (q.events ++ call_gave (W32 low) ∷ []) (q.events ++ both) (call_gave (W32 high) ∷ [], sym (append_assoc q.events (call_gave (W32 low) ∷ []) (call_gave (W32 high) ∷ []))))
            in
            prefix_trans _ _ _ first (keeps.source es (left_of wide_event 0).events (calls_keep w cs (with_event wide_event (store_of x q events))))

        -- what comes after `$hi`
        after_high : JsValue → Part (Unit {0})
        after_high u = and_then (add_event (call_gave (word u))) (λ _. host_calls_to calls (translated w) others gives)

        back_from_high : (n : ℕ) → q.units ≡ suc n → (u : JsValue) → to_uint32_of u ≡ high
            → Follows by c (length cs) (with_more n (call_gave (W32 low) ∷ [])) (left_of wide_event) (after_high u (with_more n (call_gave (W32 low) ∷ [])))
        unfolding after_high
        back_from_high n h u is =
            let here = with_more n (call_gave (W32 low) ∷ []) in
            let there = record here { events = here.events ++ call_gave (word u) ∷ [] } in
            let joined : q.events ++ both ≡ there.events =
            sym (append_assoc q.events (call_gave (W32 low) ∷ []) (call_gave (W32 high) ∷ [])) ∙ ap (λ n. here.events ++ call_gave (W32 n) ∷ []) (sym is)
            in
            weaker by keeps c (length cs) (length cs) here there (left_of wide_event) (omega arith) refl (call_gave (word u) ∷ [], refl)
            (host_calls_to calls (translated w) others gives there)
            (subst (λ es. Follows by c (length cs) (record q { events = es; units = n }) (left_of wide_event) (host_calls_to calls (translated w) others gives (record q { events = es; units = n }))) joined
            (goes_on wide_event both n (omega (arith, few, h)) split_is))

        wide : Follows by c (suc (length cs)) q (left_of wide_event) (called_next true (with_more q.units (call_gave (W32 low) ∷ [])))
        unfolding after_high
        wide =
            let one_more : length cs + 1 ≡ suc (length cs) = omega arith in
            subst (λ o. Follows by c (suc (length cs)) q (left_of wide_event)
            (and_then (defined o) (λ g. calls g [] (λ u. and_then (add_event (result_event g u)) (λ _. host_calls_to calls (translated w) others gives))) (with_more q.units (call_gave (W32 low) ∷ []))))
            (sym (high_exported w))
            (subst (λ z. Follows by c z q (left_of wide_event) (calls high_function [] after_high (with_more q.units (call_gave (W32 low) ∷ [])))) one_more
            (high_called w by keeps c (length cs) q (λ n h. ap (is_in (spelled n)) world.names ∙ names_apart w (script_for w s) n h) (call_gave (W32 low)) (left_of wide_event) shows after_high
            back_from_high bound few))

      -- by the type of the result
      pub after_return : (r : Option ValType) (v : JsValue)
          → Follows by c (suc (length cs)) q (λ n. calls_seen w cs n (with_event (machine.result_event (given_back r v q ++ [])) (store_of x q events)))
          (called_next (list_any is_wide (listed r)) (with_more q.units (given_event (is_some r) v ∷ [])))
      after_return None v = narrow call_returned call_returned refl
      after_return (Some I32) v = narrow (call_gave (W32 (to_uint32_of v))) (call_gave (W32 (to_uint32_of v))) refl
      after_return (Some I64) v = wide v

  -- ---- a call

  module _ (follow : HostedCallsFollow w c) (bound : ℕ) (call : CallPlain) (cs : List CallPlain) (rest : CallsOfHostFollow w s c bound cs) (it : IsCallable call)
      (p : Place) (events : List EventPlain) (few : p.units ≤ bound) (none : p.locals ≡ []) (world : World x (Matches calling) events p) where
    abbrev watch : Outcome → ObservationPlain
    watch o = after_call (run_of o) (calls_seen w cs)

    abbrev caller : Function
    caller = host w s c bound calling (suc (length cs)) watch

    abbrev t : FunctionType
    t = it.type

    abbrev declared : IsDeclared w it.number t
    declared = function_declared w profile source.shaped it.number t it.typed

    abbrev g : text.Function
    g = declared.function

    abbrev arguments : List Word
    arguments = words_for t.params call.args

    abbrev sh : ShapePlain
    sh = shape (callable call.name t)

    abbrev next : JsValue → Part (Unit {0})
    next v = and_then (add_event (result_event g v)) (λ _. called_next bound call.line cs rest sh.wide_result)

    starts : (n : ℕ) → calls_seen w (call ∷ cs) n (store_of x p events) ≡ seen_with caller [] (call_then caller it.number ε) (reverse arguments ++ []) [] p events n
    starts n =
        let st = store_of x p events in
        let after = calls_seen w cs in
        ap (λ o. one_call w o call.args n st after) it.named
        ∙ ap (λ zs. after_call (run_call w n it.number zs st) after) (arguments_are it.number t call.args it.typed)
        ∙ ap (λ r. after_call r after) (host_call w n it.number arguments st)
        ∙ ap (λ vs. after_call (run_of (pay (at vs [] st n) (λ t. called w (callee_at w it.number) ε t))) after) (sym (append-nil (reverse arguments)))

    signed : (signature_of g).result ≡ is_some (result_of t)
    signed = ap (λ f. f.result) declared.signed

    wide_is : list_any is_wide (listed (result_of t)) ≡ list_any is_wide t.results
    wide_is = ap (list_any is_wide) (results_are it.number t it.typed)

    returns : IsReturn caller bound (result_of t) [] ε [] [] p next
    returns q es v few' same world' =
        same_is_followed by c (suc (length cs)) q (seen_with caller [] (onward w ε) (given_back (result_of t) v q ++ []) [] q es)
        (λ n. calls_seen w cs n (with_event (machine.result_event (given_back (result_of t) v q ++ [])) (store_of x q es))) (next v q)
        (λ n. ap watch (no_code w (at (given_back (result_of t) v q ++ []) [] (store_of x q es) n)))
        (subst (λ b. Follows by c (suc (length cs)) q (λ n. calls_seen w cs n (with_event (machine.result_event (given_back (result_of t) v q ++ [])) (store_of x q es)))
        (called_next bound call.line cs rest sh.wide_result (record q { events = q.events ++ (if b then call_gave (word v) else call_returned) ∷ [] }))) (sym signed)
        (subst (λ wide. Follows by c (suc (length cs)) q (λ n. calls_seen w cs n (with_event (machine.result_event (given_back (result_of t) v q ++ [])) (store_of x q es)))
        (called_next bound call.line cs rest wide (record q { events = q.events ++ (if is_some (result_of t) then call_gave (word v) else call_returned) ∷ [] }))) wide_is
        (after_return bound call.line cs rest q es few' (same ∙ none) world' (result_of t) v)))

    goes : Follows by c (suc (length cs)) p (λ n. calls_seen w (call ∷ cs) n (store_of x p events)) (call_at_to (translated w) bound g (map Whole (split_args (map is_wide t.params) call.args)) next p)
    goes =
        same_is_followed by c (suc (length cs)) p (λ n. calls_seen w (call ∷ cs) n (store_of x p events))
        (seen_with caller [] (call_then caller it.number ε) (reverse arguments ++ []) [] p events)
        (call_at_to (translated w) bound g (map Whole (split_args (map is_wide t.params) call.args)) next p) starts
        (follow caller refl refl (hosted bound calling (suc (length cs)) watch (λ e st. refl) (λ st. refl)) it.number t g it.typed declared.meaning
        bound [] ε [] [] next p events (map Whole (split_args (map is_wide t.params) call.args)) arguments (omega arith) few world
        (arguments_pass t.params call.args it.takes_these) returns)

    pub one_followed : Follows by c (suc (length cs)) p (λ n. calls_seen w (call ∷ cs) n (store_of x p events))
        (host_calls_to (call_at_to (translated w) bound) (translated w) (flat_map (split_call (shapes_of w)) (call ∷ cs)) gives p)
    one_followed =
        subst (λ o. Follows by c (suc (length cs)) p (λ n. calls_seen w (call ∷ cs) n (store_of x p events))
        (host_calls_to (call_at_to (translated w) bound) (translated w) (split_call_by o call ++ flat_map (split_call (shapes_of w)) cs) gives p))
        (sym (shapes_are_found w call.name t (ap (type_at w) it.named ∙ it.typed)))
        (subst (λ o. Follows by c (suc (length cs)) p (λ n. calls_seen w (call ∷ cs) n (store_of x p events))
        (and_then (defined o) (λ f. call_at_to (translated w) bound f (map Whole (split_args (map is_wide t.params) call.args)) (λ v. and_then (add_event (result_event f v)) (λ _. called_next bound call.line cs rest sh.wide_result))) p))
        (sym (function_exported w (shaped_exports_are_bytes w source.shaped) call.name it.number g it.named declared.meaning)) goes)

  -- ---- all of them

  none_followed : (bound : ℕ) → CallsOfHostFollow w s c bound []
  none_followed bound p events few none world = record { cost = 0; same = record { events = match_counts calling events p.events world.match; end = refl; heap = memory_agrees p calling events world } }

  pub calls_followed : HostedCallsFollow w c → (bound : ℕ) (cs : List CallPlain) → AllByRecursion (λ call. fits_call w call ≡ true) cs → CallsOfHostFollow w s c bound cs
  calls_followed follow bound [] all = none_followed bound
  calls_followed follow bound (call ∷ cs) all = λ p events few none world.
      one_followed follow bound call cs (calls_followed follow bound cs all.1) (callable_call call all.0) p events few none world

pub host_calls_follow : HostCallsFollow
host_calls_follow w s pace bound cs source one follow all = calls_followed w s pace source one follow bound cs all
