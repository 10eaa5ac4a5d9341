-- The call of an imported function, by its wrapper.
use Rattle.std.proofs.Common.{◌≡◌, ℕ, zero, suc, ◌+◌, ◌*◌, ◌^◌, ◌≤◌, Bool, true, false, List, [], ◌∷◌, ◌++◌, map, length, take, drop, Option, Some, None, pos, refl, sym, ap, ◌∙◌, subst, arith}
use Rattle.std.specs.Prelude.{bytes_eq, reverse, option_map, if◌then◌else◌}
use Rattle.std.specs.List.{AllByRecursion, list_all, flat_map}
use Rattle.std.specs.Int.Bits.{bit_or}
use Rattle.std.proofs.lemmas.Bool.{and_parts, and_from}
use Rattle.std.proofs.lemmas.List.{map-append, reverse-reverse, length-reverse, length-take, append-nil}
use Rattle.sem_words.specs.declared.word.Word.{Word}
use Rattle.sem_words.specs.declared.word.Word.TheVariants.{W32, W64}
use Rattle.sem_words.specs.declared.js_value.JsValue.{JsValue}
use Rattle.sem_words.specs.declared.js_value.JsValue.TheVariants.{Whole, Undef}
use Rattle.sem_words.specs.declared.js_value.JsOp.TheVariants.{Or}
use Rattle.sem_words.specs.JsValues.{to_uint32_of}
use Rattle.sem_words.specs.JsOperators.{js_binary_of, signed_value}
use Rattle.sem_words.proofs.WordLaws.{word_of-signed_of_32}
use Rattle.session_lang.specs.Observation.{EventPlain, import_called, EndPlain, stopped, no_reply, as_stop, ended}
use Rattle.session_lang.specs.Simulation.{HeapsAgree, IsSameAs}
use Rattle.session_lang.specs.Imports.{low_word, high_word, high_name, Replies, ImportAnswer, goes_on, ends, answer_import}
use Rattle.session_lang.specs.Script.{WritePlain, ReplyPlain, give}
use Rattle.session_lang.specs.CallingForms.{split_word}
use Rattle.wasm_lang.specs.declared.types.ValType.{ValType}
use Rattle.wasm_lang.specs.declared.types.ValType.TheVariants.{I32, I64}
use Rattle.wasm_lang.specs.Modules.{FunctionType}
use Rattle.wasm_lang_valid.specs.Typing.{listed, result_of}
use Rattle.wasm_lang_exec.specs.Code.{Trees}
use Rattle.wasm_lang_exec.specs.Store.{written}
use Rattle.wasm_lang_exec.specs.Reductions.{an_import, callee_at, top_of, below_top, and_value, result_word}
use Rattle.wasm_laws_drive.specs.Drive.{State, Outcome, at, onward}
use Rattle.wasm_laws_drive.specs.Equations as drive
use Rattle.wasm_laws_drive.specs.Equations.{after_import, entered, called}
use Rattle.wasm_laws_drive.specs.Contexts.{Surrounding, closed}
use Rattle.wasm_laws_drive.proofs.Closing.{ends_stay}
use Rattle.asm_lang.specs.Modules as text
use Rattle.asm_lang.specs.Modules.{Expr, no_exprs, returns}
use Rattle.asm_lang_valid.specs.Scope.{a_foreign, is_in}
use Rattle.asm_lang_valid.specs.Typed.{scope_of}
use Rattle.asm_lang_valid.specs.Typing.{Scope, named}
use Rattle.asm_lang_exec.specs.Runs.{Binding, Place, Part, after, and_then, defined, paid, read, write, back_to}
use Rattle.asm_lang_exec.specs.Values.{word, with_writes, answered}
use Rattle.asm_lang_exec.specs.Meaning.{Completion, normal, returned, first_locals, function_end}
use Rattle.asm_laws_continuation.specs.Following.{CallsBefore, call_named_to, call_at_to, eval_to, eval_all_to, exec_all_to, with_locals_to}
use Rattle.wasm2js_translation.specs.Names as names
use Rattle.wasm2js_translation.specs.Names.{Name, numbered, operand_low, global_low, global_high, fixed, result_high, spelled}
use Rattle.wasm2js_translation.specs.Words.{name_of, signed_number, put_in, stmts_in}
use Rattle.wasm2js_translation.specs.Actions.{low}
use Rattle.wasm2js_translation.specs.Bodies.{signed_word, high_result}
use Rattle.wasm2js_translation.specs.Modules.{param_names, sent, wrapper_body, wrapper_locals, wrapper, translated}
use Rattle.wasm2js_laws_scopes.specs.Laws as scopes
use Rattle.wasm2js_laws_scopes.proofs.Declared.{variables_are_own}
use Rattle.wasm2js_laws_acceptance.proofs.ProvidedForeign.{foreign_are_provided, high_is_foreign}
use Rattle.wasm2js_laws_places.specs.Following.{Rest, Stands}
use Rattle.wasm2js_laws_places.proofs.Paced.{steps_are_paid, stands_still}
use Rattle.wasm2js_laws_places.specs.Straight.{Words, with_word}
use Rattle.wasm2js_laws_places.specs.Places.{is_own, word_at, names_in, AreApart, locals_from, globals_from, globals_of, store_of, IsHeap, IsReply, World}
use Rattle.wasm2js_laws_places.specs.Helped.{IsOn}
use Rattle.wasm2js_laws_actions.proofs.Reading.{read_then}
use Rattle.wasm2js_laws_actions.proofs.Variables.{variable_read}
use Rattle.wasm2js_laws_actions.proofs.Doing.{apart_kept}
use Rattle.wasm2js_laws_preservation.specs.ControlControl.{Function, Match, IsFollowed}
use Rattle.wasm2js_laws_preservation.proofs.InstructionsEnding.{are_words}
use Rattle.wasm2js_laws_simulation.specs.CallsCalled.{Passes, given_back, seen_with, call_then, IsReturn, IsCallFollowed}
use Rattle.wasm2js_laws_preservation.proofs.BranchesMoved.{write_then}
use Rattle.wasm2js_laws_simulation.proofs.CallsReturned.{signed_word as word_signed}
use Rattle.wasm2js_laws_simulation.specs.FramesFrames.{at_depth, IsSettled}
use Rattle.wasm2js_laws_simulation.proofs.FramesHelped.{profile_of}
use Rattle.wasm2js_laws_simulation.proofs.FramesEntered.{bound_from, parameters_are, as_many, names_bound, zero_bindings, zero_words, zero_names, words_in, locals_entered, same_locals}
use Rattle.wasm2js_laws_simulation.proofs.FramesLeft.{store_same}
use Rattle.wasm2js_laws_simulation.proofs.FramesFramed.{not_among}
use Rattle.wasm2js_laws_simulation.proofs.FramesDepths.{call_stands}
use Rattle.wasm2js_laws_simulation.specs.ImportsLaws.{IsSplit}
use Rattle.wasm2js_laws_simulation.proofs.ImportsAnswering.{answers_alike, words_split, halves, low_low, IsWritten, writes_are_written}

-- ---- lists

all_joined : (xs ys : List Name) → list_all scopes.is_own xs ≡ true → list_all scopes.is_own ys ≡ true → list_all scopes.is_own (xs ++ ys) ≡ true
all_joined [] ys h k = k
all_joined (x ∷ xs) ys h k = let parts = and_parts (scopes.is_own x) (list_all scopes.is_own xs) h in and_from (scopes.is_own x) (list_all scopes.is_own (xs ++ ys)) parts.0 (all_joined xs ys parts.1 k)

top_all : (xs ys : List Word) → top_of (length xs) (xs ++ ys) ≡ Some xs
top_all [] ys = refl
top_all (x ∷ xs) ys = ap (and_value x) (top_all xs ys)

below_all : (xs ys : List Word) → below_top (length xs) (xs ++ ys) ≡ ys
below_all [] ys = refl
below_all (x ∷ xs) ys = below_all xs ys

globals_alike : (g : ℕ) (ts : List ValType) (a b : Words) → ((n : ℕ) → a (numbered global_low n) ≡ b (numbered global_low n)) → ((n : ℕ) → a (numbered global_high n) ≡ b (numbered global_high n))
    → globals_from g ts a ≡ globals_from g ts b
globals_alike g [] a b h k = refl
globals_alike g (I32 ∷ ts) a b h k = let e = h g in let more = globals_alike (suc g) ts a b h k in cc (e, more)
globals_alike g (I64 ∷ ts) a b h k = let e = h g in let u = k g in let more = globals_alike (suc g) ts a b h k in cc (e, u, more)

sent_words : (vs : List JsValue) (ns : List Name) (words : Words) → map to_uint32_of vs ≡ map words ns → map word vs ≡ map (λ n. W32 (words n)) ns
sent_words [] [] words h = refl
sent_words [] (n ∷ ns) words h = absurd (cc h)
sent_words (v ∷ vs) [] words h = absurd (cc h)
sent_words (v ∷ vs) (n ∷ ns) words h =
    let e : to_uint32_of v ≡ words n = cc h in
    let k : map to_uint32_of vs ≡ map words ns = cc h in
    let more = sent_words vs ns words k in
    cc (e, more)

-- ---- what is sent

module _ (f : Function) (calls : CallsBefore (Unit {0})) (scope : Scope) (r : Rest) (here q : Place) (apart : AreApart q) where
  sent_then : (ns : List Name) (next : List JsValue → Part (Unit {0})) → ((vs : List JsValue) → map to_uint32_of vs ≡ map (word_at q) ns → IsFollowed f here r (next vs q))
      → IsFollowed f here r (eval_all_to calls scope (sent ns) next q)
  sent_then [] next h = h [] refl
  sent_then (n ∷ ns) next h =
      read_then (IsFollowed f here r) (word_at q n) q (read (spelled n) q)
      (λ v. and_then (defined (js_binary_of Or v (Whole (pos 0)))) (λ x. eval_all_to calls scope (sent ns) (λ vs. next (x ∷ vs)))) tt (variable_read n q apart)
      (λ v a.
      sent_then ns (λ vs. next (signed_value (bit_or (to_uint32_of v) 0) ∷ vs))
      (λ vs e. h (signed_value (bit_or (to_uint32_of v) 0) ∷ vs) (joined (word_signed v ∙ a) e)))
    where
      joined : {x y : ℕ} {xs ys : List ℕ} → x ≡ y → xs ≡ ys → ◌≡◌ {A = List ℕ} (x ∷ xs) (y ∷ ys)
      joined e k = cc (e, k)

-- ---- the wrapper

module _ (f : Function) (settled : IsSettled f) (split : IsSplit f) (k : ℕ) (name : List ℕ) (t : FunctionType) (is_callee : callee_at f.home k ≡ Some (an_import name t))
    (results : listed (result_of t) ≡ t.results) (narrow : bytes_eq name high_name ≡ true → result_of t ≡ Some I64 → ⊥) (d : ℕ) where
  abbrev it : text.Function
  it = wrapper k t

  abbrev ps : List Name
  ps = param_names 0 t.params

  abbrev r : Option ValType
  r = result_of t

  abbrev ls : List Name
  ls = wrapper_locals r

  abbrev calls : CallsBefore (Unit {0})
  calls = call_at_to (translated f.home) d

  abbrev scope : Scope
  scope = scope_of (translated f.home) it

  abbrev foreign_call : Expr
  foreign_call = text.call (spelled (numbered names.foreign k)) (sent ps)

  params_own : list_all scopes.is_own ps ≡ true
  params_own = (variables_are_own t.params [] (record { height = 0; wide_height = 0; locals = [] })).0

  locals_own : list_all scopes.is_own ls ≡ true
  locals_own = by r
    where
      by : (r : Option ValType) → list_all scopes.is_own (wrapper_locals r) ≡ true
      by None = refl
      by (Some I32) = refl
      by (Some I64) = refl

  foreign_named : named scope (spelled (numbered names.foreign k)) ≡ a_foreign name
  foreign_named = foreign_are_provided f.home (profile_of f.home settled.source) (numbered names.function k) ps ls (wrapper_body r foreign_call) params_own locals_own k name t is_callee

  high_named : named scope (name_of names.high) ≡ a_foreign (name_of names.high)
  high_named = high_is_foreign f.home (numbered names.function k) ps ls (wrapper_body r foreign_call) params_own locals_own

  -- ---- one call

  module _ (most : ℕ) (around : List Surrounding) (code : Trees) (below locals : List Word) (next : JsValue → Part (Unit {0})) (p : Place) (w : List EventPlain) (vs : List JsValue) (xs : List Word)
      (le : most ≤ suc d) (few : p.units ≤ most) (world : World f.setting (Match f) w p) (passes : Passes t.params vs xs) (resumes : IsReturn (at_depth f (suc d)) most r around code below locals p next) where
    abbrev start : Rest
    start = seen_with f around (call_then f k code) (reverse xs ++ below) locals p w

    starts : Stands f.by p start
    starts = call_stands f settled k around code (reverse xs ++ below) locals p w world

    abbrev ys : List Word
    ys = flat_map split_word xs

    abbrev bs : List Binding
    bs = bound_from 0 t.params vs ++ zero_bindings ls

    bound : first_locals it vs ≡ Some bs
    bound = ap (λ o. option_map (λ b. b ++ zero_bindings ls) o) (parameters_are 0 t.params vs xs passes)

    names_are : names_in bs ≡ map spelled (ps ++ ls)
    names_are =
        map-append (λ (b : Binding). b.name) (bound_from 0 t.params vs) (zero_bindings ls)
        ∙ ap (λ ns. ns ++ names_in (zero_bindings ls)) (names_bound 0 t.params vs xs passes)
        ∙ ap (λ ns. map spelled ps ++ ns) (zero_names ls)
        ∙ sym (map-append spelled ps ls)

    -- what comes after the body, and after the import's value
    abbrev ends_with : Completion → Part (Unit {0})
    ends_with c = and_then (function_end c) (λ v. and_then (back_to p.locals v) next)

    abbrev last_part : Part (Unit {0})
    last_part = exec_all_to calls scope d (stmts_in (returns (Some (signed_word 0)) ∷ [])) ends_with

    abbrev high_part : Part (Unit {0})
    high_part = exec_all_to calls scope d (stmts_in (put_in high_result (signed_number (text.call (name_of names.high) no_exprs)) ∷ returns (Some (signed_word 0)) ∷ [])) ends_with

    abbrev wrapped : Option ValType → JsValue → Part (Unit {0})
    wrapped None v = ends_with normal
    wrapped (Some I32) v = and_then (defined (js_binary_of Or v (Whole (pos 0)))) (λ x. ends_with (returned x))
    wrapped (Some I64) v = and_then (defined (js_binary_of Or v (Whole (pos 0)))) (λ x. and_then (write (spelled (low 0)) x) (λ y. high_part))

    body_is : (r : Option ValType) (e : Expr) (q : Place) → exec_all_to calls scope d (stmts_in (wrapper_body r e)) ends_with q ≡ eval_to calls scope e (wrapped r) q
    body_is None e q = refl
    body_is (Some I32) e q = refl
    body_is (Some I64) e q = refl

    -- ---- the source's reduction

    abbrev state : List Word → ℕ → State
    state values n = at values locals (store_of f.setting p w) n

    abbrev answered_as : ImportAnswer → ℕ → Outcome
    answered_as a n = closed f.home around (after_import f.home a t.results code (state below n))

    steps : (n : ℕ) → start (suc n) ≡ f.watch (answered_as (answer_import name xs p.replies) n)
    steps n =
        let many : length t.params ≡ length (reverse xs) = sym (length-reverse xs ∙ as_many t.params vs xs passes) in
        ap (λ c. f.watch (closed f.home around (called f.home c code (state (reverse xs ++ below) n)))) is_callee
        ∙ ap (λ j. f.watch (closed f.home around (entered f.home (Some (an_import name t)) (top_of j (reverse xs ++ below)) code (state (below_top j (reverse xs ++ below)) n)))) many
        ∙ ap (λ o. f.watch (closed f.home around (entered f.home (Some (an_import name t)) o code (state (below_top (length (reverse xs)) (reverse xs ++ below)) n)))) (top_all (reverse xs) below)
        ∙ ap (λ b. f.watch (closed f.home around (entered f.home (Some (an_import name t)) (Some (reverse xs)) code (state b n)))) (below_all (reverse xs) below)
        ∙ ap (λ a. f.watch (answered_as (answer_import name a p.replies) n)) (reverse-reverse xs)

    -- ---- with so many units left

    module _ (u : ℕ) (units : p.units ≡ suc u) where
      abbrev q : Place
      q = record p { units = u; locals = bs }

      apart : AreApart q
      apart n = by (is_own n) refl
        where
          by : (b : Bool) → is_own n ≡ b → is_in (spelled n) (names_in (if b then p.globals else bs)) ≡ false
          by true e = ap (is_in (spelled n)) world.names ∙ settled.names n e
          by false e = ap (is_in (spelled n)) names_are ∙ not_among n (ps ++ ls) (all_joined ps ls params_own locals_own) e

      -- ---- the session ends at the import

      memory_agrees : HeapsAgree f.by.first_heap (take f.setting.bytes p.heap) p.heap
      memory_agrees =
          let l = length-take f.setting.bytes p.heap in
          let h = world.is_heap.holds in
          let e : length (take f.setting.bytes p.heap) ≡ f.setting.bytes = omega (arith, l, h) in
          record {
            same = ap (λ n. take n p.heap) e;
            kept = ap (λ n. drop n p.heap) e ∙ world.past ∙ settled.past ∙ sym (ap (λ n. drop n f.by.first_heap) e);
          }

      abbrev Answers : ImportAnswer → ImportAnswer → Type 0
      Answers a a' = ((n : ℕ) → start (suc n) ≡ f.watch (answered_as a n)) → IsFollowed f p start (after (answered a' q) (wrapped r))

      stops_there : (e e' : EndPlain) → f.by.source_end e ≡ e' → Answers (ends e) (ends e')
      stops_there e e' is begins = record {
        cost = 1;
        same = subst (λ o. IsSameAs f.by o (ended p.events e' p.heap)) (sym (begins 0 ∙ ap f.watch (ends_stay f.home around e (store_of f.setting p w)) ∙ settled.ended e (store_of f.setting p w)))
            (record { events = settled.match w p.events world.match; end = ap (λ x. Some (as_stop x)) is; heap = memory_agrees });
      }

      -- ---- the import comes back

      module _ (gives_word : ℕ) (writes : List WritePlain) (es es' : List EventPlain) (replies : Replies)
          (kept : IsWritten f.setting.bytes p.heap (with_writes writes p.heap) (written writes (take f.setting.bytes p.heap))) (left : AllByRecursion (IsReply f.setting.bytes) replies.left)
          (match : Match f (w ++ es) (p.events ++ es')) (wide : r ≡ Some I64 → replies.last ≡ gives_word)
          (begins : (n : ℕ) → start (suc n) ≡ f.watch (answered_as (goes_on (record { word = gives_word; writes = writes; events = es; replies = replies })) n)) where
        record IsAnswered (q3 : Place) : Type 0 where
          left_units : q3.units ≡ u
          has_heap : q3.heap ≡ with_writes writes p.heap
          has_replies : q3.replies ≡ replies
          events : q3.events ≡ p.events ++ es'
          module_names : names_in q3.globals ≡ names_in p.globals
          lows : (n : ℕ) → word_at q3 (numbered global_low n) ≡ word_at p (numbered global_low n)
          highs : (n : ℕ) → word_at q3 (numbered global_high n) ≡ word_at p (numbered global_high n)

        abbrev back_at : Place → Place
        back_at q3 = record q3 { locals = p.locals }

        same_given : (r : Option ValType) (v : JsValue) (q3 : Place) → given_back r v q3 ≡ given_back r v (back_at q3)
        same_given None v q3 = refl
        same_given (Some I32) v q3 = refl
        same_given (Some I64) v q3 = refl

        module _ (q3 : Place) (is : IsAnswered q3) where
          back_world : World f.setting (Match f) (w ++ es) (back_at q3)
          back_world = record {
            match = match ∙ ap f.target_shown (sym is.events);
            names = is.module_names ∙ world.names;
            is_heap = subst (IsHeap f.setting.bytes) (sym is.has_heap) kept.is_heap;
            past = ap (drop f.setting.bytes) is.has_heap ∙ kept.past ∙ world.past;
            replies = subst (λ (rs : Replies). AllByRecursion (IsReply f.setting.bytes) rs.left) (sym is.has_replies) left;
          }

          store_there : drive.answered (record { word = gives_word; writes = writes; events = es; replies = replies }) (store_of f.setting p w) ≡ store_of f.setting (back_at q3) (w ++ es)
          store_there =
              ap (λ m. record { memory = m; globals = globals_of f.setting.kinds (word_at p); table = f.setting.table; events = w ++ es; replies = replies }) (sym (ap (take f.setting.bytes) is.has_heap ∙ kept.in_memory))
              ∙ ap (λ gs. record { memory = take f.setting.bytes q3.heap; globals = gs; table = f.setting.table; events = w ++ es; replies = replies })
              (sym (globals_alike 0 f.setting.kinds (word_at q3) (word_at p) is.lows is.highs))
              ∙ ap (λ rs. record { memory = take f.setting.bytes q3.heap; globals = globals_of f.setting.kinds (word_at q3); table = f.setting.table; events = w ++ es; replies = rs }) (sym is.has_replies)
              ∙ sym (store_same f.setting q3 (back_at q3) (w ++ es) refl refl refl)

          abbrev resumed : Rest
          resumed = seen_with f around (onward f.home code) (given_back r (Undef) (back_at q3) ++ below) locals (back_at q3) (w ++ es)

          finishes : (v : JsValue) → given_back r v q3 ≡ result_word (listed r) gives_word → IsFollowed f p start (next v (back_at q3))
          finishes v gives =
              let left_units = is.left_units in
              steps_are_paid f.by settled.keeps f.pace f.unpaid 1 p (back_at q3) start (seen_with f around (onward f.home code) (given_back r v (back_at q3) ++ below) locals (back_at q3) (w ++ es)) (next v (back_at q3))
              settled.some (omega (arith, units, left_units)) (es', is.events) starts
              (λ n.
              begins n
              ∙ ap (λ ts. f.watch (closed f.home around (onward f.home code (at (result_word ts gives_word ++ below) locals
              (drive.answered (record { word = gives_word; writes = writes; events = es; replies = replies }) (store_of f.setting p w)) n)))) (sym results)
              ∙ ap (λ vs. f.watch (closed f.home around (onward f.home code (at (vs ++ below) locals
              (drive.answered (record { word = gives_word; writes = writes; events = es; replies = replies }) (store_of f.setting p w)) n)))) (sym gives ∙ same_given r v q3)
              ∙ ap (λ s. f.watch (closed f.home around (onward f.home code (at (given_back r v (back_at q3) ++ below) locals s n)))) store_there)
              (resumes (back_at q3) (w ++ es) v (omega (arith, units, left_units, few)) refl back_world)

        -- where the import's value is there
        abbrev q1 : Place
        q1 = record q { heap = with_writes writes q.heap; replies = replies; events = q.events ++ es' }

        abbrev v1 : JsValue
        v1 = signed_value (low_word gives_word)

        word_one : to_uint32_of v1 ≡ low_word gives_word
        word_one = word_of-signed_of_32 (low_word gives_word) (low_low gives_word)

        abbrev x1 : JsValue
        x1 = signed_value (bit_or (to_uint32_of v1) 0)

        at_once : IsAnswered q1
        at_once = record { left_units = refl; has_heap = refl; has_replies = refl; events = refl; module_names = refl; lows = λ n. refl; highs = λ n. refl }

        -- the low word is written
        module _ (is_wide : r ≡ Some I64) (q2 : Place) (on : IsOn f.setting.bytes (with_word (numbered operand_low 0) (to_uint32_of x1) (word_at q1)) q1.heap 0 q1 q2) where
          abbrev high_value : JsValue
          high_value = signed_value (low_word (high_word q2.replies.last))

          abbrev q2h : Place
          q2h = record q2 { events = q2.events ++ [] }

          abbrev x2 : JsValue
          x2 = signed_value (bit_or (to_uint32_of high_value) 0)

          -- and the high word
          module _ (q3 : Place) (on' : IsOn f.setting.bytes (with_word (fixed result_high) (to_uint32_of x2) (word_at q2h)) q2h.heap 0 q2h q3) where
            there : IsAnswered q3
            there = record {
              left_units = let a = on.left in let b = on'.left in omega (arith, a, b);
              has_heap = on'.has_heap ∙ on.has_heap;
              has_replies = on'.replies ∙ on.replies;
              events = on'.events ∙ append-nil q2.events ∙ on.events;
              module_names = on'.globals ∙ on.globals;
              lows = λ n. on'.has_words (numbered global_low n) ∙ on.has_words (numbered global_low n);
              highs = λ n. on'.has_words (numbered global_high n) ∙ on.has_words (numbered global_high n);
            }

            low_is : word_at q3 (numbered operand_low 0) ≡ low_word gives_word
            low_is = on'.has_words (numbered operand_low 0) ∙ on.has_words (numbered operand_low 0) ∙ word_signed v1 ∙ word_one

            high_is : word_at q3 (fixed result_high) ≡ low_word (high_word gives_word)
            high_is =
                on'.has_words (fixed result_high) ∙ word_signed high_value ∙ word_of-signed_of_32 (low_word (high_word q2.replies.last)) (low_low (high_word q2.replies.last))
                ∙ ap (λ (rs : Replies). low_word (high_word rs.last)) on.replies ∙ ap (λ n. low_word (high_word n)) (wide is_wide)

            both_given : (v : JsValue) → to_uint32_of v ≡ word_at q3 (numbered operand_low 0)
                → given_back r (signed_value (bit_or (to_uint32_of v) 0)) q3 ≡ result_word (listed r) gives_word
            both_given v a =
                subst (λ r. given_back r (signed_value (bit_or (to_uint32_of v) 0)) q3 ≡ result_word (listed r) gives_word) (sym is_wide)
                (ap (λ n. W64 (n + 2 ^ 32 * word_at q3 (fixed result_high)) ∷ []) (word_signed v ∙ a ∙ low_is)
                ∙ ap (λ n. W64 (low_word gives_word + 2 ^ 32 * n) ∷ []) high_is
                ∙ ap (λ n. W64 n ∷ []) (halves gives_word))

            last_followed : IsFollowed f p start (last_part q3)
            last_followed =
                read_then (IsFollowed f p start) (word_at q3 (numbered operand_low 0)) q3 (read (spelled (low 0)) q3)
                (λ v. and_then (defined (js_binary_of Or v (Whole (pos 0)))) (λ x. ends_with (returned x))) tt
                (variable_read (numbered operand_low 0) q3 (apart_kept q q3 (on'.locals ∙ on.locals) (on'.globals ∙ on.globals) apart))
                (λ v a. finishes q3 there (signed_value (bit_or (to_uint32_of v) 0)) (both_given v a))

          abbrev then_high : JsValue → Part (Unit {0})
          then_high v = and_then (defined (js_binary_of Or v (Whole (pos 0)))) (λ x. and_then (write (spelled high_result) x) (λ y. last_part))

          high_followed : IsFollowed f p start (high_part q2)
          high_followed =
              subst (λ m. IsFollowed f p start (call_named_to calls m [] then_high q2)) (sym high_named)
              (write_then f start p q2h (fixed result_high) x2 (λ c. last_part) (apart_kept q q2h on.locals on.globals apart) (subst (IsHeap f.setting.bytes) (sym on.has_heap) on.is_heap) last_followed)

        by_result : (r' : Option ValType) → r ≡ r' → IsFollowed f p start (wrapped r' v1 q1)
        by_result None is = finishes q1 at_once Undef (subst (λ r. given_back r Undef q1 ≡ result_word (listed r) gives_word) (sym is) refl)
        by_result (Some I32) is =
            finishes q1 at_once x1 (subst (λ r. given_back r x1 q1 ≡ result_word (listed r) gives_word) (sym is) (ap (λ n. W32 n ∷ []) (word_signed v1 ∙ word_one)))
        by_result (Some I64) is = write_then f start p q1 (numbered operand_low 0) x1 (λ c. high_part) (apart_kept q q1 refl refl apart) kept.is_heap (high_followed is)

        pub comes_back : IsFollowed f p start (wrapped r v1 q1)
        comes_back = by_result r refl

      -- ---- each answer

      gives_back : (n : ℕ) (writes : List WritePlain) (left : List ReplyPlain) → p.replies.left ≡ give n writes ∷ left
          → Answers (goes_on (record { word = n; writes = writes; events = import_called name xs ∷ []; replies = record { left = left; last = n } }))
          (goes_on (record { word = n; writes = writes; events = import_called name ys ∷ []; replies = record { left = left; last = n } }))
      gives_back n writes left is begins =
          let all = subst (AllByRecursion (IsReply f.setting.bytes)) is world.replies in
          comes_back n writes (import_called name xs ∷ []) (import_called name ys ∷ []) (record { left = left; last = n }) (writes_are_written f.setting.bytes writes p.heap world.is_heap all.0) all.1
          (split.called name xs w p.events world.match) (λ e. refl) begins

      gives_high : bytes_eq name high_name ≡ true
          → Answers (goes_on (record { word = high_word p.replies.last; writes = []; events = []; replies = p.replies })) (goes_on (record { word = high_word p.replies.last; writes = []; events = []; replies = p.replies }))
      gives_high is begins =
          comes_back (high_word p.replies.last) [] [] [] p.replies (writes_are_written f.setting.bytes [] p.heap world.is_heap tt) world.replies
          (ap f.source_shown (append-nil w) ∙ world.match ∙ ap f.target_shown (sym (append-nil p.events))) (λ e. absurd (narrow is e)) begins

      answer_followed : Answers (answer_import name xs p.replies) (answer_import name ys p.replies)
      answer_followed =
          answers_alike Answers name xs ys p.replies (stops_there (stopped name xs) (stopped name ys) (split.stopped name xs)) (stops_there (no_reply name xs) (no_reply name ys) (split.no_reply name xs)) gives_back gives_high

      -- ---- the body

      passed : locals_from 0 t.params (word_at q) ≡ xs
      passed =
          sym (same_locals 0 t.params q)
          ∙ ap (λ ts. locals_from 0 ts (words_in bs)) (sym (append-nil t.params))
          ∙ locals_entered [] (zero_bindings ls) (zero_words ls) 0 t.params vs xs passes
          ∙ append-nil xs

      body_followed : IsFollowed f p start (exec_all_to calls scope d it.body ends_with q)
      body_followed =
          subst (λ run. IsFollowed f p start run) (sym (body_is r foreign_call q))
          (sent_then f calls scope start p q apart ps (λ us. call_named_to calls (named scope (spelled (numbered names.foreign k))) us (wrapped r))
          (λ us e.
          subst (λ m. IsFollowed f p start (call_named_to calls m us (wrapped r) q)) (sym foreign_named)
          (subst (λ zs. IsFollowed f p start (after (answered (answer_import name zs p.replies) q) (wrapped r)))
          (sym (sent_words us ps (word_at q) e ∙ words_split 0 t.params (word_at q) (are_words q) ∙ ap (flat_map split_word) passed)) (answer_followed steps))))

    by_units : (n : ℕ) → p.units ≡ n
        → IsFollowed f p start
        (and_then (paid n) (λ _. and_then (defined (first_locals it vs)) (λ locals. with_locals_to locals (λ next. exec_all_to calls scope d it.body (λ c. and_then (function_end c) next)) next)) p)
    by_units zero e = stands_still f.by f.pace f.unpaid 1 p p start settled.some (omega (arith, e)) refl starts
    by_units (suc u) e =
        subst (λ o. IsFollowed f p start (and_then (defined o) (λ locals. with_locals_to locals (λ next. exec_all_to calls scope d it.body (λ c. and_then (function_end c) next)) next) (record p { units = u })))
        (sym bound) (body_followed u e)

    pub call_followed : IsFollowed f p start (call_at_to (translated f.home) (suc d) it vs next p)
    call_followed = by_units p.units refl

  pub wrapper_follows : IsCallFollowed (at_depth f (suc d)) k t it
  wrapper_follows most around code below locals next p w vs xs le few world passes resumes = call_followed most around code below locals next p w vs xs le few world passes resumes
