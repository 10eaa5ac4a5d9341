-- What a call gives back, in the caller: the result is written to its operand, and the code after the call goes on.
use Rattle.std.proofs.Common.{◌≡◌, ℕ, suc, ◌+◌, ◌*◌, ◌^◌, ◌≤◌, List, [], ◌∷◌, ◌++◌, length, Option, Some, None, pos, refl, sym, ap, ◌∙◌, subst, arith}
use Rattle.std.specs.Int.Bits.{bit_or, or_zero_r}
use Rattle.sem_words.specs.declared.word.Bin.TheVariants as bins
use Rattle.sem_words.specs.declared.word.Word.{Word}
use Rattle.sem_words.specs.declared.word.Word.TheVariants.{W32, W64}
use Rattle.sem_words.specs.declared.js_value.JsValue.{JsValue}
use Rattle.sem_words.specs.declared.js_value.JsValue.TheVariants.{Whole}
use Rattle.sem_words.specs.declared.js_value.JsOp.TheVariants.{Or}
use Rattle.sem_words.specs.JsValues.{to_uint32_of}
use Rattle.sem_words.specs.JsOperators.{js_binary_of, signed_value}
use Rattle.sem_words.proofs.WordLaws.{word_of-signed_of_32}
use Rattle.session_lang.specs.Observation.{EventPlain}
use Rattle.wasm_lang.specs.declared.types.ValType.{ValType}
use Rattle.wasm_lang.specs.declared.types.ValType.TheVariants.{I32, I64}
use Rattle.wasm_lang_valid.specs.Typing.{listed}
use Rattle.wasm_lang_exec.specs.Code.{Trees}
use Rattle.wasm_laws_drive.specs.Drive.{at, onward}
use Rattle.wasm_laws_drive.specs.Contexts.{Surrounding, closed}
use Rattle.asm_lang.specs.Modules.{Expr}
use Rattle.asm_lang_exec.specs.Runs.{Place, Part, and_then, defined, value_in, write}
use Rattle.asm_lang_exec.specs.Meaning.{Completion, normal}
use Rattle.asm_laws_continuation.specs.Following.{eval_to, exec_all_to, unless_left_to}
use Rattle.wasm2js_translation.specs.Names.{Name, numbered, local_low, local_high, operand_low, operand_high, fixed, result_high, spelled}
use Rattle.wasm2js_translation.specs.Words.{put_in, stmts_in}
use Rattle.wasm2js_translation.specs.Pairs.{operand_pair}
use Rattle.wasm2js_translation.specs.Actions.{low}
use Rattle.wasm2js_translation.specs.Bodies.{Aim, word_in, high_result, answered}
use Rattle.wasm2js_laws_places.specs.Following.{Rest}
use Rattle.wasm2js_laws_places.specs.Straight.{Words, with_word}
use Rattle.wasm2js_laws_places.specs.Places.{word_bound, word_at, names_in, operands, locals_from, locals_of, store_of, IsHeap, World, Stays}
use Rattle.wasm2js_laws_places.specs.Helped.{IsOn}
use Rattle.wasm2js_laws_actions.proofs.Numbers.{small}
use Rattle.wasm2js_laws_actions.proofs.Doing.{still_on, apart_kept}
use Rattle.wasm2js_laws_preservation.specs.ControlControl.{Function, Match, IsFair, Inside, code_sight, IsFollowed, statements_to, IsKept}
use Rattle.wasm2js_laws_preservation.proofs.ControlStepping.{stays_on, no_step}
use Rattle.wasm2js_laws_preservation.proofs.ControlLabels.{operands_stay}
use Rattle.wasm2js_laws_preservation.proofs.InstructionsEnding.{counts_alike}
use Rattle.wasm2js_laws_preservation.proofs.InstructionsComputing.{inside_on}
use Rattle.wasm2js_laws_preservation.proofs.BranchesMoved.{Agrees, agrees_on, agrees_with, state_agrees, operand_agrees, high_agrees, itself, not_below, write_then, move_then}
use Rattle.wasm2js_laws_simulation.specs.CallsCalled.{given_back, seen_with}

pub signed_word : (v : JsValue) → to_uint32_of (signed_value (bit_or (to_uint32_of v) 0)) ≡ to_uint32_of v
signed_word v = word_of-signed_of_32 _ (small bins.Or v (Whole (pos 0))) ∙ or_zero_r (to_uint32_of v)

-- ---- what comes after the value of a call

module _ (f : Function) where
  abbrev pub given_to : Option ValType → (d : ℕ) → (Completion → Part (Unit {0})) → JsValue → Part (Unit {0})
  given_to None d next v = next normal
  given_to (Some I32) d next v = and_then (defined (js_binary_of Or v (Whole (pos 0)))) (λ x. and_then (write (spelled (low d)) x) (λ y. next normal))
  given_to (Some I64) d next v =
      and_then (defined (js_binary_of Or v (Whole (pos 0))))
      (λ x. and_then (write (spelled (low d)) x) (λ y. exec_all_to f.calls f.scope f.bound (stmts_in (put_in (operand_pair d).high (word_in high_result) ∷ [])) next))

  pub answered_is : (r : Option ValType) (d : ℕ) (e : Expr) (next : Completion → Part (Unit {0})) (p : Place)
      → exec_all_to f.calls f.scope f.bound (stmts_in (answered r d e)) next p ≡ eval_to f.calls f.scope e (given_to r d next) p
  answered_is None d e next p = refl
  answered_is (Some I32) d e next p = refl
  answered_is (Some I64) d e next p = refl

-- ---- back in the caller, which called at p

module _ (f : Function) (fair : IsFair f) (most : ℕ) (ls : List Aim) (b : ℕ) (below : List ValType) (code : Trees) (around : List Surrounding) (before : Words) (next : Completion → Part (Unit {0}))
    (p : Place) (w0 : List EventPlain) (i : Inside f most w0 p) (stays : Stays b before (word_at p))
    (q : Place) (w : List EventPlain) (few : q.units ≤ most) (same : q.locals ≡ p.locals) (world : World f.setting (Match f) w q) where
  abbrev d : ℕ
  d = b + length below

  abbrev then_rest : List ValType → Completion → Part (Unit {0})
  then_rest us c = unless_left_to c (statements_to f code ls b us [] []) next

  -- above what lay below the arguments
  abbrev seen_above : List Word → Rest
  seen_above values = seen_with f around (onward f.home code) (values ++ operands b below (word_at p)) (locals_of f.context.locals (word_at p)) q w

  inside : Inside f most w q
  inside = record {
    world = world;
    names = ap names_in same ∙ i.names;
    apart = apart_kept p q (ap names_in same) (world.names ∙ sym i.world.names) i.apart;
    units = few;
  }

  own_stays : (e : ℕ) → Stays e (word_at p) (word_at q)
  own_stays e = record {
    low = λ k h. ap (λ bs. word_bound (value_in bs (spelled (numbered operand_low k)))) same;
    high = λ k h. ap (λ bs. word_bound (value_in bs (spelled (numbered operand_high k)))) same;
  }

  locals_same : (x : ℕ) (ts : List ValType) → locals_from x ts (word_at q) ≡ locals_from x ts (word_at p)
  locals_same x [] = refl
  locals_same x (I32 ∷ ts) =
      let a : word_at q (numbered local_low x) ≡ word_at p (numbered local_low x) = ap (λ bs. word_bound (value_in bs (spelled (numbered local_low x)))) same in
      let k = locals_same (suc x) ts in
      cc (a, k)
  locals_same x (I64 ∷ ts) =
      let a : word_at q (numbered local_low x) ≡ word_at p (numbered local_low x) = ap (λ bs. word_bound (value_in bs (spelled (numbered local_low x)))) same in
      let c : word_at q (numbered local_high x) ≡ word_at p (numbered local_high x) = ap (λ bs. word_bound (value_in bs (spelled (numbered local_high x)))) same in
      let k = locals_same (suc x) ts in
      cc (a, c, k)

  -- on with the code, from a place that differs in operands alone
  on_from : (values : List Word) (us : List ValType) (q' : Place) → IsOn f.setting.bytes (word_at q') q.heap 0 q q' → Agrees (word_at q) (word_at q') → Stays d (word_at q) (word_at q')
      → operands b us (word_at q') ≡ values ++ operands b below (word_at p) → IsKept f most code ls b us around before next → IsFollowed f q (seen_above values) (then_rest us normal q')
  on_from values us q' on agrees kept is rest =
      let left = on.left in
      counts_alike f q q' (seen_above values) (then_rest us normal q') (omega (arith, left)) on.events
      (no_step f fair q' (seen_above values) (code_sight f around code b us q' w) (then_rest us normal q')
      (λ n.
      ap (λ vs. f.watch (closed f.home around (onward f.home code (at vs (locals_of f.context.locals (word_at p)) (store_of f.setting q w) n)))) (sym is)
      ∙ ap (λ vs. f.watch (closed f.home around (onward f.home code (at (operands b us (word_at q')) vs (store_of f.setting q w) n)))) (sym (locals_same 0 f.context.locals))
      ∙ ap (λ t. f.watch (closed f.home around (onward f.home code t))) (sym (state_agrees f (operands b us (word_at q')) q q' w n agrees on.has_heap on.replies)))
      (rest q' w (inside_on f most w (word_at q') q.heap 0 q q' on refl inside)
      (stays_on b b d before (word_at p) (word_at q') (omega arith) (omega arith) stays (stays_on d d d (word_at p) (word_at q) (word_at q') (omega arith) (omega arith) (own_stays d) kept))))

  below_same : (q' : Place) → Stays d (word_at q) (word_at q') → operands b below (word_at q') ≡ operands b below (word_at p)
  below_same q' kept =
      operands_stay b d below (word_at p) (word_at q') (omega arith) (stays_on d d d (word_at p) (word_at q) (word_at q') (omega arith) (omega arith) (own_stays d) kept)

  by_itself : (words : Words) (q' : Place) → IsOn f.setting.bytes words q.heap 0 q q' → IsOn f.setting.bytes (word_at q') q.heap 0 q q'
  by_itself words q' on = record {
    has_words = λ n. refl;
    has_heap = on.has_heap;
    is_heap = on.is_heap;
    left = on.left;
    locals = on.locals;
    globals = on.globals;
    events = on.events;
    replies = on.replies;
  }

  -- ---- a word is written to the operand above

  module _ (v : JsValue) where
    abbrev result : JsValue
    result = signed_value (bit_or (to_uint32_of v) 0)

    abbrev low_words : Words
    low_words = with_word (numbered operand_low d) (to_uint32_of result) (word_at q)

    low_stays : Stays d (word_at q) low_words
    low_stays = record { low = λ e h. let n = not_below d e h in rw n refl; high = λ e h. refl }

    low_there : low_words (numbered operand_low d) ≡ to_uint32_of v
    low_there = (let e = itself d in rw e refl) ∙ signed_word v

    words_stay : (words : Words) (q' : Place) → Stays d (word_at q) words → ((n : Name) → word_at q' n ≡ words n) → Stays d (word_at q) (word_at q')
    words_stay words q' s same = record { low = λ e h. same (numbered operand_low e) ∙ s.low e h; high = λ e h. same (numbered operand_high e) ∙ s.high e h }

    narrow_on : IsKept f most code ls b (I32 ∷ below) around before next → (q' : Place) → IsOn f.setting.bytes low_words q.heap 0 q q'
        → IsFollowed f q (seen_above (given_back (Some I32) v q)) (then_rest (I32 ∷ below) normal q')
    narrow_on rest q' on =
        let kept = words_stay low_words q' low_stays on.has_words in
        on_from (given_back (Some I32) v q) (I32 ∷ below) q' (by_itself low_words q' on)
        (agrees_with (word_at q) low_words (word_at q') (operand_agrees d (to_uint32_of result) (word_at q)) on.has_words) kept
        (ap (λ n. W32 n ∷ operands b below (word_at q')) (on.has_words (numbered operand_low d) ∙ low_there) ∙ ap (λ vs. W32 (to_uint32_of v) ∷ vs) (below_same q' kept)) rest

    narrow_given : IsKept f most code ls b (I32 ∷ below) around before next → IsFollowed f q (seen_above (given_back (Some I32) v q)) (given_to f (Some I32) d (then_rest (I32 ∷ below)) v q)
    narrow_given rest =
        write_then f (seen_above (given_back (Some I32) v q)) q q (numbered operand_low d) result (then_rest (I32 ∷ below)) inside.apart world.is_heap (narrow_on rest)

    -- and the high word
    module _ (rest : IsKept f most code ls b (I64 ∷ below) around before next) (q' : Place) (on : IsOn f.setting.bytes low_words q.heap 0 q q') where
      abbrev both_words : Words
      both_words = with_word (numbered operand_high d) (word_at q' (fixed result_high)) (word_at q')

      wide_on : (q'' : Place) → IsOn f.setting.bytes both_words q'.heap 0 q' q'' → IsFollowed f q (seen_above (given_back (Some I64) v q)) (then_rest (I64 ∷ below) normal q'')
      wide_on q'' on' =
          let units = on.left in
          let units' = on'.left in
          let first : Stays d (word_at q) (word_at q') = words_stay low_words q' low_stays on.has_words in
          let kept : Stays d (word_at q) (word_at q'') = record {
            low = λ e h. on'.has_words (numbered operand_low e) ∙ first.low e h;
            high = λ e h. on'.has_words (numbered operand_high e) ∙ (let n = not_below d e h in rw n refl) ∙ first.high e h;
          } in
          let low_is : word_at q'' (numbered operand_low d) ≡ to_uint32_of v = on'.has_words (numbered operand_low d) ∙ on.has_words (numbered operand_low d) ∙ low_there in
          let high_is : word_at q'' (numbered operand_high d) ≡ word_at q (fixed result_high) = on'.has_words (numbered operand_high d) ∙ (let e = itself d in rw e refl) ∙ on.has_words (fixed result_high) in
          on_from (given_back (Some I64) v q) (I64 ∷ below) q''
          (record {
            has_words = λ n. refl;
            has_heap = on'.has_heap ∙ on.has_heap;
            is_heap = on.is_heap;
            left = omega (arith, units, units');
            locals = on'.locals ∙ on.locals;
            globals = on'.globals ∙ on.globals;
            events = on'.events ∙ on.events;
            replies = on'.replies ∙ on.replies;
          })
          (agrees_on (word_at q) (word_at q') (word_at q'')
          (agrees_with (word_at q) low_words (word_at q') (operand_agrees d (to_uint32_of result) (word_at q)) on.has_words)
          (agrees_with (word_at q') both_words (word_at q'') (high_agrees d (word_at q' (fixed result_high)) (word_at q')) on'.has_words)) kept
          (ap (λ n. W64 (n + 2 ^ 32 * word_at q'' (numbered operand_high d)) ∷ operands b below (word_at q'')) low_is
          ∙ ap (λ n. W64 (to_uint32_of v + 2 ^ 32 * n) ∷ operands b below (word_at q'')) high_is
          ∙ ap (λ vs. W64 (to_uint32_of v + 2 ^ 32 * word_at q (fixed result_high)) ∷ vs) (below_same q'' kept)) rest

      high_given : IsFollowed f q (seen_above (given_back (Some I64) v q)) (exec_all_to f.calls f.scope f.bound (stmts_in (put_in (operand_pair d).high (word_in high_result) ∷ [])) (then_rest (I64 ∷ below)) q')
      high_given =
          move_then f (seen_above (given_back (Some I64) v q)) q q' (numbered operand_high d) (fixed result_high)
          (λ c. unless_left_to c (exec_all_to f.calls f.scope f.bound (stmts_in [])) (then_rest (I64 ∷ below))) (apart_kept q q' on.locals on.globals inside.apart)
          (subst (IsHeap f.setting.bytes) (sym on.has_heap) on.is_heap) wide_on

    wide_given : IsKept f most code ls b (I64 ∷ below) around before next → IsFollowed f q (seen_above (given_back (Some I64) v q)) (given_to f (Some I64) d (then_rest (I64 ∷ below)) v q)
    wide_given rest =
        write_then f (seen_above (given_back (Some I64) v q)) q q (numbered operand_low d) result
        (λ c. unless_left_to c (exec_all_to f.calls f.scope f.bound (stmts_in (put_in (operand_pair d).high (word_in high_result) ∷ []))) (then_rest (I64 ∷ below))) inside.apart world.is_heap
        (high_given rest)

  pub call_given : (r : Option ValType) (v : JsValue) → IsKept f most code ls b (listed r ++ below) around before next
      → IsFollowed f q (seen_above (given_back r v q)) (given_to f r d (then_rest (listed r ++ below)) v q)
  call_given None v rest =
      let kept : Stays d (word_at q) (word_at q) = record { low = λ e h. refl; high = λ e h. refl } in
      on_from [] below q (still_on f.setting.bytes q world.is_heap)
      (record { local_words = λ n. refl; local_highs = λ n. refl; global_words = λ n. refl; global_highs = λ n. refl }) kept (below_same q kept) rest
  call_given (Some I32) v rest = narrow_given v rest
  call_given (Some I64) v rest = wide_given v rest
