-- A call of the helper that fills.
use Rattle.std.proofs.Common.{◌≡◌, ℕ, suc, ◌+◌, ◌-◌, ◌*◌, ◌/◌, ◌%◌, ◌^◌, ◌<◌, ◌≤◌, Bool, true, false, List, [], ◌∷◌, ◌++◌, map, length, None, pos, refl, sym, ap, ◌∙◌, subst, arith}
use Rattle.std.specs.Prelude.{nat_le, ◌==◌, bit_and}
use Rattle.std.proofs.lemmas.Bool.Decides.{nat_tests}
use Rattle.sem_words.specs.declared.js_value.JsValue.{JsValue}
use Rattle.sem_words.specs.declared.js_value.JsValue.TheVariants.{Whole, Bool as Boolean}
use Rattle.sem_words.specs.JsValues.{to_uint32_of}
use Rattle.sem_words.specs.JsOperators.{signed_value}
use Rattle.sem_words.specs.Words.{add_of, sub_of, rel_of}
use Rattle.sem_words.specs.declared.word.Rel.TheVariants.{Ne, LtS, LeS}
use Rattle.heap_lang.specs.declared.kind.ViewKind.TheVariants.{I32}
use Rattle.heap_lang.specs.Heap.{store, store_bytes, filled}
use Rattle.heap_lang.proofs.RunLemmas.{filled_none, length-filled, IsBytes-filled}
use Rattle.asm_lang.specs.Modules.{Stmt, Module}
use Rattle.asm_lang_valid.specs.Typing.{Scope}
use Rattle.asm_lang_valid.specs.Typed.{scope_of}
use Rattle.asm_lang_exec.specs.Runs.{Binding, binding, Place, Run, wrong, spent, after}
use Rattle.asm_lang_exec.specs.Values.{Calls}
use Rattle.asm_lang_exec.specs.Meaning.{eval, exec, Completion, unless_left, call_at}
use Rattle.wasm2js_translation.specs.Names.{spelled}
use Rattle.wasm2js_translation.specs.Words.{Term, unequal, less, at_most, greater, conjunction, read, both, compare, write_whole, int_of, simple_statement}
use Rattle.wasm2js_translation.specs.Pairs.{literal, plus, minus}
use Rattle.wasm2js_translation.specs.Helpers.{argument, own, first, second, third, done, sets, block_of, when, repeat, rise, is_inside, eight_up, up_to_word, each, each_byte, length_test, start_test, four_times, fill_byte, fill_word, fill_words, fill_function}
use Rattle.wasm2js_laws_places.specs.Places.{word_at, IsHeap}
use Rattle.wasm2js_laws_places.specs.Helped.{Helps}
use Rattle.wasm2js_laws_actions.specs.Reads.{Finds}
use Rattle.wasm2js_laws_helpers.proofs.Called.{placed, called}
use Rattle.wasm2js_laws_helpers.proofs.Bodies.{run}
use Rattle.wasm2js_laws_helpers.proofs.Turned.{marked_word}
use Rattle.wasm2js_laws_preservation.specs.StoresAnswers.{with_byte}
use Rattle.wasm2js_laws_preservation.proofs.StoresFound.{expr_read, compared_finds}
use Rattle.wasm2js_laws_preservation.proofs.StoresSteps.{byte_then, whole_then, put_then}
use Rattle.wasm2js_laws_preservation.proofs.StoresWritten.{byte_stored, whole_stored}
use Rattle.wasm2js_laws_places.specs.Straight.{index_at}
use Rattle.wasm2js_laws_preservation.specs.RunsAnswers.{filled_run, fill_units, bytes_before, units_upwards}
use Rattle.wasm2js_laws_preservation.specs.RunsLaws.{HasViews, FillHelps}
use Rattle.wasm2js_laws_preservation.proofs.RunsLoops.{Works, at_cost, state, StepIs, IsLoop, repeated}
use Rattle.wasm2js_laws_preservation.proofs.RunsRuns.{byte_filled, word_filled, four_times_is}
use Rattle.wasm2js_laws_preservation.proofs.RunsCalled.{Traps, guard_then, test_then, only_then, Comes, called_job}
use Rattle.wasm2js_laws_preservation.proofs.RunsTests as tests
use Rattle.wasm2js_laws_preservation.proofs.RunsTests.{is_less, not_less, more_left, fewer_left, not_inside, words_fit, run_within, run_fits, fits, is_past}
use Rattle.wasm2js_laws_preservation.proofs.RunsUpwards.{past_by, AreUpward}

abbrev nothing : JsValue
nothing = Whole (pos 0)

module _ (m : Module) (has : HasViews m) (bytes : ℕ) (d : ℕ) (p : Place) (a x l : JsValue) where
  abbrev calls : Calls
  calls = call_at false m d

  abbrev c : Scope
  c = scope_of m (fill_function bytes)

  -- the place, the value and the length
  abbrev at : ℕ
  at = to_uint32_of a

  abbrev value_word : ℕ
  value_word = to_uint32_of x

  abbrev len : ℕ
  len = to_uint32_of l

  abbrev filled_to : ℕ → List ℕ
  filled_to j = filled at j (value_word % 256) p.heap

  -- with what is done, and the word that is written
  abbrev fill_locals : (w s : JsValue) → List Binding
  fill_locals w s =
      binding (spelled (argument 0)) a ∷ binding (spelled (argument 1)) x ∷ binding (spelled (argument 2)) l ∷ binding (spelled (own 0)) s ∷ binding (spelled (own 1)) w ∷ []

  module _ (within : at + len ≤ length p.heap) (small : length p.heap ≤ 2 ^ 28) (w : JsValue) where
    abbrev at_place : ℕ → (s : JsValue) → List ℕ → Place
    at_place n s heap = record p { units = n; locals = fill_locals w s; heap = heap }

    -- ---- one element

    place_at : (k : ℕ) (s : JsValue) → to_uint32_of s ≡ k → at + k < 2 ^ 32 → add_of 32 at (to_uint32_of s) ≡ at + k
    place_at k s is few = omega (arith, is, few)

    place_past : (k offset : ℕ) (s : JsValue) → to_uint32_of s ≡ k → at + (k + offset) < 2 ^ 32 → add_of 32 (add_of 32 at (to_uint32_of s)) (offset % 2 ^ 32) ≡ at + (k + offset)
    place_past k offset s is few = omega (arith, is, few)

    byte_put : (k x : ℕ) → k + 1 ≤ len → x ≡ at + k → with_byte x value_word (filled_to k) ≡ filled_to (k + 1)
    byte_put k x few there =
        ap (λ i. with_byte i value_word (filled_to k)) there ∙ byte_stored (at + k) value_word (filled_to k) (omega (arith, few, within, small)) ∙ byte_filled at k value_word p.heap (omega (arith, few, within))

    byte_then_rest : (k : ℕ) (s : JsValue) (n : ℕ) (rest : List Stmt) (P : Run Completion → Type 0) → P wrong → to_uint32_of s ≡ k → k + 1 ≤ len
        → P (run calls c d rest (at_place n s (filled_to (k + 1)))) → P (run calls c d (fill_byte ∷ rest) (at_place n s (filled_to k)))
    byte_then_rest k s n rest P e is few f =
        byte_then calls c d (word_at (at_place n s (filled_to k))) (plus first done) second rest (at_place n s (filled_to k)) P e has.bytes ((refl, refl), ((refl, refl), tt)) (refl, refl)
        (subst (λ heap. P (run calls c d rest (at_place n s heap))) (sym (byte_put k (add_of 32 at (to_uint32_of s)) few (place_at k s is (omega (arith, few, within, small))))) f)

    module _ (four : to_uint32_of w ≡ value_word % 256 * 16843009) where
      word_put : (k x : ℕ) → k + 4 ≤ len → (at + k) % 4 ≡ 0 → x ≡ at + k → store I32 (index_at 2 x) (to_uint32_of w) (filled_to k) ≡ filled_to (k + 4)
      word_put k x few even there =
          let low : value_word % 256 < 256 = omega arith in
          ap (λ i. store I32 (index_at 2 i) (to_uint32_of w) (filled_to k)) there
          ∙ whole_stored (at + k) (to_uint32_of w) (filled_to k) (omega (arith, few, within, small)) even
          ∙ ap (λ y. store_bytes (at + k) 4 y (filled_to k)) four
          ∙ word_filled at k (value_word % 256) p.heap low (omega (arith, few, within))

      module _ (k : ℕ) (aligned : (at + k) % 4 ≡ 0) (s : JsValue) (n : ℕ) (is : to_uint32_of s ≡ k) where
        word_then_rest : (offset : ℕ) (rest : List Stmt) (P : Run Completion → Type 0) → P wrong → offset % 4 ≡ 0 → k + (offset + 4) ≤ len
            → P (run calls c d rest (at_place n s (filled_to (k + (offset + 4))))) → P (run calls c d (fill_word offset ∷ rest) (at_place n s (filled_to (k + offset))))
        word_then_rest offset rest P e even few f = by (offset == 0) refl
          where
            j : ℕ
            j = k + offset

            next : j + 4 ≡ k + (offset + 4)
            next = omega arith

            put : (x : ℕ) → x ≡ at + j → store I32 (index_at 2 x) (to_uint32_of w) (filled_to j) ≡ filled_to (k + (offset + 4))
            put x there = word_put j x (omega (arith, few)) (omega (arith, even, aligned)) there ∙ ap filled_to next

            by : (t : Bool) → (offset == 0) ≡ t → P (run calls c d (simple_statement (write_whole (past_by t first done offset) (read (own 1))) ∷ rest) (at_place n s (filled_to j)))
            by true z =
                let none : offset ≡ 0 = grind (arith, nat_tests, z) in
                whole_then calls c d (word_at (at_place n s (filled_to j))) (plus first done) (read (own 1)) rest (at_place n s (filled_to j)) P e has.words ((refl, refl), ((refl, refl), tt)) (refl, refl)
                (subst (λ heap. P (run calls c d rest (at_place n s heap))) (sym (put (add_of 32 at (to_uint32_of s)) (place_at j s (omega (arith, is, none)) (omega (arith, few, within, small))))) f)
            by false z =
                whole_then calls c d (word_at (at_place n s (filled_to j))) (past_by false first done offset) (read (own 1)) rest (at_place n s (filled_to j)) P e has.words
                ((refl, refl), ((refl, refl), (tt, tt))) (refl, refl)
                (subst (λ heap. P (run calls c d rest (at_place n s heap)))
                (sym (put (add_of 32 (add_of 32 at (to_uint32_of s)) (offset % 2 ^ 32)) (place_past k offset s is (omega (arith, few, within, small))))) f)

        words_then_rest : (os : List ℕ) (o : ℕ) (rest : List Stmt) (P : Run Completion → Type 0) → P wrong → AreUpward o os → o % 4 ≡ 0 → k + (o + 4 * length os) ≤ len
            → P (run calls c d rest (at_place n s (filled_to (k + (o + 4 * length os))))) → P (run calls c d (map fill_word os ++ rest) (at_place n s (filled_to (k + o))))
        words_then_rest [] o rest P e are even few f =
            let same : k + (o + 4 * 0) ≡ k + o = omega arith in
            subst (λ j. P (run calls c d rest (at_place n s (filled_to j)))) same f
        words_then_rest (x ∷ xs) o rest P e are even few f =
            let next : k + (o + 4 * suc (length xs)) ≡ k + (o + 4 + 4 * length xs) = omega arith in
            subst (λ x. P (run calls c d (fill_word x ∷ (map fill_word xs ++ rest)) (at_place n s (filled_to (k + o))))) (sym are.0)
            (word_then_rest o (map fill_word xs ++ rest) P e even (omega (arith, few))
            (words_then_rest xs (o + 4) rest P e are.1 (omega (arith, even)) (omega (arith, few)) (subst (λ j. P (run calls c d rest (at_place n s (filled_to j)))) next f)))

    -- ---- loops, where so many bytes are done after j turns

    module _ (word : ℕ → ℕ) where
      abbrev heap_at : ℕ → List ℕ
      heap_at j = filled_to (word j)

      abbrev at_turn : (j : ℕ) (s : JsValue) (n : ℕ) → Place
      at_turn j s n = state p (fill_locals w) word heap_at j s n

      abbrev Stands : (test : Term) → Bool → (j : ℕ) (s : JsValue) (n : ℕ) → Type 0
      Stands test b j s n = Finds (Boolean b) (at_turn j s n) (eval false calls c (int_of test) (at_turn j s n))

      abbrev Loops : (total : ℕ) (test : Term) (ss : List Stmt) → Type 0
      Loops total test ss = IsLoop p (fill_locals w) word heap_at total (eval false calls c (int_of test)) (exec false calls c d [] (block_of ss))

      -- the tests

      inside_stands : (b : Bool) (j : ℕ) (s : JsValue) (n : ℕ) → rel_of 32 Ne (bit_and (add_of 32 at (to_uint32_of s)) 3) 0 ≡ b → Stands (is_inside (plus first done)) b j s n
      inside_stands b j s n e =
          subst (λ t. Stands (is_inside (plus first done)) t j s n) e
          (compared_finds calls c true unequal (both conjunction (plus first done) (literal 3)) (literal 0) (bit_and (add_of 32 at (to_uint32_of s)) 3) 0 (at_turn j s n) tt tt
          (expr_read calls c (word_at (at_turn j s n)) (at_turn j s n) (both conjunction (plus first done) (literal 3)) (((refl, refl), ((refl, refl), tt)), tt)) (refl, refl))

      more_stands : (size : ℕ) (b : Bool) (j : ℕ) (s : JsValue) (n : ℕ) → rel_of 32 LeS (to_uint32_of s) (sub_of 32 len (size % 2 ^ 32)) ≡ b
          → Stands (compare true at_most done (minus third (literal size))) b j s n
      more_stands size b j s n e =
          subst (λ t. Stands (compare true at_most done (minus third (literal size))) t j s n) e
          (compared_finds calls c true at_most done (minus third (literal size)) (to_uint32_of s) (sub_of 32 len (size % 2 ^ 32)) (at_turn j s n) tt tt (refl, refl)
          (expr_read calls c (word_at (at_turn j s n)) (at_turn j s n) (minus third (literal size)) ((refl, refl), (tt, tt))))

      less_stands : (b : Bool) (j : ℕ) (s : JsValue) (n : ℕ) → rel_of 32 LtS (to_uint32_of s) len ≡ b → Stands (compare true less done third) b j s n
      less_stands b j s n e =
          subst (λ t. Stands (compare true less done third) t j s n) e (compared_finds calls c true less done third (to_uint32_of s) len (at_turn j s n) tt tt (refl, refl) (refl, refl))

      -- the end of a turn
      risen : (size j : ℕ) (s : JsValue) (n : ℕ) → to_uint32_of s ≡ word j → word (suc j) ≡ word j + size → word (suc j) ≤ len
          → StepIs p (fill_locals w) word heap_at (suc j) n (run calls c d (sets (own 0) (plus done (literal size)) ∷ []) (at_place n s (filled_to (word j + size))))
      risen size j s n is next few =
          put_then calls c d (word_at (at_place n s (filled_to (word j + size)))) (own 0) (plus done (literal size)) [] (at_place n s (filled_to (word j + size)))
          (StepIs p (fill_locals w) word heap_at (suc j) n) tt ((refl, refl), (tt, tt))
          (λ v e. let sum : to_uint32_of v ≡ add_of 32 (to_uint32_of s) (size % 2 ^ 32) = e in record {
            value = v;
            has_word = omega (arith, sum, is, next, few, within, small);
            is = ap (λ k. at_place n v (filled_to k)) (sym next);
          })

      byte_step : (j : ℕ) (s : JsValue) (n : ℕ) → to_uint32_of s ≡ word j → word (suc j) ≡ word j + 1 → word (suc j) ≤ len
          → StepIs p (fill_locals w) word heap_at (suc j) n (exec false calls c d [] (block_of (rise 1 (fill_byte ∷ []))) (at_turn j s n))
      byte_step j s n is next few =
          byte_then_rest (word j) s n (sets (own 0) (plus done (literal 1)) ∷ []) (StepIs p (fill_locals w) word heap_at (suc j) n) tt is (omega (arith, next, few)) (risen 1 j s n is next few)

      -- words at these offsets
      words_step : to_uint32_of w ≡ value_word % 256 * 16843009 → (os : List ℕ) → AreUpward 0 os → (j : ℕ) (s : JsValue) (n : ℕ) → (at + word j) % 4 ≡ 0 → to_uint32_of s ≡ word j
          → word (suc j) ≡ word j + 4 * length os → word (suc j) ≤ len
          → StepIs p (fill_locals w) word heap_at (suc j) n (exec false calls c d [] (block_of (rise (4 * length os) (map fill_word os))) (at_turn j s n))
      words_step four os are j s n aligned is next few =
          let none : word j + 0 ≡ word j = omega arith in
          let all : word j + 4 * length os ≡ word j + (0 + 4 * length os) = omega arith in
          subst (λ k. StepIs p (fill_locals w) word heap_at (suc j) n (run calls c d (rise (4 * length os) (map fill_word os)) (at_place n s (filled_to k)))) none
          (words_then_rest four (word j) aligned s n is os 0 (sets (own 0) (plus done (literal (4 * length os))) ∷ []) (StepIs p (fill_locals w) word heap_at (suc j) n) tt are refl (omega (arith, next, few))
          (subst (λ k. StepIs p (fill_locals w) word heap_at (suc j) n (run calls c d (sets (own 0) (plus done (literal (4 * length os))) ∷ []) (at_place n s (filled_to k)))) all (risen (4 * length os) j s n is next few)))

      -- from one place to another
      looping : (total : ℕ) (test : Term) (ss rest : List Stmt) → Loops total test ss → (K : Run Completion → Run Completion) → K wrong ≡ wrong → ((q : Place) → K (spent q) ≡ spent q)
          → (cost start stop : ℕ) → word 0 ≡ start → word total ≡ stop
          → ((s : JsValue) (n : ℕ) → n ≤ d → to_uint32_of s ≡ stop → Works p (filled_to len) cost n (K (run calls c d rest (at_place n s (filled_to stop)))))
          → (s : JsValue) (n : ℕ) → n ≤ d → to_uint32_of s ≡ start → Works p (filled_to len) (1 + total + cost) n (K (run calls c d (repeat test ss ∷ rest) (at_place n s (filled_to start))))
      looping total test ss rest loops K is_wrong is_spent cost start stop starts stops f s n le is =
          subst (λ k. Works p (filled_to len) (1 + total + cost) n (K (run calls c d (repeat test ss ∷ rest) (at_place n s (filled_to k))))) starts
          (repeated p (fill_locals w) word heap_at (filled_to len) calls c d total test ss rest loops K is_wrong is_spent cost s n le (is ∙ sym starts)
          (λ s n le has. subst (λ k. Works p (filled_to len) cost n (K (run calls c d rest (at_place n s (filled_to k))))) (sym stops) (f s n le (has ∙ stops))))

    -- ---- the four loops

    few_bytes : len < 2 ^ 31
    few_bytes = omega (arith, within, small)

    -- byte by byte, after so many
    bytes_work : (start total : ℕ) → start + total ≡ len → (s : JsValue) (n : ℕ) → n ≤ d → to_uint32_of s ≡ start
        → Works p (filled_to len) (1 + total) n (run calls c d (each_byte fill_byte ∷ []) (at_place n s (filled_to start)))
    bytes_work start total all s n le is =
        let k = few_bytes in
        at_cost p (filled_to len) (1 + total + 0) (1 + total) n (run calls c d (each_byte fill_byte ∷ []) (at_place n s (filled_to start))) (omega arith)
        (looping (λ j. start + j) total (compare true less done third) (rise 1 (fill_byte ∷ [])) []
        (record {
          ends = λ s n is. less_stands (λ j. start + j) false total s n (not_less (to_uint32_of s) len (is ∙ all) k);
          goes_on = λ j s n less is. less_stands (λ j. start + j) true j s n (is_less (to_uint32_of s) len (omega (arith, is, all, less)) k);
          step = λ j s n less is. byte_step (λ j. start + j) j s n is (omega arith) (omega (arith, all, less));
        })
        (λ r. r) refl (λ q. refl) 0 start len (omega arith) all (λ s n le has. (omega arith, refl, refl, refl, refl)) s n le is)

    module _ (times : to_uint32_of w ≡ value_word % 256 * 16843009) (four : 4 ≤ len) where
      abbrev before : ℕ
      before = bytes_before at

      abbrev left : ℕ
      left = len - bytes_before at

      -- how many bytes are done by eight words, and by words
      abbrev by_eight : ℕ
      by_eight = before + 32 * (left / 32)

      abbrev by_words : ℕ
      by_words = by_eight + 4 * (left % 32 / 4)

      -- and then the bytes that are left
      abbrev bytes_after : Run Completion → Run Completion
      bytes_after r = after r (λ e. unless_left e (run calls c d (each_byte fill_byte ∷ [])))

      abbrev words_rest : List Stmt
      words_rest = each 4 (fill_word 0 ∷ []) ∷ []

      abbrev eight_rest : List Stmt
      eight_rest = each 32 (map fill_word eight_up) ∷ words_rest

      words_work : (s : JsValue) (n : ℕ) → n ≤ d → to_uint32_of s ≡ by_eight
          → Works p (filled_to len) (1 + left % 32 / 4 + (1 + left % 4)) n (bytes_after (run calls c d words_rest (at_place n s (filled_to by_eight))))
      words_work s n le is =
          let k = few_bytes in
          looping (λ j. by_eight + 4 * j) (left % 32 / 4) (compare true at_most done (minus third (literal 4))) (rise 4 (fill_word 0 ∷ [])) []
          (record {
            ends = λ s n is. more_stands (λ j. by_eight + 4 * j) 4 false (left % 32 / 4) s n (fewer_left (to_uint32_of s) len 4 (omega (arith, is, four)) (omega (arith, is, four)) k (omega arith));
            goes_on = λ j s n less is. more_stands (λ j. by_eight + 4 * j) 4 true j s n (more_left (to_uint32_of s) len 4 (omega (arith, is, four, less)) k);
            step = λ j s n less is. words_step (λ j. by_eight + 4 * j) times (0 ∷ []) (refl, tt) j s n (omega arith) is (omega arith) (omega (arith, less, four));
          })
          bytes_after refl (λ q. refl) (1 + left % 4) by_eight by_words (omega arith) refl (λ s n le has. bytes_work by_words (left % 4) (omega (arith, four)) s n le has) s n le is

      eight_work : (s : JsValue) (n : ℕ) → n ≤ d → to_uint32_of s ≡ before
          → Works p (filled_to len) (1 + left / 32 + (1 + left % 32 / 4 + (1 + left % 4))) n (bytes_after (run calls c d eight_rest (at_place n s (filled_to before))))
      eight_work s n le is =
          let k = few_bytes in
          looping (λ j. before + 32 * j) (left / 32) (compare true at_most done (minus third (literal 32))) (rise 32 (map fill_word eight_up)) words_rest
          (record {
            ends = λ s n is. more_stands (λ j. before + 32 * j) 32 false (left / 32) s n (fewer_left (to_uint32_of s) len 32 (omega (arith, is, four)) (omega (arith, is, four)) k (omega arith));
            goes_on = λ j s n less is. more_stands (λ j. before + 32 * j) 32 true j s n (more_left (to_uint32_of s) len 32 (omega (arith, is, four, less)) k);
            step = λ j s n less is. words_step (λ j. before + 32 * j) times eight_up (refl, (refl, (refl, (refl, (refl, (refl, (refl, (refl, tt)))))))) j s n (omega arith) is (omega arith) (omega (arith, less, four));
          })
          bytes_after refl (λ q. refl) (1 + left % 32 / 4 + (1 + left % 4)) before by_eight (omega arith) refl words_work s n le is

      head_work : (n : ℕ) → n ≤ d
          → Works p (filled_to len) (units_upwards true at len) n (bytes_after (run calls c d (up_to_word fill_byte ∷ eight_rest) (at_place n nothing p.heap)))
      head_work n le =
          subst (λ heap. Works p (filled_to len) (units_upwards true at len) n (bytes_after (run calls c d (up_to_word fill_byte ∷ eight_rest) (at_place n nothing heap)))) (filled_none at (value_word % 256) p.heap)
          (looping (λ j. j) before (is_inside (plus first done)) (rise 1 (fill_byte ∷ [])) eight_rest
          (record {
            ends = λ s n is. inside_stands (λ j. j) false before s n (not_inside (add_of 32 at (to_uint32_of s)) (omega (arith, is, four, within, small)));
            goes_on = λ j s n less is. inside_stands (λ j. j) true j s n (tests.is_inside (add_of 32 at (to_uint32_of s)) (λ none. omega (arith, is, none, less, four, within, small)));
            step = λ j s n less is. byte_step (λ j. j) j s n is (omega arith) (omega (arith, less, four));
          })
          bytes_after refl (λ q. refl) (1 + left / 32 + (1 + left % 32 / 4 + (1 + left % 4))) 0 before refl refl eight_work nothing n le refl)

  -- ---- the body

  abbrev both_loops : List Stmt
  both_loops = when (compare true greater third (literal 3)) fill_words ∷ each_byte fill_byte ∷ []

  abbrev start : ℕ → Place
  start n = placed p n (fill_locals nothing nothing)

  module _ (h : IsHeap bytes p.heap) where
    bytes_small : bytes ≤ 2 ^ 28
    bytes_small = let holds = h.holds in let small = h.small in omega (arith, holds, small)

    loops_work : at + len ≤ bytes → (n : ℕ) → n ≤ d → (t : Bool) → nat_le 4 len ≡ t → Works p (filled_to len) (units_upwards t at len) n (run calls c d both_loops (start n))
    loops_work within n le t is =
        let holds = h.holds in
        let inside : at + len ≤ length p.heap = omega (arith, within, holds) in
        only_then calls c d (word_at (start n)) true greater third (literal 3) (block_of fill_words) (each_byte fill_byte ∷ []) (start n) (Works p (filled_to len) (units_upwards t at len) n) tt (refl, refl) tt
        (λ e. by_words_work inside t is (sym (words_fit len (few_bytes inside h.small nothing)) ∙ e)) (λ e. by_bytes_work inside t is (sym (words_fit len (few_bytes inside h.small nothing)) ∙ e))
      where
        by_words_work : at + len ≤ length p.heap → (t : Bool) → nat_le 4 len ≡ t → nat_le 4 len ≡ true
            → Works p (filled_to len) (units_upwards t at len) n (after (run calls c d fill_words (start n)) (λ e. unless_left e (run calls c d (each_byte fill_byte ∷ []))))
        by_words_work inside true is e =
            put_then calls c d (word_at (start n)) (own 1) (four_times second) (up_to_word fill_byte ∷ each 32 (map fill_word eight_up) ∷ each 4 (fill_word 0 ∷ []) ∷ []) (start n)
            (λ r. Works p (filled_to len) (units_upwards true at len) n (after r (λ e. unless_left e (run calls c d (each_byte fill_byte ∷ []))))) tt
            (has.products, ((refl, refl), tt), tt) (λ v sum. head_work inside h.small v (sum ∙ four_times_is value_word) (fits 4 len e) n le)
        by_words_work inside false is e = absurd (cc (is, e))

        by_bytes_work : at + len ≤ length p.heap → (t : Bool) → nat_le 4 len ≡ t → nat_le 4 len ≡ false → Works p (filled_to len) (units_upwards t at len) n (run calls c d (each_byte fill_byte ∷ []) (start n))
        by_bytes_work inside true is e = absurd (cc (is, e))
        by_bytes_work inside false is e =
            subst (λ heap. Works p (filled_to len) (1 + len) n (run calls c d (each_byte fill_byte ∷ []) (record p { units = n; locals = fill_locals nothing nothing; heap = heap }))) (filled_none at (value_word % 256) p.heap)
            (bytes_work inside h.small nothing 0 len (omega arith) nothing n le refl)

    inside_works : at + len ≤ bytes → (n : ℕ) → n ≤ d → Works p (filled_to len) (units_upwards (nat_le 4 len) at len) n (run calls c d (length_test bytes ∷ start_test bytes first ∷ both_loops) (start n))
    inside_works within n le =
        let tests = run_within bytes at len bytes_small within in
        guard_then calls c d (word_at (start n)) third bytes (start_test bytes first ∷ both_loops) (start n) (Works p (filled_to len) (units_upwards (nat_le 4 len) at len) n) tt has.traps (refl, refl)
        (λ e. absurd (cc (e, tests.0)))
        (λ e. test_then calls c d (word_at (start n)) false greater first (minus (literal bytes) third) both_loops (start n) (Works p (filled_to len) (units_upwards (nat_le 4 len) at len) n) tt has.traps (refl, refl) (tt, ((refl, refl), tt))
        (λ e. absurd (cc (e, tests.1)))
        (λ e. loops_work within n le (nat_le 4 len) refl))

    outside_traps : bytes < at + len → (n : ℕ) → Traps p (run calls c d (length_test bytes ∷ start_test bytes first ∷ both_loops) (start n))
    outside_traps past n =
        guard_then calls c d (word_at (start n)) third bytes (start_test bytes first ∷ both_loops) (start n) (Traps p) tt has.traps (refl, refl) (λ e. (refl, refl, refl))
        (λ e. test_then calls c d (word_at (start n)) false greater first (minus (literal bytes) third) both_loops (start n) (Traps p) tt has.traps (refl, refl) (tt, ((refl, refl), tt)) (λ f. (refl, refl, refl))
        (λ f. absurd (let le = run_fits bytes at len bytes_small e f in omega (arith, le, past))))

    pub fill_comes : (n : ℕ) → n ≤ d → (t : Bool) → nat_le (at + len) bytes ≡ t
        → Comes t (filled_to len) (units_upwards (nat_le 4 len) at len) p n (run calls c d (length_test bytes ∷ start_test bytes first ∷ both_loops) (start n))
    fill_comes n le true is = inside_works (fits (at + len) bytes is) n le
    fill_comes n le false is = outside_traps (is_past (at + len) bytes is) n

-- ---- the call

heap_filled : (bytes at len byte : ℕ) (heap : List ℕ) → byte < 256 → IsHeap bytes heap → IsHeap bytes (filled at len byte heap)
heap_filled bytes at len byte heap low h =
    let e = length-filled at len byte heap in
    record { are_bytes = IsBytes-filled at len byte heap low h.are_bytes; holds = let k = h.holds in omega (arith, e, k); small = let k = h.small in omega (arith, e, k) }

-- the argument as the body finds it
abbrev marked : JsValue → JsValue
marked v = signed_value (to_uint32_of v)

module _ (m : Module) (has : HasViews m) (bytes : ℕ) (v x l : JsValue) (bound : ℕ) (p : Place) (h : IsHeap bytes p.heap) (le : p.units ≤ bound) where
  abbrev Fills : (at byte len : ℕ) → Type 0
  Fills at byte len = Helps bytes (filled_run bytes (at ∷ byte ∷ len ∷ []) p.heap) (fill_units bytes (at ∷ byte ∷ len ∷ [])) p (call_at false m bound (fill_function bytes) (v ∷ x ∷ l ∷ []) p)

  marked_fills : Fills (to_uint32_of (marked v)) (to_uint32_of (marked x)) (to_uint32_of (marked l))
  marked_fills =
      let at = to_uint32_of (marked v) in
      let byte = to_uint32_of (marked x) in
      let len = to_uint32_of (marked l) in
      let low : byte % 256 < 256 = omega arith in
      called_job m (fill_function bytes) bytes (v ∷ x ∷ l ∷ []) (nat_le (at + len) bytes) (filled at len (byte % 256) p.heap) (units_upwards (nat_le 4 len) at len)
      (fill_locals m has bytes 0 p (marked v) (marked x) (marked l) nothing nothing) refl bound p (λ e. heap_filled bytes at len (byte % 256) p.heap low h) le
      (λ d n le. fill_comes m has bytes d p (marked v) (marked x) (marked l) h n le (nat_le (at + len) bytes) refl)

  fills : Fills (to_uint32_of v) (to_uint32_of x) (to_uint32_of l)
  fills =
      subst (λ at. Fills at (to_uint32_of x) (to_uint32_of l)) (marked_word v)
      (subst (λ byte. Fills (to_uint32_of (marked v)) byte (to_uint32_of l)) (marked_word x)
      (subst (λ len. Fills (to_uint32_of (marked v)) (to_uint32_of (marked x)) len) (marked_word l) marked_fills))

pub fill_helps : FillHelps
fill_helps m has bytes bound [] p h le = called m (fill_function bytes) bytes [] 0 None bound p h le (λ d n locals is. absurd (cc is))
fill_helps m has bytes bound (v ∷ []) p h le = called m (fill_function bytes) bytes (v ∷ []) 0 None bound p h le (λ d n locals is. absurd (cc is))
fill_helps m has bytes bound (v ∷ x ∷ []) p h le = called m (fill_function bytes) bytes (v ∷ x ∷ []) 0 None bound p h le (λ d n locals is. absurd (cc is))
fill_helps m has bytes bound (v ∷ x ∷ l ∷ []) p h le = fills m has bytes v x l bound p h le
fill_helps m has bytes bound (v ∷ x ∷ l ∷ y ∷ more) p h le = called m (fill_function bytes) bytes (v ∷ x ∷ l ∷ y ∷ more) 0 None bound p h le (λ d n locals is. absurd (cc is))
