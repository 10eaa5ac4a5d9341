-- The loops that copy downwards, to places after those that are read, from the last ones on.
use Rattle.std.proofs.Common.{◌≡◌, ℕ, suc, ◌+◌, ◌-◌, ◌*◌, ◌/◌, ◌%◌, ◌^◌, ◌<◌, ◌≤◌, Bool, true, false, List, [], ◌∷◌, ◌++◌, map, length, take, drop, refl, sym, ap, ◌∙◌, subst, arith}
use Rattle.std.specs.Prelude.{◌==◌, bit_and}
use Rattle.std.proofs.lemmas.Bool.Decides.{nat_tests}
use Rattle.sem_words.specs.declared.js_value.JsValue.{JsValue}
use Rattle.sem_words.specs.declared.js_value.JsValue.TheVariants.{Bool as Boolean}
use Rattle.sem_words.specs.JsValues.{to_uint32_of}
use Rattle.sem_words.specs.Words.{add_of, sub_of, rel_of}
use Rattle.sem_words.specs.declared.word.Rel.TheVariants.{Ne, GtS}
use Rattle.heap_lang.specs.Heap.{with_run, store_bytes, copied}
use Rattle.heap_lang.proofs.RunLemmas.{copied_none, length-copied}
use Rattle.asm_lang.specs.Modules.{Stmt, Module}
use Rattle.asm_lang_valid.specs.Typing.{Scope}
use Rattle.asm_lang_valid.specs.Typed.{scope_of}
use Rattle.asm_lang_exec.specs.Runs.{Binding, binding, Place, Run, wrong, spent, after}
use Rattle.asm_lang_exec.specs.Values.{Calls}
use Rattle.asm_lang_exec.specs.Meaning.{eval, exec, Completion, unless_left, call_at}
use Rattle.wasm2js_translation.specs.Names.{spelled}
use Rattle.wasm2js_translation.specs.Words.{Term, equal, unequal, less, greater, conjunction, disjunction, exclusion, both, byte, whole, compare, write_whole, int_of, simple_statement}
use Rattle.wasm2js_translation.specs.Pairs.{literal, plus, minus}
use Rattle.wasm2js_translation.specs.Helpers.{argument, own, first, second, third, block_of, repeat, fall, is_inside, eight_down, down_to_word, while_left, copy_word, copy_byte, copy_down, copy_function}
use Rattle.wasm2js_laws_places.specs.Places.{word_at, IsHeap}
use Rattle.wasm2js_laws_actions.specs.Reads.{Finds}
use Rattle.wasm2js_laws_helpers.proofs.Bodies.{run}
use Rattle.wasm2js_laws_preservation.proofs.LoadsNumbers.{number_of}
use Rattle.wasm2js_laws_preservation.proofs.StoresFound.{expr_read, compared_finds}
use Rattle.wasm2js_laws_preservation.proofs.StoresSteps.{byte_then, whole_then, put_then}
use Rattle.wasm2js_laws_preservation.specs.RunsAnswers.{are_alike, units_downwards}
use Rattle.wasm2js_laws_preservation.specs.RunsLaws.{HasViews}
use Rattle.wasm2js_laws_preservation.proofs.RunsLoops.{Works, at_cost, state, StepIs, IsLoop, repeated}
use Rattle.wasm2js_laws_preservation.proofs.RunsRuns.{number_stored, copied_down_by}
use Rattle.wasm2js_laws_preservation.proofs.RunsCalled.{only_then}
use Rattle.wasm2js_laws_preservation.proofs.RunsTests as tests
use Rattle.wasm2js_laws_preservation.proofs.RunsTests.{is_more, not_more, not_inside, words_test, alike_places}
use Rattle.wasm2js_laws_preservation.proofs.RunsUpwards.{nothing, past_by, byte_moved, word_moved, byte_moved_is, word_moved_is, heap_copied}

-- each ends where the one before begins, and the last one begins at 0
abbrev pub AreDownward : (end : ℕ) → List ℕ → Type 0
AreDownward end [] = end ≡ 0
AreDownward end (x ∷ xs) = (end ≡ x + 4) × AreDownward x xs

module _ (m : Module) (has : HasViews m) (bytes : ℕ) (d : ℕ) (p : Place) (a b l : JsValue) where
  abbrev calls : Calls
  calls = call_at false m d

  abbrev c : Scope
  c = scope_of m (copy_function bytes)

  abbrev to : ℕ
  to = to_uint32_of a

  abbrev from : ℕ
  from = to_uint32_of b

  abbrev len : ℕ
  len = to_uint32_of l

  -- with so many bytes left, and so many done
  abbrev copied_from : (left done : ℕ) → List ℕ
  copied_from left done = copied (to + left) (from + left) done p.heap

  abbrev target : List ℕ
  target = copied to from len p.heap

  -- with what is left
  abbrev down_locals : (s : JsValue) → List Binding
  down_locals s = binding (spelled (argument 0)) a ∷ binding (spelled (argument 1)) b ∷ binding (spelled (argument 2)) s ∷ binding (spelled (own 0)) nothing ∷ []

  module _ (h : IsHeap 0 p.heap) (down : from ≤ to) (within : to + len ≤ length p.heap) where
    abbrev at_place : ℕ → (s : JsValue) → List ℕ → Place
    at_place n s heap = record p { units = n; locals = down_locals s; heap = heap }

    -- the heap where so many bytes are left
    abbrev so_far : ℕ → List ℕ
    so_far left = copied_from left (len - left)

    long : (k : ℕ) → length (so_far k) ≡ length p.heap
    long k = length-copied (to + k) (from + k) (len - k) p.heap

    few_bytes : len < 2 ^ 31
    few_bytes = let small = h.small in omega (arith, within, small)

    moved_on : (left size done : ℕ) → left + (size + done) ≤ len
        → store_bytes (to + left) size (number_of size (from + left) (copied_from (left + size) done)) (copied_from (left + size) done) ≡ copied_from left (size + done)
    moved_on left size done few =
        let e = length-copied (to + (left + size)) (from + (left + size)) done p.heap in
        let there : to + (left + size) ≡ to + left + size = omega arith in
        let here : from + (left + size) ≡ from + left + size = omega arith in
        let same : copied_from (left + size) done ≡ copied (to + left + size) (from + left + size) done p.heap =
        ap (λ i. copied i (from + (left + size)) done p.heap) there ∙ ap (λ i. copied (to + left + size) i done p.heap) here in
        number_stored (to + left) (from + left) size (copied_from (left + size) done) (heap_copied (to + (left + size)) (from + (left + size)) done p.heap h).are_bytes (omega (arith, few, within, down, e))
        ∙ ap (λ h. with_run (to + left) (take size (drop (from + left) h)) h) same
        ∙ sym (copied_down_by (to + left) (from + left) size done p.heap (omega (arith, down)) (omega (arith, few, within)))

    -- so many bytes more
    next_bytes : (k size : ℕ) → k + size ≤ len → store_bytes (to + k) size (number_of size (from + k) (so_far (k + size))) (so_far (k + size)) ≡ so_far k
    next_bytes k size few =
        let sum : size + (len - (k + size)) ≡ len - k = omega (arith, few) in
        moved_on k size (len - (k + size)) (omega (arith, few)) ∙ ap (copied_from k) sum

    none_done : so_far len ≡ p.heap
    none_done = let none : len - len ≡ 0 = omega arith in ap (copied_from len) none ∙ copied_none (to + len) (from + len) p.heap

    all_done : so_far 0 ≡ target
    all_done =
        let there : to + 0 ≡ to = omega arith in
        let here : from + 0 ≡ from = omega arith in
        let all : len - 0 ≡ len = omega arith in
        ap (λ i. copied i (from + 0) (len - 0) p.heap) there ∙ ap (λ i. copied to i (len - 0) p.heap) here ∙ ap (λ n. copied to from n p.heap) all

    -- ---- one element

    still : (k : ℕ) → IsHeap 0 (so_far k)
    still k = heap_copied (to + k) (from + k) (len - k) p.heap h

    byte_put : (k x y : ℕ) → k + 1 ≤ len → x ≡ to + k → y ≡ from + k → byte_moved x y (so_far (k + 1)) ≡ so_far k
    byte_put k x y few there here =
        let e = long (k + 1) in
        ap (λ i. byte_moved i y (so_far (k + 1))) there
        ∙ ap (λ i. byte_moved (to + k) i (so_far (k + 1))) here
        ∙ byte_moved_is (to + k) (from + k) (so_far (k + 1)) (still (k + 1)) (omega (arith, few, within, e)) (omega (arith, few, within, down, e))
        ∙ next_bytes k 1 few

    word_put : (k x y : ℕ) → k + 4 ≤ len → (to + k) % 4 ≡ 0 → (from + k) % 4 ≡ 0 → x ≡ to + k → y ≡ from + k → word_moved x y (so_far (k + 4)) ≡ so_far k
    word_put k x y few even_to even_from there here =
        let e = long (k + 4) in
        ap (λ i. word_moved i y (so_far (k + 4))) there
        ∙ ap (λ i. word_moved (to + k) i (so_far (k + 4))) here
        ∙ word_moved_is (to + k) (from + k) (so_far (k + 4)) (still (k + 4)) even_to even_from (omega (arith, few, within, e)) (omega (arith, few, within, down, e))
        ∙ next_bytes k 4 few

    place_at : (at k : ℕ) (s : JsValue) → to_uint32_of s ≡ k → at + k < 2 ^ 32 → add_of 32 at (to_uint32_of s) ≡ at + k
    place_at at k s is few = omega (arith, is, few)

    place_past : (at k offset : ℕ) (s : JsValue) → to_uint32_of s ≡ k → at + (k + offset) < 2 ^ 32 → add_of 32 (add_of 32 at (to_uint32_of s)) (offset % 2 ^ 32) ≡ at + (k + offset)
    place_past at k offset s is few = omega (arith, is, few)

    byte_then_rest : (k : ℕ) (s : JsValue) (n : ℕ) (rest : List Stmt) (P : Run Completion → Type 0) → P wrong → to_uint32_of s ≡ k → k + 1 ≤ len
        → P (run calls c d rest (at_place n s (so_far k))) → P (run calls c d (copy_byte third ∷ rest) (at_place n s (so_far (k + 1))))
    byte_then_rest k s n rest P w is few f =
        let small = h.small in
        byte_then calls c d (word_at (at_place n s (so_far (k + 1)))) (plus first third) (byte false (plus second third)) rest (at_place n s (so_far (k + 1))) P w has.bytes
        ((refl, refl), ((refl, refl), tt)) (has.bytes, ((refl, refl), ((refl, refl), tt)))
        (subst (λ heap. P (run calls c d rest (at_place n s heap)))
        (sym (byte_put k (add_of 32 to (to_uint32_of s)) (add_of 32 from (to_uint32_of s)) few (place_at to k s is (omega (arith, few, within, small))) (place_at from k s is (omega (arith, few, within, small, down)))))
        f)

    module _ (k : ℕ) (even_to : (to + k) % 4 ≡ 0) (even_from : (from + k) % 4 ≡ 0) (s : JsValue) (n : ℕ) (is : to_uint32_of s ≡ k) where
      word_then_rest : (offset : ℕ) (rest : List Stmt) (P : Run Completion → Type 0) → P wrong → offset % 4 ≡ 0 → k + (offset + 4) ≤ len
          → P (run calls c d rest (at_place n s (so_far (k + offset)))) → P (run calls c d (copy_word third offset ∷ rest) (at_place n s (so_far (k + (offset + 4)))))
      word_then_rest offset rest P w even few f =
          let last : j + 4 ≡ k + (offset + 4) = omega arith in
          subst (λ i. P (run calls c d (copy_word third offset ∷ rest) (at_place n s (so_far i)))) last (by (offset == 0) refl)
        where
          j : ℕ
          j = k + offset

          small : length p.heap ≤ 2 ^ 28
          small = h.small

          put : (x y : ℕ) → x ≡ to + j → y ≡ from + j → word_moved x y (so_far (j + 4)) ≡ so_far j
          put x y there here = word_put j x y (omega (arith, few)) (omega (arith, even, even_to)) (omega (arith, even, even_from)) there here

          by : (t : Bool) → (offset == 0) ≡ t
              → P (run calls c d (simple_statement (write_whole (past_by t first third offset) (whole (past_by t second third offset))) ∷ rest) (at_place n s (so_far (j + 4))))
          by true e =
              let none : offset ≡ 0 = grind (arith, nat_tests, e) in
              whole_then calls c d (word_at (at_place n s (so_far (j + 4)))) (plus first third) (whole (plus second third)) rest (at_place n s (so_far (j + 4))) P w has.words
              ((refl, refl), ((refl, refl), tt)) (has.words, ((refl, refl), ((refl, refl), tt)))
              (subst (λ heap. P (run calls c d rest (at_place n s heap)))
              (sym (put (add_of 32 to (to_uint32_of s)) (add_of 32 from (to_uint32_of s)) (place_at to j s (omega (arith, is, none)) (omega (arith, few, within, small))) (place_at from j s (omega (arith, is, none)) (omega (arith, few, within, small, down)))))
              f)
          by false e =
              whole_then calls c d (word_at (at_place n s (so_far (j + 4)))) (past_by false first third offset) (whole (past_by false second third offset)) rest (at_place n s (so_far (j + 4))) P w has.words
              ((refl, refl), ((refl, refl), (tt, tt))) (has.words, ((refl, refl), ((refl, refl), (tt, tt))))
              (subst (λ heap. P (run calls c d rest (at_place n s heap)))
              (sym (put (add_of 32 (add_of 32 to (to_uint32_of s)) (offset % 2 ^ 32)) (add_of 32 (add_of 32 from (to_uint32_of s)) (offset % 2 ^ 32))
              (place_past to k offset s is (omega (arith, few, within, small))) (place_past from k offset s is (omega (arith, few, within, small, down)))))
              f)

      words_then_rest : (os : List ℕ) (end : ℕ) (rest : List Stmt) (P : Run Completion → Type 0) → P wrong → AreDownward end os → end % 4 ≡ 0 → k + end ≤ len
          → P (run calls c d rest (at_place n s (so_far k))) → P (run calls c d (map (copy_word third) os ++ rest) (at_place n s (so_far (k + end))))
      words_then_rest [] end rest P w are even few f =
          let same : k + end ≡ k = omega (arith, are) in
          subst (λ j. P (run calls c d rest (at_place n s (so_far j)))) (sym same) f
      words_then_rest (x ∷ xs) end rest P w are even few f =
          let begins = are.0 in
          subst (λ e. P (run calls c d (copy_word third x ∷ (map (copy_word third) xs ++ rest)) (at_place n s (so_far (k + e))))) (sym begins)
          (word_then_rest x (map (copy_word third) xs ++ rest) P w (omega (arith, even, begins)) (omega (arith, few, begins))
          (words_then_rest xs x rest P w are.1 (omega (arith, even, begins)) (omega (arith, few, begins)) f))

    -- ---- loops, where so many bytes are left after j turns

    module _ (word : ℕ → ℕ) where
      abbrev heap_at : ℕ → List ℕ
      heap_at j = so_far (word j)

      abbrev at_turn : (j : ℕ) (s : JsValue) (n : ℕ) → Place
      at_turn j s n = state p down_locals word heap_at j s n

      abbrev Stands : (test : Term) → Bool → (j : ℕ) (s : JsValue) (n : ℕ) → Type 0
      Stands test b j s n = Finds (Boolean b) (at_turn j s n) (eval false calls c (int_of test) (at_turn j s n))

      abbrev Loops : (total : ℕ) (test : Term) (ss : List Stmt) → Type 0
      Loops total test ss = IsLoop p down_locals word heap_at total (eval false calls c (int_of test)) (exec false calls c d [] (block_of ss))

      -- the tests

      inside_stands : (b : Bool) (j : ℕ) (s : JsValue) (n : ℕ) → rel_of 32 Ne (bit_and (add_of 32 to (to_uint32_of s)) 3) 0 ≡ b → Stands (is_inside (plus first third)) b j s n
      inside_stands b j s n e =
          subst (λ t. Stands (is_inside (plus first third)) t j s n) e
          (compared_finds calls c true unequal (both conjunction (plus first third) (literal 3)) (literal 0) (bit_and (add_of 32 to (to_uint32_of s)) 3) 0 (at_turn j s n) tt tt
          (expr_read calls c (word_at (at_turn j s n)) (at_turn j s n) (both conjunction (plus first third) (literal 3)) (((refl, refl), ((refl, refl), tt)), tt)) (refl, refl))

      left_stands : (most : ℕ) (b : Bool) (j : ℕ) (s : JsValue) (n : ℕ) → rel_of 32 GtS (to_uint32_of s) (most % 2 ^ 32) ≡ b → Stands (compare true greater third (literal most)) b j s n
      left_stands most b j s n e =
          subst (λ t. Stands (compare true greater third (literal most)) t j s n) e
          (compared_finds calls c true greater third (literal most) (to_uint32_of s) (most % 2 ^ 32) (at_turn j s n) tt tt (refl, refl) (refl, refl))

      -- so many bytes fewer are left, before they are copied
      fallen : (size j : ℕ) (s : JsValue) (n : ℕ) (ss : List Stmt) → to_uint32_of s ≡ word j → word j ≡ word (suc j) + size → word j ≤ len
          → ((v : JsValue) → to_uint32_of v ≡ word (suc j) → StepIs p down_locals word heap_at (suc j) n (run calls c d ss (at_place n v (so_far (word (suc j) + size)))))
          → StepIs p down_locals word heap_at (suc j) n (exec false calls c d [] (block_of (fall size ss)) (at_turn j s n))
      fallen size j s n ss is next few f =
          let k = few_bytes in
          put_then calls c d (word_at (at_turn j s n)) (argument 2) (minus third (literal size)) ss (at_turn j s n) (StepIs p down_locals word heap_at (suc j) n) tt ((refl, refl), (tt, tt))
          (λ v e.
          let rest : to_uint32_of v ≡ sub_of 32 (to_uint32_of s) (size % 2 ^ 32) = e in
          subst (λ i. StepIs p down_locals word heap_at (suc j) n (run calls c d ss (at_place n v (so_far i)))) (sym next) (f v (omega (arith, rest, is, next, few, k))))

      -- where a turn ends
      turned : (j : ℕ) (v : JsValue) (n : ℕ) → to_uint32_of v ≡ word (suc j) → StepIs p down_locals word heap_at (suc j) n (run calls c d [] (at_place n v (so_far (word (suc j)))))
      turned j v n e = record { value = v; has_word = e; is = refl }

      byte_step : (j : ℕ) (s : JsValue) (n : ℕ) → to_uint32_of s ≡ word j → word j ≡ word (suc j) + 1 → word j ≤ len
          → StepIs p down_locals word heap_at (suc j) n (exec false calls c d [] (block_of (fall 1 (copy_byte third ∷ []))) (at_turn j s n))
      byte_step j s n is next few =
          fallen 1 j s n (copy_byte third ∷ []) is next few
          (λ v e. byte_then_rest (word (suc j)) v n [] (StepIs p down_locals word heap_at (suc j) n) tt e (omega (arith, next, few)) (turned j v n e))

      -- words at these offsets
      words_step : (size : ℕ) (os : List ℕ) → AreDownward size os → size % 4 ≡ 0 → (j : ℕ) (s : JsValue) (n : ℕ) → (to + word (suc j)) % 4 ≡ 0 → (from + word (suc j)) % 4 ≡ 0 → to_uint32_of s ≡ word j
          → word j ≡ word (suc j) + size → word j ≤ len → StepIs p down_locals word heap_at (suc j) n (exec false calls c d [] (block_of (fall size (map (copy_word third) os ++ []))) (at_turn j s n))
      words_step size os are even j s n even_to even_from is next few =
          fallen size j s n (map (copy_word third) os ++ []) is next few
          (λ v e. words_then_rest (word (suc j)) even_to even_from v n e os size [] (StepIs p down_locals word heap_at (suc j) n) tt are even (omega (arith, next, few)) (turned j v n e))

      -- from one place to another
      looping : (total : ℕ) (test : Term) (ss rest : List Stmt) → Loops total test ss → (K : Run Completion → Run Completion) → K wrong ≡ wrong → ((q : Place) → K (spent q) ≡ spent q)
          → (cost start stop : ℕ) → word 0 ≡ start → word total ≡ stop
          → ((s : JsValue) (n : ℕ) → n ≤ d → to_uint32_of s ≡ stop → Works p target cost n (K (run calls c d rest (at_place n s (so_far stop)))))
          → (s : JsValue) (n : ℕ) → n ≤ d → to_uint32_of s ≡ start → Works p target (1 + total + cost) n (K (run calls c d (repeat test ss ∷ rest) (at_place n s (so_far start))))
      looping total test ss rest loops K is_wrong is_spent cost start stop starts stops f s n le is =
          subst (λ k. Works p target (1 + total + cost) n (K (run calls c d (repeat test ss ∷ rest) (at_place n s (so_far k))))) starts
          (repeated p down_locals word heap_at target calls c d total test ss rest loops K is_wrong is_spent cost s n le (is ∙ sym starts)
          (λ s n le has. subst (λ k. Works p target cost n (K (run calls c d rest (at_place n s (so_far k))))) (sym stops) (f s n le (has ∙ stops))))

    -- ---- the four loops

    abbrev byte_loop : List Stmt
    byte_loop = while_left 0 1 (copy_byte third ∷ []) ∷ []

    -- byte by byte, where so many are left
    bytes_work : (start : ℕ) → start ≤ len → (s : JsValue) (n : ℕ) → n ≤ d → to_uint32_of s ≡ start → Works p target (1 + start) n (run calls c d byte_loop (at_place n s (so_far start)))
    bytes_work start few s n le is =
        let k = few_bytes in
        at_cost p target (1 + start + 0) (1 + start) n (run calls c d byte_loop (at_place n s (so_far start))) (omega arith)
        (looping (λ j. start - j) start (compare true greater third (literal 0)) (fall 1 (copy_byte third ∷ [])) []
        (record {
          ends = λ s n is. left_stands (λ j. start - j) 0 false start s n (not_more (to_uint32_of s) 0 (omega (arith, is)) (omega arith));
          goes_on = λ j s n less is. left_stands (λ j. start - j) 0 true j s n (is_more (to_uint32_of s) 0 (omega (arith, is, less)) (omega (arith, is, few, k)));
          step = λ j s n less is. byte_step (λ j. start - j) j s n is (omega (arith, less)) (omega (arith, few));
        })
        (λ r. r) refl (λ q. refl) 0 start 0 (omega arith) (omega arith) (λ s n le has. (omega arith, all_done, refl, refl, refl)) s n le is)

    module _ (alike : to % 4 ≡ from % 4) (four : 4 ≤ len) where
      -- how many bytes are behind the last word, and before that
      abbrev behind : ℕ
      behind = (to + len) % 4

      abbrev left : ℕ
      left = len - behind

      -- and then the bytes that are left
      abbrev bytes_after : Run Completion → Run Completion
      bytes_after r = after r (λ e. unless_left e (run calls c d byte_loop))

      abbrev words_rest : List Stmt
      words_rest = while_left 3 4 (copy_word third 0 ∷ []) ∷ []

      abbrev eight_rest : List Stmt
      eight_rest = while_left 31 32 (map (copy_word third) eight_down) ∷ words_rest

      words_work : (s : JsValue) (n : ℕ) → n ≤ d → to_uint32_of s ≡ left % 32
          → Works p target (1 + left % 32 / 4 + (1 + left % 4)) n (bytes_after (run calls c d words_rest (at_place n s (so_far (left % 32)))))
      words_work s n le is =
          let k = few_bytes in
          looping (λ j. left % 32 - 4 * j) (left % 32 / 4) (compare true greater third (literal 3)) (fall 4 (copy_word third 0 ∷ [])) []
          (record {
            ends = λ s n is. left_stands (λ j. left % 32 - 4 * j) 3 false (left % 32 / 4) s n (not_more (to_uint32_of s) 3 (omega (arith, is)) (omega arith));
            goes_on = λ j s n less is. left_stands (λ j. left % 32 - 4 * j) 3 true j s n (is_more (to_uint32_of s) 3 (omega (arith, is, less)) (omega (arith, is, k)));
            step = λ j s n less is.
                words_step (λ j. left % 32 - 4 * j) 4 (0 ∷ []) (refl, refl) refl j s n (omega (arith, less, four)) (omega (arith, less, four, alike)) is (omega (arith, less)) (omega arith);
          })
          bytes_after refl (λ q. refl) (1 + left % 4) (left % 32) (left % 4) (omega arith) (omega arith) (λ s n le has. bytes_work (left % 4) (omega arith) s n le has) s n le is

      eight_work : (s : JsValue) (n : ℕ) → n ≤ d → to_uint32_of s ≡ left
          → Works p target (1 + left / 32 + (1 + left % 32 / 4 + (1 + left % 4))) n (bytes_after (run calls c d eight_rest (at_place n s (so_far left))))
      eight_work s n le is =
          let k = few_bytes in
          looping (λ j. left - 32 * j) (left / 32) (compare true greater third (literal 31)) (fall 32 (map (copy_word third) eight_down)) words_rest
          (record {
            ends = λ s n is. left_stands (λ j. left - 32 * j) 31 false (left / 32) s n (not_more (to_uint32_of s) 31 (omega (arith, is)) (omega arith));
            goes_on = λ j s n less is. left_stands (λ j. left - 32 * j) 31 true j s n (is_more (to_uint32_of s) 31 (omega (arith, is, less)) (omega (arith, is, k)));
            step = λ j s n less is.
                words_step (λ j. left - 32 * j) 32 eight_down (refl, (refl, (refl, (refl, (refl, (refl, (refl, (refl, refl)))))))) refl j s n (omega (arith, less, four)) (omega (arith, less, four, alike)) is (omega (arith, less)) (omega arith);
          })
          bytes_after refl (λ q. refl) (1 + left % 32 / 4 + (1 + left % 4)) left (left % 32) (omega arith) (omega arith) words_work s n le is

      head_work : (n : ℕ) → n ≤ d
          → Works p target (units_downwards true to len) n (bytes_after (run calls c d (down_to_word (copy_byte third) ∷ eight_rest) (at_place n l p.heap)))
      head_work n le =
          let small = h.small in
          subst (λ heap. Works p target (units_downwards true to len) n (bytes_after (run calls c d (down_to_word (copy_byte third) ∷ eight_rest) (at_place n l heap)))) none_done
          (looping (λ j. len - j) behind (is_inside (plus first third)) (fall 1 (copy_byte third ∷ [])) eight_rest
          (record {
            ends = λ s n is. inside_stands (λ j. len - j) false behind s n (not_inside (add_of 32 to (to_uint32_of s)) (omega (arith, is, four, within, small)));
            goes_on = λ j s n less is. inside_stands (λ j. len - j) true j s n (tests.is_inside (add_of 32 to (to_uint32_of s)) (λ none. omega (arith, is, none, less, four, within, small)));
            step = λ j s n less is. byte_step (λ j. len - j) j s n is (omega (arith, less, four)) (omega arith);
          })
          bytes_after refl (λ q. refl) (1 + left / 32 + (1 + left % 32 / 4 + (1 + left % 4))) len left (omega arith) refl eight_work l n le refl)

    -- ---- all of them, or bytes alone

    pub down_works : (n : ℕ) → n ≤ d → (t : Bool) → are_alike to from len ≡ t → Works p target (units_downwards t to len) n (run calls c d copy_down (at_place n l p.heap))
    down_works n le t is =
        only_then calls c d (word_at (at_place n l p.heap)) true equal (both disjunction (both conjunction (both exclusion first second) (literal 3)) (compare true less third (literal 4))) (literal 0)
        (block_of (down_to_word (copy_byte third) ∷ while_left 31 32 (map (copy_word third) eight_down) ∷ while_left 3 4 (copy_word third 0 ∷ []) ∷ [])) byte_loop (at_place n l p.heap)
        (Works p target (units_downwards t to len) n) tt ((((refl, refl), (refl, refl)), tt), ((refl, refl), tt)) tt (λ e. by_words_work t is (sym (words_test to from len few_bytes) ∙ e)) (λ e. by_bytes_work t is (sym (words_test to from len few_bytes) ∙ e))
      where
        by_words_work : (t : Bool) → are_alike to from len ≡ t → are_alike to from len ≡ true
            → Works p target (units_downwards t to len) n (after (run calls c d (down_to_word (copy_byte third) ∷ while_left 31 32 (map (copy_word third) eight_down) ∷ while_left 3 4 (copy_word third 0 ∷ []) ∷ []) (at_place n l p.heap)) (λ e. unless_left e (run calls c d byte_loop)))
        by_words_work true is e = head_work (alike_places to from len e).0 (alike_places to from len e).1 n le
        by_words_work false is e = absurd (cc (is, e))

        by_bytes_work : (t : Bool) → are_alike to from len ≡ t → are_alike to from len ≡ false → Works p target (units_downwards t to len) n (run calls c d byte_loop (at_place n l p.heap))
        by_bytes_work true is e = absurd (cc (is, e))
        by_bytes_work false is e =
            subst (λ heap. Works p target (1 + len) n (run calls c d byte_loop (at_place n l heap))) none_done (bytes_work len (omega arith) l n le refl)
