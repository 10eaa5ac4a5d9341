-- The loops that copy upwards, to places before those that are read.
use Rattle.std.proofs.Common.{◌≡◌, ℕ, suc, ◌+◌, ◌-◌, ◌*◌, ◌/◌, ◌%◌, ◌^◌, ◌<◌, ◌≤◌, Bool, true, false, List, [], ◌∷◌, ◌++◌, map, length, pos, refl, sym, ap, ◌∙◌, subst, arith}
use Rattle.std.specs.Prelude.{if◌then◌else◌, ◌==◌, bit_and}
use Rattle.std.proofs.lemmas.Bool.Decides.{nat_tests}
use Rattle.sem_words.specs.declared.js_value.JsValue.{JsValue}
use Rattle.sem_words.specs.declared.js_value.JsValue.TheVariants.{Whole, Bool as Boolean}
use Rattle.sem_words.specs.JsValues.{to_uint32_of}
use Rattle.sem_words.specs.Words.{add_of, sub_of}
use Rattle.heap_lang.specs.declared.kind.ViewKind.TheVariants.{U8, I32}
use Rattle.heap_lang.specs.Heap.{load, store, store_bytes, copied}
use Rattle.heap_lang.proofs.RunLemmas.{copied_none, length-copied, IsBytes-copied}
use Rattle.asm_lang.specs.Modules.{Stmt, Module}
use Rattle.asm_lang_valid.specs.Typing.{Scope}
use Rattle.asm_lang_valid.specs.Typed.{scope_of}
use Rattle.asm_lang_exec.specs.Runs.{Binding, binding, Place, Run, wrong, spent, after}
use Rattle.asm_lang_exec.specs.Values.{Calls}
use Rattle.asm_lang_exec.specs.Meaning.{eval, exec, Completion, unless_left, call_at}
use Rattle.wasm2js_translation.specs.Names.{spelled}
use Rattle.sem_words.specs.Words.{rel_of}
use Rattle.sem_words.specs.declared.word.Rel.TheVariants.{Ne, LtS, LeS}
use Rattle.wasm2js_translation.specs.Words.{Term, equal, unequal, less, at_most, conjunction, disjunction, exclusion, sum, no_more, further, both, byte, whole, compare, write_whole, int_of, simple_statement}
use Rattle.wasm2js_translation.specs.Pairs.{literal, plus, minus}
use Rattle.wasm2js_translation.specs.Helpers.{argument, own, first, second, third, done, sets, block_of, repeat, rise, is_inside, eight_up, up_to_word, each, each_byte, copy_word, copy_byte, copy_up, copy_function}
use Rattle.wasm2js_laws_places.specs.Straight.{index_at, element_word}
use Rattle.wasm2js_laws_places.specs.Places.{word_at, IsHeap}
use Rattle.wasm2js_laws_actions.specs.Reads.{Finds}
use Rattle.wasm2js_laws_helpers.proofs.Bodies.{run}
use Rattle.wasm2js_laws_preservation.proofs.LoadsNumbers.{number_of, byte_is, whole_is}
use Rattle.wasm2js_laws_preservation.specs.StoresAnswers.{with_byte}
use Rattle.wasm2js_laws_preservation.proofs.StoresFound.{expr_read, compared_finds}
use Rattle.wasm2js_laws_preservation.proofs.StoresSteps.{byte_then, whole_then, put_then}
use Rattle.wasm2js_laws_preservation.proofs.StoresWritten.{byte_stored, whole_stored}
use Rattle.wasm2js_laws_preservation.specs.RunsAnswers.{are_alike, bytes_before, units_upwards}
use Rattle.wasm2js_laws_preservation.specs.RunsLaws.{HasViews}
use Rattle.wasm2js_laws_preservation.proofs.RunsLoops.{Works, at_cost, state, StepIs, IsLoop, repeated}
use Rattle.wasm2js_laws_preservation.proofs.RunsRuns.{number_stored, copied_up_by}
use Rattle.wasm2js_laws_preservation.proofs.RunsCalled.{only_then}
use Rattle.wasm2js_laws_preservation.proofs.RunsTests as tests
use Rattle.wasm2js_laws_preservation.proofs.RunsTests.{is_less, not_less, more_left, fewer_left, not_inside, words_test, alike_places}

abbrev pub nothing : JsValue
nothing = Whole (pos 0)

-- a byte and a word of the heap, to another place of it
abbrev pub byte_moved : (to from : ℕ) → (heap : List ℕ) → List ℕ
byte_moved to from heap = with_byte to (element_word (load U8 (index_at 0 from) heap)) heap

abbrev pub word_moved : (to from : ℕ) → (heap : List ℕ) → List ℕ
word_moved to from heap = store I32 (index_at 2 to) (element_word (load I32 (index_at 2 from) heap)) heap

module _ (to from : ℕ) (heap : List ℕ) (h : IsHeap 0 heap) where
  pub byte_moved_is : to + 1 ≤ length heap → from + 1 ≤ length heap → byte_moved to from heap ≡ store_bytes to 1 (number_of 1 from heap) heap
  byte_moved_is there here =
      let small = h.small in
      ap (λ x. with_byte to x heap) (byte_is from heap h false here) ∙ byte_stored to (number_of 1 from heap) heap (omega (arith, there, small))

  pub word_moved_is : to % 4 ≡ 0 → from % 4 ≡ 0 → to + 4 ≤ length heap → from + 4 ≤ length heap → word_moved to from heap ≡ store_bytes to 4 (number_of 4 from heap) heap
  word_moved_is e g there here =
      let small = h.small in
      ap (λ x. store I32 (index_at 2 to) x heap) (whole_is from heap h g here) ∙ whole_stored to (number_of 4 from heap) heap (omega (arith, there, small)) e

pub heap_copied : (to from len : ℕ) (heap : List ℕ) → IsHeap 0 heap → IsHeap 0 (copied to from len heap)
heap_copied to from len heap h =
    let e = length-copied to from len heap in
    record { are_bytes = IsBytes-copied to from len heap h.are_bytes; holds = omega arith; small = let k = h.small in omega (arith, e, k) }

-- a place at an offset, by whether that is 0
abbrev pub past_by : Bool → (at far : Term) → (offset : ℕ) → Term
past_by t at far offset = if t then plus at far else sum at (further false far (further false (literal offset) no_more))

-- each is the next multiple of four
abbrev pub AreUpward : (next : ℕ) → List ℕ → Type 0
AreUpward next [] = Unit {0}
AreUpward next (x ∷ xs) = (x ≡ next) × AreUpward (next + 4) xs

module _ (m : Module) (has : HasViews m) (bytes : ℕ) (d : ℕ) (p : Place) (a b l : JsValue) where
  abbrev calls : Calls
  calls = call_at false m d

  abbrev c : Scope
  c = scope_of m (copy_function bytes)

  abbrev to : ℕ
  to = to_uint32_of a

  abbrev from : ℕ
  from = to_uint32_of b

  abbrev len : ℕ
  len = to_uint32_of l

  abbrev copied_to : ℕ → List ℕ
  copied_to j = copied to from j p.heap

  -- with what is done
  abbrev pub copy_locals : (s : JsValue) → List Binding
  copy_locals s = binding (spelled (argument 0)) a ∷ binding (spelled (argument 1)) b ∷ binding (spelled (argument 2)) l ∷ binding (spelled (own 0)) s ∷ []

  module _ (h : IsHeap 0 p.heap) (up : to ≤ from) (within : from + len ≤ length p.heap) where
    abbrev at_place : ℕ → (s : JsValue) → List ℕ → Place
    at_place n s heap = record p { units = n; locals = copy_locals s; heap = heap }

    long : (j : ℕ) → length (copied_to j) ≡ length p.heap
    long j = length-copied to from j p.heap

    few_bytes : len < 2 ^ 31
    few_bytes = let small = h.small in omega (arith, within, small)

    moved_on : (j size : ℕ) → j + size ≤ len → store_bytes (to + j) size (number_of size (from + j) (copied_to j)) (copied_to j) ≡ copied_to (j + size)
    moved_on j size few =
        let e = long j in
        number_stored (to + j) (from + j) size (copied_to j) (heap_copied to from j p.heap h).are_bytes (omega (arith, few, within, e))
        ∙ sym (copied_up_by to from j size p.heap up (omega (arith, few, within)))

    -- ---- one element

    -- a byte, where so many are done
    byte_put : (k x y : ℕ) → k + 1 ≤ len → x ≡ to + k → y ≡ from + k → byte_moved x y (copied_to k) ≡ copied_to (k + 1)
    byte_put k x y few there here =
        let e = long k in
        ap (λ i. byte_moved i y (copied_to k)) there
        ∙ ap (λ i. byte_moved (to + k) i (copied_to k)) here
        ∙ byte_moved_is (to + k) (from + k) (copied_to k) (heap_copied to from k p.heap h) (omega (arith, few, within, up, e)) (omega (arith, few, within, e))
        ∙ moved_on k 1 few

    -- a word
    word_put : (k x y : ℕ) → k + 4 ≤ len → (to + k) % 4 ≡ 0 → (from + k) % 4 ≡ 0 → x ≡ to + k → y ≡ from + k → word_moved x y (copied_to k) ≡ copied_to (k + 4)
    word_put k x y few even_to even_from there here =
        let e = long k in
        ap (λ i. word_moved i y (copied_to k)) there
        ∙ ap (λ i. word_moved (to + k) i (copied_to k)) here
        ∙ word_moved_is (to + k) (from + k) (copied_to k) (heap_copied to from k p.heap h) even_to even_from (omega (arith, few, within, up, e)) (omega (arith, few, within, e))
        ∙ moved_on k 4 few

    -- a place past so many bytes
    place_at : (at k : ℕ) (s : JsValue) → to_uint32_of s ≡ k → at + k < 2 ^ 32 → add_of 32 at (to_uint32_of s) ≡ at + k
    place_at at k s is few = omega (arith, is, few)

    place_past : (at k offset : ℕ) (s : JsValue) → to_uint32_of s ≡ k → at + (k + offset) < 2 ^ 32 → add_of 32 (add_of 32 at (to_uint32_of s)) (offset % 2 ^ 32) ≡ at + (k + offset)
    place_past at k offset s is few = omega (arith, is, few)

    byte_then_rest : (k : ℕ) (s : JsValue) (n : ℕ) (rest : List Stmt) (P : Run Completion → Type 0) → P wrong → to_uint32_of s ≡ k → k + 1 ≤ len
        → P (run calls c d rest (at_place n s (copied_to (k + 1)))) → P (run calls c d (copy_byte done ∷ rest) (at_place n s (copied_to k)))
    byte_then_rest k s n rest P w is few f =
        let small = h.small in
        byte_then calls c d (word_at (at_place n s (copied_to k))) (plus first done) (byte false (plus second done)) rest (at_place n s (copied_to k)) P w has.bytes
        ((refl, refl), ((refl, refl), tt)) (has.bytes, ((refl, refl), ((refl, refl), tt)))
        (subst (λ heap. P (run calls c d rest (at_place n s heap)))
        (sym (byte_put k (add_of 32 to (to_uint32_of s)) (add_of 32 from (to_uint32_of s)) few (place_at to k s is (omega (arith, few, within, small, up))) (place_at from k s is (omega (arith, few, within, small)))))
        f)

    -- a word at an offset, which is a multiple of four from a word on
    module _ (k : ℕ) (even_to : (to + k) % 4 ≡ 0) (even_from : (from + k) % 4 ≡ 0) (s : JsValue) (n : ℕ) (is : to_uint32_of s ≡ k) where
      word_then_rest : (offset : ℕ) (rest : List Stmt) (P : Run Completion → Type 0) → P wrong → offset % 4 ≡ 0 → k + (offset + 4) ≤ len
          → P (run calls c d rest (at_place n s (copied_to (k + (offset + 4))))) → P (run calls c d (copy_word done offset ∷ rest) (at_place n s (copied_to (k + offset))))
      word_then_rest offset rest P w even few f = by (offset == 0) refl
        where
          j : ℕ
          j = k + offset

          next : j + 4 ≡ k + (offset + 4)
          next = omega arith

          small : length p.heap ≤ 2 ^ 28
          small = h.small

          put : (x y : ℕ) → x ≡ to + j → y ≡ from + j → word_moved x y (copied_to j) ≡ copied_to (k + (offset + 4))
          put x y there here = word_put j x y (omega (arith, few)) (omega (arith, even, even_to)) (omega (arith, even, even_from)) there here ∙ ap copied_to next

          by : (t : Bool) → (offset == 0) ≡ t
              → P (run calls c d (simple_statement (write_whole (past_by t first done offset) (whole (past_by t second done offset))) ∷ rest) (at_place n s (copied_to j)))
          by true e =
              let none : offset ≡ 0 = grind (arith, nat_tests, e) in
              whole_then calls c d (word_at (at_place n s (copied_to j))) (plus first done) (whole (plus second done)) rest (at_place n s (copied_to j)) P w has.words
              ((refl, refl), ((refl, refl), tt)) (has.words, ((refl, refl), ((refl, refl), tt)))
              (subst (λ heap. P (run calls c d rest (at_place n s heap)))
              (sym (put (add_of 32 to (to_uint32_of s)) (add_of 32 from (to_uint32_of s)) (place_at to j s (omega (arith, is, none)) (omega (arith, few, within, small, up))) (place_at from j s (omega (arith, is, none)) (omega (arith, few, within, small)))))
              f)
          by false e =
              whole_then calls c d (word_at (at_place n s (copied_to j))) (past_by false first done offset) (whole (past_by false second done offset)) rest (at_place n s (copied_to j)) P w has.words
              ((refl, refl), ((refl, refl), (tt, tt))) (has.words, ((refl, refl), ((refl, refl), (tt, tt))))
              (subst (λ heap. P (run calls c d rest (at_place n s heap)))
              (sym (put (add_of 32 (add_of 32 to (to_uint32_of s)) (offset % 2 ^ 32)) (add_of 32 (add_of 32 from (to_uint32_of s)) (offset % 2 ^ 32))
              (place_past to k offset s is (omega (arith, few, within, small, up))) (place_past from k offset s is (omega (arith, few, within, small)))))
              f)

      words_then_rest : (os : List ℕ) (o : ℕ) (rest : List Stmt) (P : Run Completion → Type 0) → P wrong → AreUpward o os → o % 4 ≡ 0 → k + (o + 4 * length os) ≤ len
          → P (run calls c d rest (at_place n s (copied_to (k + (o + 4 * length os))))) → P (run calls c d (map (copy_word done) os ++ rest) (at_place n s (copied_to (k + o))))
      words_then_rest [] o rest P w are even few f =
          let same : k + (o + 4 * 0) ≡ k + o = omega arith in
          subst (λ j. P (run calls c d rest (at_place n s (copied_to j)))) same f
      words_then_rest (x ∷ xs) o rest P w are even few f =
          let next : k + (o + 4 * suc (length xs)) ≡ k + (o + 4 + 4 * length xs) = omega arith in
          subst (λ x. P (run calls c d (copy_word done x ∷ (map (copy_word done) xs ++ rest)) (at_place n s (copied_to (k + o))))) (sym are.0)
          (word_then_rest o (map (copy_word done) xs ++ rest) P w even (omega (arith, few))
          (words_then_rest xs (o + 4) rest P w are.1 (omega (arith, even)) (omega (arith, few)) (subst (λ j. P (run calls c d rest (at_place n s (copied_to j)))) next f)))

    -- ---- loops, where so many bytes are done after j turns

    module _ (word : ℕ → ℕ) where
      abbrev heap_at : ℕ → List ℕ
      heap_at j = copied_to (word j)

      abbrev at_turn : (j : ℕ) (s : JsValue) (n : ℕ) → Place
      at_turn j s n = state p copy_locals word heap_at j s n

      abbrev Stands : (test : Term) → Bool → (j : ℕ) (s : JsValue) (n : ℕ) → Type 0
      Stands test b j s n = Finds (Boolean b) (at_turn j s n) (eval false calls c (int_of test) (at_turn j s n))

      abbrev Loops : (total : ℕ) (test : Term) (ss : List Stmt) → Type 0
      Loops total test ss = IsLoop p copy_locals word heap_at total (eval false calls c (int_of test)) (exec false calls c d [] (block_of ss))

      -- the tests

      inside_stands : (b : Bool) (j : ℕ) (s : JsValue) (n : ℕ) → rel_of 32 Ne (bit_and (add_of 32 to (to_uint32_of s)) 3) 0 ≡ b → Stands (is_inside (plus first done)) b j s n
      inside_stands b j s n e =
          subst (λ t. Stands (is_inside (plus first done)) t j s n) e
          (compared_finds calls c true unequal (both conjunction (plus first done) (literal 3)) (literal 0) (bit_and (add_of 32 to (to_uint32_of s)) 3) 0 (at_turn j s n) tt tt
          (expr_read calls c (word_at (at_turn j s n)) (at_turn j s n) (both conjunction (plus first done) (literal 3)) (((refl, refl), ((refl, refl), tt)), tt)) (refl, refl))

      more_stands : (size : ℕ) (b : Bool) (j : ℕ) (s : JsValue) (n : ℕ) → rel_of 32 LeS (to_uint32_of s) (sub_of 32 len (size % 2 ^ 32)) ≡ b
          → Stands (compare true at_most done (minus third (literal size))) b j s n
      more_stands size b j s n e =
          subst (λ t. Stands (compare true at_most done (minus third (literal size))) t j s n) e
          (compared_finds calls c true at_most done (minus third (literal size)) (to_uint32_of s) (sub_of 32 len (size % 2 ^ 32)) (at_turn j s n) tt tt (refl, refl)
          (expr_read calls c (word_at (at_turn j s n)) (at_turn j s n) (minus third (literal size)) ((refl, refl), (tt, tt))))

      less_stands : (b : Bool) (j : ℕ) (s : JsValue) (n : ℕ) → rel_of 32 LtS (to_uint32_of s) len ≡ b → Stands (compare true less done third) b j s n
      less_stands b j s n e =
          subst (λ t. Stands (compare true less done third) t j s n) e (compared_finds calls c true less done third (to_uint32_of s) len (at_turn j s n) tt tt (refl, refl) (refl, refl))

      -- the end of a turn
      risen : (size j : ℕ) (s : JsValue) (n : ℕ) → to_uint32_of s ≡ word j → word (suc j) ≡ word j + size → word (suc j) ≤ len
          → StepIs p copy_locals word heap_at (suc j) n (run calls c d (sets (own 0) (plus done (literal size)) ∷ []) (at_place n s (copied_to (word j + size))))
      risen size j s n is next few =
          let small = h.small in
          put_then calls c d (word_at (at_place n s (copied_to (word j + size)))) (own 0) (plus done (literal size)) [] (at_place n s (copied_to (word j + size)))
          (StepIs p copy_locals word heap_at (suc j) n) tt ((refl, refl), (tt, tt))
          (λ v e. let sum : to_uint32_of v ≡ add_of 32 (to_uint32_of s) (size % 2 ^ 32) = e in record {
            value = v;
            has_word = omega (arith, sum, is, next, few, within, small);
            is = ap (λ k. at_place n v (copied_to k)) (sym next);
          })

      byte_step : (j : ℕ) (s : JsValue) (n : ℕ) → to_uint32_of s ≡ word j → word (suc j) ≡ word j + 1 → word (suc j) ≤ len
          → StepIs p copy_locals word heap_at (suc j) n (exec false calls c d [] (block_of (rise 1 (copy_byte done ∷ []))) (at_turn j s n))
      byte_step j s n is next few =
          byte_then_rest (word j) s n (sets (own 0) (plus done (literal 1)) ∷ []) (StepIs p copy_locals word heap_at (suc j) n) tt is (omega (arith, next, few)) (risen 1 j s n is next few)

      -- words at these offsets
      words_step : (os : List ℕ) → AreUpward 0 os → (j : ℕ) (s : JsValue) (n : ℕ) → (to + word j) % 4 ≡ 0 → (from + word j) % 4 ≡ 0 → to_uint32_of s ≡ word j
          → word (suc j) ≡ word j + 4 * length os → word (suc j) ≤ len
          → StepIs p copy_locals word heap_at (suc j) n (exec false calls c d [] (block_of (rise (4 * length os) (map (copy_word done) os))) (at_turn j s n))
      words_step os are j s n even_to even_from is next few =
          let none : word j + 0 ≡ word j = omega arith in
          let all : word j + 4 * length os ≡ word j + (0 + 4 * length os) = omega arith in
          subst (λ k. StepIs p copy_locals word heap_at (suc j) n (run calls c d (rise (4 * length os) (map (copy_word done) os)) (at_place n s (copied_to k)))) none
          (words_then_rest (word j) even_to even_from s n is os 0 (sets (own 0) (plus done (literal (4 * length os))) ∷ []) (StepIs p copy_locals word heap_at (suc j) n) tt are refl (omega (arith, next, few))
          (subst (λ k. StepIs p copy_locals word heap_at (suc j) n (run calls c d (sets (own 0) (plus done (literal (4 * length os))) ∷ []) (at_place n s (copied_to k)))) all (risen (4 * length os) j s n is next few)))

      -- from one place to another
      looping : (total : ℕ) (test : Term) (ss rest : List Stmt) → Loops total test ss → (K : Run Completion → Run Completion) → K wrong ≡ wrong → ((q : Place) → K (spent q) ≡ spent q)
          → (cost start stop : ℕ) → word 0 ≡ start → word total ≡ stop
          → ((s : JsValue) (n : ℕ) → n ≤ d → to_uint32_of s ≡ stop → Works p (copied_to len) cost n (K (run calls c d rest (at_place n s (copied_to stop)))))
          → (s : JsValue) (n : ℕ) → n ≤ d → to_uint32_of s ≡ start → Works p (copied_to len) (1 + total + cost) n (K (run calls c d (repeat test ss ∷ rest) (at_place n s (copied_to start))))
      looping total test ss rest loops K is_wrong is_spent cost start stop starts stops f s n le is =
          subst (λ k. Works p (copied_to len) (1 + total + cost) n (K (run calls c d (repeat test ss ∷ rest) (at_place n s (copied_to k))))) starts
          (repeated p copy_locals word heap_at (copied_to len) calls c d total test ss rest loops K is_wrong is_spent cost s n le (is ∙ sym starts)
          (λ s n le has. subst (λ k. Works p (copied_to len) cost n (K (run calls c d rest (at_place n s (copied_to k))))) (sym stops) (f s n le (has ∙ stops))))

    -- ---- the four loops

    -- byte by byte, after so many
    bytes_work : (start total : ℕ) → start + total ≡ len → (s : JsValue) (n : ℕ) → n ≤ d → to_uint32_of s ≡ start
        → Works p (copied_to len) (1 + total) n (run calls c d (each_byte (copy_byte done) ∷ []) (at_place n s (copied_to start)))
    bytes_work start total all s n le is =
        let k = few_bytes in
        at_cost p (copied_to len) (1 + total + 0) (1 + total) n (run calls c d (each_byte (copy_byte done) ∷ []) (at_place n s (copied_to start))) (omega arith)
        (looping (λ j. start + j) total (compare true less done third) (rise 1 (copy_byte done ∷ [])) []
        (record {
          ends = λ s n is. less_stands (λ j. start + j) false total s n (not_less (to_uint32_of s) len (is ∙ all) k);
          goes_on = λ j s n less is. less_stands (λ j. start + j) true j s n (is_less (to_uint32_of s) len (omega (arith, is, all, less)) k);
          step = λ j s n less is. byte_step (λ j. start + j) j s n is (omega arith) (omega (arith, all, less));
        })
        (λ r. r) refl (λ q. refl) 0 start len (omega arith) all (λ s n le has. (omega arith, refl, refl, refl, refl)) s n le is)

    module _ (alike : to % 4 ≡ from % 4) (four : 4 ≤ len) where
      abbrev before : ℕ
      before = bytes_before to

      abbrev left : ℕ
      left = len - bytes_before to

      -- how many bytes are done by eight words, and by words
      abbrev by_eight : ℕ
      by_eight = before + 32 * (left / 32)

      abbrev by_words : ℕ
      by_words = by_eight + 4 * (left % 32 / 4)

      -- and then the bytes that are left
      abbrev bytes_after : Run Completion → Run Completion
      bytes_after r = after r (λ e. unless_left e (run calls c d (each_byte (copy_byte done) ∷ [])))

      abbrev words_rest : List Stmt
      words_rest = each 4 (copy_word done 0 ∷ []) ∷ []

      abbrev eight_rest : List Stmt
      eight_rest = each 32 (map (copy_word done) eight_up) ∷ words_rest

      words_work : (s : JsValue) (n : ℕ) → n ≤ d → to_uint32_of s ≡ by_eight
          → Works p (copied_to len) (1 + left % 32 / 4 + (1 + left % 4)) n (bytes_after (run calls c d words_rest (at_place n s (copied_to by_eight))))
      words_work s n le is =
          let k = few_bytes in
          looping (λ j. by_eight + 4 * j) (left % 32 / 4) (compare true at_most done (minus third (literal 4))) (rise 4 (copy_word done 0 ∷ [])) []
          (record {
            ends = λ s n is. more_stands (λ j. by_eight + 4 * j) 4 false (left % 32 / 4) s n (fewer_left (to_uint32_of s) len 4 (omega (arith, is, four)) (omega (arith, is, four)) k (omega arith));
            goes_on = λ j s n less is. more_stands (λ j. by_eight + 4 * j) 4 true j s n (more_left (to_uint32_of s) len 4 (omega (arith, is, four, less)) k);
            step = λ j s n less is. words_step (λ j. by_eight + 4 * j) (0 ∷ []) (refl, tt) j s n (omega arith) (omega (arith, alike)) is (omega arith) (omega (arith, less, four));
          })
          bytes_after refl (λ q. refl) (1 + left % 4) by_eight by_words (omega arith) refl (λ s n le has. bytes_work by_words (left % 4) (omega (arith, four)) s n le has) s n le is

      eight_work : (s : JsValue) (n : ℕ) → n ≤ d → to_uint32_of s ≡ before
          → Works p (copied_to len) (1 + left / 32 + (1 + left % 32 / 4 + (1 + left % 4))) n (bytes_after (run calls c d eight_rest (at_place n s (copied_to before))))
      eight_work s n le is =
          let k = few_bytes in
          looping (λ j. before + 32 * j) (left / 32) (compare true at_most done (minus third (literal 32))) (rise 32 (map (copy_word done) eight_up)) words_rest
          (record {
            ends = λ s n is. more_stands (λ j. before + 32 * j) 32 false (left / 32) s n (fewer_left (to_uint32_of s) len 32 (omega (arith, is, four)) (omega (arith, is, four)) k (omega arith));
            goes_on = λ j s n less is. more_stands (λ j. before + 32 * j) 32 true j s n (more_left (to_uint32_of s) len 32 (omega (arith, is, four, less)) k);
            step = λ j s n less is.
                words_step (λ j. before + 32 * j) eight_up (refl, (refl, (refl, (refl, (refl, (refl, (refl, (refl, tt)))))))) j s n (omega arith) (omega (arith, alike)) is (omega arith) (omega (arith, less, four));
          })
          bytes_after refl (λ q. refl) (1 + left % 32 / 4 + (1 + left % 4)) before by_eight (omega arith) refl words_work s n le is

      head_work : (n : ℕ) → n ≤ d
          → Works p (copied_to len) (units_upwards true to len) n (bytes_after (run calls c d (up_to_word (copy_byte done) ∷ eight_rest) (at_place n nothing p.heap)))
      head_work n le =
          let small = h.small in
          subst (λ heap. Works p (copied_to len) (units_upwards true to len) n (bytes_after (run calls c d (up_to_word (copy_byte done) ∷ eight_rest) (at_place n nothing heap)))) (copied_none to from p.heap)
          (looping (λ j. j) before (is_inside (plus first done)) (rise 1 (copy_byte done ∷ [])) eight_rest
          (record {
            ends = λ s n is. inside_stands (λ j. j) false before s n (not_inside (add_of 32 to (to_uint32_of s)) (omega (arith, is, four, within, up, small)));
            goes_on = λ j s n less is. inside_stands (λ j. j) true j s n (tests.is_inside (add_of 32 to (to_uint32_of s)) (λ none. omega (arith, is, none, less, four, within, up, small)));
            step = λ j s n less is. byte_step (λ j. j) j s n is (omega arith) (omega (arith, less, four));
          })
          bytes_after refl (λ q. refl) (1 + left / 32 + (1 + left % 32 / 4 + (1 + left % 4))) 0 before refl refl eight_work nothing n le refl)

    -- ---- all of them, or bytes alone

    pub up_works : (n : ℕ) → n ≤ d → (t : Bool) → are_alike to from len ≡ t → Works p (copied_to len) (units_upwards t to len) n (run calls c d copy_up (at_place n nothing p.heap))
    up_works n le t is =
        only_then calls c d (word_at (at_place n nothing p.heap)) true equal (both disjunction (both conjunction (both exclusion first second) (literal 3)) (compare true less third (literal 4))) (literal 0)
        (block_of (up_to_word (copy_byte done) ∷ each 32 (map (copy_word done) eight_up) ∷ each 4 (copy_word done 0 ∷ []) ∷ [])) (each_byte (copy_byte done) ∷ []) (at_place n nothing p.heap)
        (Works p (copied_to len) (units_upwards t to len) n) tt ((((refl, refl), (refl, refl)), tt), ((refl, refl), tt)) tt (λ e. by_words_work t is (sym (words_test to from len few_bytes) ∙ e)) (λ e. by_bytes_work t is (sym (words_test to from len few_bytes) ∙ e))
      where
        by_words_work : (t : Bool) → are_alike to from len ≡ t → are_alike to from len ≡ true
            → Works p (copied_to len) (units_upwards t to len) n (after (run calls c d (up_to_word (copy_byte done) ∷ each 32 (map (copy_word done) eight_up) ∷ each 4 (copy_word done 0 ∷ []) ∷ []) (at_place n nothing p.heap)) (λ e. unless_left e (run calls c d (each_byte (copy_byte done) ∷ []))))
        by_words_work true is e = head_work (alike_places to from len e).0 (alike_places to from len e).1 n le
        by_words_work false is e = absurd (cc (is, e))

        by_bytes_work : (t : Bool) → are_alike to from len ≡ t → are_alike to from len ≡ false → Works p (copied_to len) (units_upwards t to len) n (run calls c d (each_byte (copy_byte done) ∷ []) (at_place n nothing p.heap))
        by_bytes_work true is e = absurd (cc (is, e))
        by_bytes_work false is e =
            subst (λ heap. Works p (copied_to len) (1 + len) n (run calls c d (each_byte (copy_byte done) ∷ []) (at_place n nothing heap))) (copied_none to from p.heap)
            (bytes_work 0 len (omega arith) nothing n le refl)
