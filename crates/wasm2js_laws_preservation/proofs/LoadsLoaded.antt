-- Loads, by the number of their bytes.
use Rattle.std.proofs.Common.{◌≡◌, ℕ, ◌+◌, ◌*◌, ◌%◌, ◌^◌, ◌<◌, ◌≤◌, Bool, true, false, ◌||◌, List, [], ◌∷◌, ◌++◌, length, take, Option, Some, Ok, refl, sym, ap, ◌∙◌, subst, arith}
use Rattle.std.specs.Prelude.{◌==◌, if◌then◌else◌, bit_and}
use Rattle.std.proofs.lemmas.Bool.Decides.{nat_tests}
use Rattle.sem_words.specs.Words.{add_of, shl_of}
use Rattle.sem_words.proofs.WordLaws.{word_of-signed_of_32}
use Rattle.session_lang.specs.Imports.{Replies}
use Rattle.session_lang.specs.Observation.{EventPlain}
use Rattle.sem_words.specs.declared.word.Word.TheVariants.{W64}
use Rattle.heap_lang.specs.declared.kind.ViewKind.TheVariants.{I32}
use Rattle.heap_lang.specs.Heap as heaps
use Rattle.heap_lang.specs.Heap.{load_bytes}
use Rattle.heap_lang.proofs.HeapLemmas.{load_bytes_within}
use Rattle.wasm_lang.specs.declared.types.ValType.{ValType}
use Rattle.wasm_lang.specs.declared.types.ValType.TheVariants.{I32}
use Rattle.wasm_lang.specs.declared.types.MemOp.{MemOp}
use Rattle.wasm_lang.specs.Instructions.{load}
use Rattle.wasm_lang_valid.specs.declared.rule.Rule.TheVariants.{NoMemory}
use Rattle.wasm_lang_valid.specs.Typing.{Shape, Fixed, Acts, unless, kind_of}
use Rattle.wasm_lang_exec.specs.Plain.{loaded}
use Rattle.wasm2js_translation.specs.Names as names
use Rattle.wasm2js_translation.specs.Names.{fixed, spare_high}
use Rattle.wasm2js_translation.specs.Words.{conjunction, read, both, byte, whole, put, ask, Action, simply, either}
use Rattle.wasm2js_translation.specs.Pairs.{operand_pair, literal}
use Rattle.wasm2js_translation.specs.Actions.{place, half, load_word, load_high}
use Rattle.wasm2js_translation.specs.Bodies.{after_form}
use Rattle.wasm2js_laws_numbers.specs.Laws.{joined}
use Rattle.wasm2js_laws_places.specs.Straight.{Words, with_word, value, index_at, element_word, byte_kind, Helping, Outcome, goes, stops, asked, then_do, run_simples, run_action, run_actions, simples_units, action_units, actions_units}
use Rattle.wasm2js_laws_places.specs.Places.{operands, locals_of, store_with, IsHeap}
use Rattle.wasm2js_laws_helpers.specs.Access.Answers.{low_word_in, high_word_in}
use Rattle.wasm2js_laws_helpers.proofs.Access.Bytes.{reads_word, reads_words}
use Rattle.wasm2js_laws_typed.specs.Laws.{is_loaded}
use Rattle.wasm2js_laws_preservation.specs.ControlControl.{Function}
use Rattle.wasm2js_laws_preservation.specs.InstructionsPlain.{IsAlike, IsPlain, Supports}
use Rattle.wasm2js_laws_preservation.proofs.WideKept.{is_self, low, high, kept_all, kept_low, kept_high, kept_fixed, value_alike}
use Rattle.wasm2js_laws_typed.proofs.SoundPlain.{of_fixed}
use Rattle.wasm2js_laws_preservation.specs.LoadsLaws.{AreReaders, LoadsAreRead}
use Rattle.wasm2js_laws_preservation.proofs.LoadsGuarded.{guarded_asks, guarded_units, guarded_run, nothing_after, place_is}
use Rattle.wasm2js_laws_preservation.proofs.LoadsNumbers.{loaded_inside, loaded_outside, some_is, number_of, number_below, number_parts, narrow_number, byte_is, whole_is, is_aligned, half_sum, wide_8, wide_16, wide_32}
use Rattle.wasm2js_laws_preservation.proofs.LoadsWords.{access_to, loaded_value, HasLoaded, CodeLoads, PutsLow, narrow_of, unsigned_of, extended_of, low_is, high_is}

pub any_heap : (bytes : ℕ) (heap : List ℕ) → IsHeap bytes heap → IsHeap 0 heap
any_heap bytes heap h = record { are_bytes = h.are_bytes; holds = omega arith; small = h.small }

-- ---- which size it is

same_size : (n k : ℕ) → (n == k) ≡ true → n ≡ k
same_size n k h = grind (arith, nat_tests, h)

module _ (P : ℕ → Type 0) (n : ℕ) where
  pub one_of_two : P 1 → P 2 → (t u : Bool) → (n == 1) ≡ t → (n == 2) ≡ u → (t || u) ≡ true → P n
  one_of_two p q true u e g h = subst P (sym (same_size n 1 e)) p
  one_of_two p q false true e g h = subst P (sym (same_size n 2 g)) q
  one_of_two p q false false e g h = absurd (cc h)

  pub one_of_three : P 1 → P 2 → P 4 → (t u v : Bool) → (n == 1) ≡ t → (n == 2) ≡ u → (n == 4) ≡ v → (t || (u || v)) ≡ true → P n
  one_of_three p q r true u v e g k h = subst P (sym (same_size n 1 e)) p
  one_of_three p q r false true v e g k h = subst P (sym (same_size n 2 g)) q
  one_of_three p q r false false true e g k h = subst P (sym (same_size n 4 k)) r
  one_of_three p q r false false false e g k h = absurd (cc h)

  pub one_of_four : P 1 → P 2 → P 4 → P 8 → (t u v w : Bool) → (n == 1) ≡ t → (n == 2) ≡ u → (n == 4) ≡ v → (n == 8) ≡ w → (t || (u || (v || w))) ≡ true → P n
  one_of_four p q r s true u v w e g k l h = subst P (sym (same_size n 1 e)) p
  one_of_four p q r s false true v w e g k l h = subst P (sym (same_size n 2 g)) q
  one_of_four p q r s false false true w e g k l h = subst P (sym (same_size n 4 k)) r
  one_of_four p q r s false false false true e g k l h = subst P (sym (same_size n 8 l)) s
  one_of_four p q r s false false false false e g k l h = absurd (cc h)

-- ---- one, two and four bytes

module _ (helping : Helping) (bytes offset : ℕ) where
  module _ (d : ℕ) (words : Words) (heap : List ℕ) (h : IsHeap bytes heap) where
    abbrev at : ℕ
    at = words (low d) + offset

    -- the place of a byte that lies in the memory
    byte_place : (k : ℕ) → at + k < bytes → value (place (low d) (offset + k)) words heap ≡ at + k
    byte_place k within =
        let holds = h.holds in
        let small = h.small in
        place_is (low d) (offset + k) words heap (omega (arith, within, holds, small)) ∙ omega arith

    first_place : at < bytes → value (place (low d) offset) words heap ≡ at
    first_place within =
        let holds = h.holds in
        let small = h.small in
        place_is (low d) offset words heap (omega (arith, within, holds, small))

    -- it is a multiple of four where this is
    pub test_says : at < bytes → (bit_and (value (place (low d) (offset % 4)) words heap) 3 == 0) ≡ true → at % 4 ≡ 0
    test_says within is =
        let holds = h.holds in
        let small = h.small in
        let e : value (place (low d) (offset % 4)) words heap ≡ words (low d) + offset % 4 = place_is (low d) (offset % 4) words heap (omega (arith, within, holds, small)) in
        let four = is_aligned (words (low d) + offset % 4) (subst (λ n. (bit_and n 3 == 0) ≡ true) e is) in
        omega (arith, four)

    four_bytes : at + 4 ≤ bytes → low_word_in heap at ≡ number_of 4 at heap
    four_bytes within =
        let holds = h.holds in
        let inside : at + 4 ≤ length heap = omega (arith, within, holds) in
        some_is _ _ (sym (reads_word at heap h.are_bytes h.small inside) ∙ load_bytes_within at 4 heap inside)

    narrow_32 : (signed : Bool) → at + 4 ≤ bytes → number_of 4 at heap ≡ narrow_number signed 32 (number_of 4 at heap)
    narrow_32 false within = refl
    narrow_32 true within =
        let holds = h.holds in
        let below = number_below heap at 4 (any_heap bytes heap h) (omega (arith, within, holds)) in
        sym (word_of-signed_of_32 (number_of 4 at heap) (omega (arith, below)))

  pub byte_put : (signed : Bool) → PutsLow helping bytes offset 1 signed (λ d. simply (put (low d) (byte signed (place (low d) offset))))
  byte_put signed = record {
    asks = λ d. tt;
    units = λ d words heap. omega arith;
    runs = λ d words heap h within.
        let holds = h.holds in
        ap (λ x. goes (with_word (low d) x words) heap)
        (ap (λ a. element_word (heaps.load (byte_kind signed) (index_at 0 a) heap)) (first_place d words heap h (omega (arith, within)))
        ∙ byte_is (at d words heap h) heap (any_heap bytes heap h) signed (omega (arith, within, holds)));
  }

  pub half_put : (signed : Bool) → PutsLow helping bytes offset 2 signed (λ d. simply (put (low d) (half signed (low d) offset)))
  half_put signed = record {
    asks = λ d. tt;
    units = λ d words heap. omega arith;
    runs = λ d words heap h within.
        let holds = h.holds in
        let a = words (low d) + offset in
        let any = any_heap bytes heap h in
        let first_in : a + 1 ≤ length heap = omega (arith, within, holds) in
        let second_in : a + 1 + 1 ≤ length heap = omega (arith, within, holds) in
        let upper = element_word (heaps.load (byte_kind signed) (index_at 0 (value (place (low d) (offset + 1)) words heap)) heap) in
        let first = ap (λ a. element_word (heaps.load (byte_kind false) (index_at 0 a) heap)) (first_place d words heap h (omega (arith, within))) ∙ byte_is a heap any false first_in in
        let second = ap (λ a. element_word (heaps.load (byte_kind signed) (index_at 0 a) heap)) (byte_place d words heap h 1 (omega (arith, within))) ∙ byte_is (a + 1) heap any signed second_in in
        ap (λ x. goes (with_word (low d) x words) heap)
        (ap (λ x. add_of 32 x (shl_of 32 upper 8)) first
        ∙ ap (λ y. add_of 32 (number_of 1 a heap) (shl_of 32 y 8)) second
        ∙ half_sum signed (number_of 1 a heap) (number_of 1 (a + 1) heap) (number_below heap a 1 any first_in) (number_below heap (a + 1) 1 any second_in)
        ∙ ap (narrow_number signed 16) (sym (number_parts heap a 1 1 (omega (arith, within, holds)))));
  }

  module _ (readers : AreReaders helping) where
    abbrev word_code : ℕ → Action
    word_code d =
        either (both conjunction (place (low d) (offset % 4)) (literal 3)) (ask (low d) names.load_32 (place (low d) offset ∷ []) ∷ []) (put (low d) (whole (place (low d) offset)) ∷ [])

    word_units : (d : ℕ) (words : Words) (heap : List ℕ) → action_units helping (word_code d) words heap ≤ 1
    word_units d words heap = by (bit_and (value (place (low d) (offset % 4)) words heap) 3 == 0)
      where
        v : ℕ
        v = value (place (low d) offset) words heap

        by : (t : Bool) → (if t then simples_units helping (put (low d) (whole (place (low d) offset)) ∷ []) words heap
            else simples_units helping (ask (low d) names.load_32 (place (low d) offset ∷ []) ∷ []) words heap) ≤ 1
        by true = omega arith
        by false =
            let once = (readers.load_32 (v ∷ []) heap).1 in
            let none = nothing_after (asked (low d) (helping.answer names.load_32 (v ∷ []) heap) words heap) (simples_units helping []) (λ words heap. refl) in
            omega (arith, once, none)

    word_runs : (signed : Bool) (d : ℕ) (words : Words) (heap : List ℕ) → IsHeap bytes heap → words (low d) + offset + 4 ≤ bytes
        → run_action helping (word_code d) words heap ≡ goes (with_word (low d) (narrow_number signed 32 (number_of 4 (words (low d) + offset) heap)) words) heap
    word_runs signed d words heap h within = by (bit_and (value (place (low d) (offset % 4)) words heap) 3 == 0) refl ∙ ap (λ x. goes (with_word (low d) x words) heap) (narrow_32 d words heap h signed within)
      where
        v : ℕ
        v = value (place (low d) offset) words heap

        a : ℕ
        a = words (low d) + offset

        e : v ≡ a
        e = first_place d words heap h (omega (arith, within))

        by : (t : Bool) → (bit_and (value (place (low d) (offset % 4)) words heap) 3 == 0) ≡ t
            → (if t then run_simples helping (put (low d) (whole (place (low d) offset)) ∷ []) words heap
            else run_simples helping (ask (low d) names.load_32 (place (low d) offset ∷ []) ∷ []) words heap)
            ≡ goes (with_word (low d) (number_of 4 a heap) words) heap
        by true is =
            let holds = h.holds in
            ap (λ x. goes (with_word (low d) x words) heap)
            (ap (λ a. element_word (heaps.load I32 (index_at 2 a) heap)) e
            ∙ whole_is a heap (any_heap bytes heap h) (test_says d words heap h (omega (arith, within)) is) (omega (arith, within, holds)))
        by false is =
            ap (λ r. then_do (asked (low d) r words heap) (run_simples helping [])) (readers.load_32 (v ∷ []) heap).0
            ∙ ap (λ a. goes (with_word (low d) (low_word_in heap a) words) heap) e
            ∙ ap (λ x. goes (with_word (low d) x words) heap) (four_bytes d words heap h within)

    pub word_put : (signed : Bool) → PutsLow helping bytes offset 4 signed word_code
    word_put signed = record { asks = λ d. ((refl, tt), (tt, tt)); units = word_units; runs = word_runs signed }

    -- ---- eight bytes

    abbrev words_code : ℕ → Action
    words_code d =
        either (both conjunction (place (low d) (offset % 4)) (literal 3))
        (ask (low d) names.load_64 (place (low d) offset ∷ []) ∷ put (high d) (read (fixed spare_high)) ∷ [])
        (put (high d) (whole (place (low d) (offset + 4))) ∷ put (low d) (whole (place (low d) offset)) ∷ [])

    words_units : (d : ℕ) (words : Words) (heap : List ℕ) → actions_units helping (words_code d ∷ []) words heap ≤ 1
    words_units d words heap =
        let few = by (bit_and (value (place (low d) (offset % 4)) words heap) 3 == 0) in
        let none = nothing_after (run_action helping (words_code d) words heap) (actions_units helping []) (λ words heap. refl) in
        omega (arith, few, none)
      where
        v : ℕ
        v = value (place (low d) offset) words heap

        by : (t : Bool) → (if t then simples_units helping (put (high d) (whole (place (low d) (offset + 4))) ∷ put (low d) (whole (place (low d) offset)) ∷ []) words heap
            else simples_units helping (ask (low d) names.load_64 (place (low d) offset ∷ []) ∷ put (high d) (read (fixed spare_high)) ∷ []) words heap) ≤ 1
        by true = omega arith
        by false =
            let once = (readers.load_64 (v ∷ []) heap).1 in
            let none = nothing_after (asked (low d) (helping.answer names.load_64 (v ∷ []) heap) words heap) (simples_units helping (put (high d) (read (fixed spare_high)) ∷ [])) (λ words heap. refl) in
            omega (arith, once, none)

    module _ (d : ℕ) (words : Words) (heap : List ℕ) (h : IsHeap bytes heap) (within : words (low d) + offset + 8 ≤ bytes) where
      abbrev Loads : Outcome → Type 0
      Loads o = HasLoaded (access_to true 8 false) d words heap (number_of 8 (words (low d) + offset) heap) (then_do o (run_actions helping []))

      abbrev a : ℕ
      a = words (low d) + offset

      abbrev v : ℕ
      v = value (place (low d) offset) words heap

      v_is : v ≡ a
      v_is = first_place d words heap h (omega (arith, within))

      inside : a + 8 ≤ length heap
      inside = let holds = h.holds in omega (arith, within, holds)

      -- the helper's words
      abbrev spared : Words
      spared = with_word (fixed spare_high) (high_word_in heap v) words

      joined_is : number_of 8 a heap ≡ joined (low_word_in heap v) (high_word_in heap v)
      joined_is =
          some_is _ _ (sym (load_bytes_within a 8 heap inside) ∙ reads_words a heap h.are_bytes h.small inside)
          ∙ ap (λ a. joined (low_word_in heap a) (high_word_in heap a)) (sym v_is)

      apart_loads : Loads (run_simples helping (ask (low d) names.load_64 (place (low d) offset ∷ []) ∷ put (high d) (read (fixed spare_high)) ∷ []) words heap)
      apart_loads =
          let x = low_word_in heap v in
          let y = high_word_in heap v in
          subst (λ r. Loads (then_do (asked (low d) r words heap) (run_simples helping (put (high d) (read (fixed spare_high)) ∷ [])))) (sym (readers.load_64 (v ∷ []) heap).0) (
            refl,
            kept_high d y words (with_word (low d) x spared) (kept_low d x words spared (kept_fixed d y spare_high words words (kept_all d words))),
            ap W64
                (joined_is
                ∙ ap (λ z. x + 2 ^ 32 * z) (sym (high_is d x y spared))
                ∙ ap (λ z. z + 2 ^ 32 * with_word (high d) y (with_word (low d) x spared) (high d)) (sym (low_is d x y spared))),
          )

      -- whole words
      abbrev upper : ℕ
      upper = value (whole (place (low d) (offset + 4))) words heap

      abbrev raised : Words
      raised = with_word (high d) upper words

      abbrev lower : ℕ
      lower = value (whole (place (low d) offset)) raised heap

      upper_is : a % 4 ≡ 0 → upper ≡ number_of 4 (a + 4) heap
      upper_is aligned =
          ap (λ a. element_word (heaps.load I32 (index_at 2 a) heap)) (byte_place d words heap h 4 (omega (arith, within)))
          ∙ whole_is (a + 4) heap (any_heap bytes heap h) (omega (arith, aligned)) (omega (arith, inside))

      lower_is : a % 4 ≡ 0 → lower ≡ number_of 4 a heap
      lower_is aligned =
          ap (λ a. element_word (heaps.load I32 (index_at 2 a) heap)) (first_place d raised heap h (omega (arith, within)))
          ∙ whole_is a heap (any_heap bytes heap h) aligned (omega (arith, inside))

      parts_are : a % 4 ≡ 0 → number_of 8 a heap ≡ lower + 2 ^ 32 * upper
      parts_are aligned =
          number_parts heap a 4 4 inside
          ∙ ap (λ x. x + 2 ^ 32 * number_of 4 (a + 4) heap) (sym (lower_is aligned))
          ∙ ap (λ y. lower + 2 ^ 32 * y) (sym (upper_is aligned))

      low_after : with_word (low d) lower raised (low d) ≡ lower
      low_after = rw (is_self d) refl

      high_after : with_word (low d) lower raised (high d) ≡ upper
      high_after = rw (is_self d) refl

      together_loads : a % 4 ≡ 0 → Loads (run_simples helping (put (high d) (whole (place (low d) (offset + 4))) ∷ put (low d) (whole (place (low d) offset)) ∷ []) words heap)
      together_loads aligned = (
        refl,
        kept_low d lower words raised (kept_high d upper words words (kept_all d words)),
        ap W64
            (parts_are aligned
            ∙ ap (λ y. lower + 2 ^ 32 * y) (sym high_after)
            ∙ ap (λ x. x + 2 ^ 32 * with_word (low d) lower raised (high d)) (sym low_after)),
      )

      both_load : (t : Bool) → (bit_and (value (place (low d) (offset % 4)) words heap) 3 == 0) ≡ t
          → Loads (if t then run_simples helping (put (high d) (whole (place (low d) (offset + 4))) ∷ put (low d) (whole (place (low d) offset)) ∷ []) words heap
          else run_simples helping (ask (low d) names.load_64 (place (low d) offset ∷ []) ∷ put (high d) (read (fixed spare_high)) ∷ []) words heap)
      both_load true is = together_loads (test_says d words heap h (omega (arith, within)) is)
      both_load false is = apart_loads

    pub words_load : CodeLoads helping bytes (access_to true 8 false) offset (λ d. words_code d ∷ [])
    words_load = record {
      asks = λ d. (((refl, (tt, tt)), (tt, (tt, tt))), tt);
      units = words_units;
      runs = λ d words heap h within. both_load d words heap h within (bit_and (value (place (low d) (offset % 4)) words heap) 3 == 0) refl;
    }

    -- ---- each form

    abbrev pub Code : (wide : Bool) → (size : ℕ) → (signed : Bool) → Type 0
    Code wide size signed =
        CodeLoads helping bytes (access_to wide size signed) offset (λ d. load_word (access_to wide size signed) offset (operand_pair d) ++ load_high (access_to wide size signed) (operand_pair d))

    narrow_1 : (signed : Bool) → Code false 1 signed
    narrow_1 signed = narrow_of helping bytes offset 1 (λ d. simply (put (low d) (byte signed (place (low d) offset)))) signed (byte_put signed)

    narrow_2 : (signed : Bool) → Code false 2 signed
    narrow_2 signed = narrow_of helping bytes offset 2 (λ d. simply (put (low d) (half signed (low d) offset))) signed (half_put signed)

    narrow_4 : Code false 4 false
    narrow_4 = narrow_of helping bytes offset 4 word_code false (word_put false)

    wide_1 : (signed : Bool) → Code true 1 signed
    wide_1 false = unsigned_of helping bytes offset 1 (λ d. simply (put (low d) (byte false (place (low d) offset)))) (byte_put false)
    wide_1 true = extended_of helping bytes offset 1 (λ d. simply (put (low d) (byte true (place (low d) offset)))) (byte_put true) wide_8

    wide_2 : (signed : Bool) → Code true 2 signed
    wide_2 false = unsigned_of helping bytes offset 2 (λ d. simply (put (low d) (half false (low d) offset))) (half_put false)
    wide_2 true = extended_of helping bytes offset 2 (λ d. simply (put (low d) (half true (low d) offset))) (half_put true) wide_16

    wide_4 : (signed : Bool) → Code true 4 signed
    wide_4 false = unsigned_of helping bytes offset 4 word_code (word_put false)
    wide_4 true = extended_of helping bytes offset 4 word_code (word_put true) wide_32

    pub code_loads : (wide signed : Bool) (n : ℕ) → is_loaded wide signed n ≡ true → Code wide n signed
    code_loads false false n h = one_of_three (λ n. Code false n false) n (narrow_1 false) (narrow_2 false) narrow_4 (n == 1) (n == 2) (n == 4) refl refl refl h
    code_loads false true n h = one_of_two (λ n. Code false n true) n (narrow_1 true) (narrow_2 true) (n == 1) (n == 2) refl refl h
    code_loads true false n h = one_of_four (λ n. Code true n false) n (wide_1 false) (wide_2 false) (wide_4 false) words_load (n == 1) (n == 2) (n == 4) (n == 8) refl refl refl refl h
    code_loads true true n h = one_of_three (λ n. Code true n true) n (wide_1 true) (wide_2 true) (wide_4 true) (n == 1) (n == 2) (n == 4) refl refl refl h

-- ---- the instruction

module _ (f : Function) (helping : Helping) (supports : Supports f helping) (op : MemOp) (align offset b : ℕ) (below : List ValType) where
  abbrev code : ℕ → List Action
  code d = load_word op offset (operand_pair d) ++ load_high op (operand_pair d)

  abbrev d : ℕ
  d = b + length below

  module _ (words : Words) (heap : List ℕ) (replies : Replies) (events : List EventPlain) where
    abbrev Alike : Option ℕ → Outcome → Type 0
    Alike r o =
        IsAlike f helping b (kind_of op.wide ∷ below) words heap replies events
        (loaded op r (operands b below words) (locals_of f.context.locals words) (store_with f.setting words heap replies events)) o

    from_loaded : (n : ℕ) (o : Outcome) → HasLoaded op d words heap n o → Alike (Some n) o
    from_loaded n (goes after heap') k =
        subst (λ h. Alike (Some n) (goes after h)) (sym k.0) (value_alike f helping b below words after heap replies events k.1 (kind_of op.wide) (loaded_value op n) k.2)
    from_loaded n (stops kind heap') k = absurd k

  pub load_plain : CodeLoads helping f.setting.bytes op offset code → f.context.memory ≡ true → IsPlain f helping (load op align offset) b (I32 ∷ below) (kind_of op.wide ∷ below)
  load_plain loads memory = record {
    types = ap (λ m. after_form (unless m NoMemory (Fixed (I32 ∷ []) (kind_of op.wide ∷ []))) (I32 ∷ below)) memory;
    asks = guarded_asks helping f.setting.bytes op.size offset (low d) (code d) (loads.asks d);
    paid = λ words heap.
        let few = guarded_units helping f.setting.bytes op.size offset (low d) (code d) 1 (loads.units d) words heap in
        let pace = supports.pace in
        omega (arith, few, pace);
    free = λ e words heap. absurd (cc e);
    alike = λ words heap replies events are h.
        let at = words (low d) + offset in
        guarded_run helping f.setting.bytes op.size offset (low d) (code d) words heap (Alike words heap replies events (load_bytes at op.size (take f.setting.bytes heap)))
        (λ past. subst (λ r. Alike words heap replies events r (stops 2 heap)) (sym (loaded_outside f.setting.bytes at op.size heap h past)) (refl, refl))
        (λ within. subst (λ r. Alike words heap replies events r (run_actions helping (code d) words heap)) (sym (loaded_inside f.setting.bytes at op.size heap h within))
        (from_loaded words heap replies events (number_of op.size at heap) (run_actions helping (code d) words heap) (loads.runs d words heap h within)));
  }

load_is_kept : (f : Function) (helping : Helping) (op : MemOp) (align offset b : ℕ) (form : Shape) (takes gives below : List ValType) → Acts form takes gives
    → (f.context.memory ≡ true → IsPlain f helping (load op align offset) b (I32 ∷ below) (kind_of op.wide ∷ below)) → (m : Bool) → f.context.memory ≡ m
    → unless m NoMemory (Fixed (I32 ∷ []) (kind_of op.wide ∷ [])) ≡ Ok form → IsPlain f helping (load op align offset) b (takes ++ below) (gives ++ below)
load_is_kept f helping op align offset b form takes gives below acts h false c is = absurd (cc is)
load_is_kept f helping op align offset b form takes gives below acts h true c is =
    of_fixed (λ takes gives. IsPlain f helping (load op align offset) b (takes ++ below) (gives ++ below)) (I32 ∷ []) (kind_of op.wide ∷ []) takes gives form is acts (h c)

pub loads_are_read : LoadsAreRead
loads_are_read op align offset formed f helping supports readers ls b form takes gives below is acts =
    load_is_kept f helping op align offset b form takes gives below acts
    (load_plain f helping supports op align offset b below (code_loads helping f.setting.bytes offset readers op.wide op.signed op.size formed)) f.context.memory refl is
