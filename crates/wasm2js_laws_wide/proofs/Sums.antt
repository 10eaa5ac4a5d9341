-- Sums, differences, and operators that go bit by bit.
use Rattle.std.proofs.Common.{◌≡◌, ℕ, Bool, true, false, Ok, refl, sym, ap, ◌∙◌, arith}
use Rattle.std.specs.Prelude.{nat_lt, bit_and, bit_or, bit_xor}
use Rattle.sem_words.specs.declared.word.Bin.{Bin}
use Rattle.sem_words.specs.declared.word.Bin.TheVariants.{Add, Sub, And, Or, Xor}
use Rattle.sem_words.specs.Words.{add_of, sub_of, bin_of}
use Rattle.wasm2js_translation.specs.Words.{BitOp, conjunction, disjunction, exclusion, simple_statements}
use Rattle.wasm2js_translation.specs.Pairs.{Pair}
use Rattle.wasm2js_translation.specs.Wide.{wide_sum, wide_difference, wide_bits}
use Rattle.wasm2js_translation.specs.Helpers.{wide_helpers}
use Rattle.wasm2js_lang.specs.SplitWords.{wide_at, ComputesBinary}
use Rattle.wasm2js_laws_numbers.specs.Laws as numbers
use Rattle.wasm2js_laws_numbers.specs.Laws.{joined, BitsAreApart}
use Rattle.wasm2js_laws_numbers.proofs.Carried.{sums_carry, differences_borrow}
use Rattle.wasm2js_laws_numbers.proofs.Extended.{conjunctions, disjunctions, exclusions}
use Rattle.wasm2js_laws_places.specs.Straight.{Words, with_word, bits_of, truth}
use Rattle.wasm2js_laws_wide.specs.Laws.{halves}
use Rattle.wasm2js_laws_wide.proofs.Looked.{words_at}
use Rattle.wasm2js_laws_wide.proofs.Standing.{computes}
use Rattle.wasm2js_laws_wide.proofs.Named.{put_here, put_elsewhere, Replaces, replaces, Avoids, avoids, targets, low_among, high_among, is_word, whole_is}

same_truth : (t : Bool) → truth t ≡ numbers.truth t
same_truth true = refl
same_truth false = refl

module _ (a b to : Pair) (free : Replaces to a) (apart : Avoids to b) (w : Words) where
  -- ---- sums: the low word is put first

  abbrev sum_low : ℕ
  sum_low = add_of 32 (w a.low) (w b.low)

  abbrev with_sum : Words
  with_sum = with_word to.low sum_low w

  abbrev carried : (x y low other : ℕ) → ℕ
  carried x y low other = add_of 32 (add_of 32 x y) (truth (nat_lt low other))

  abbrev summed : Words
  summed = with_word to.high (carried (with_sum a.high) (with_sum b.high) (with_sum to.low) (with_sum b.low)) with_sum

  summed_low : summed to.low ≡ sum_low
  summed_low = put_elsewhere to.high to.low _ with_sum free.high_low ∙ put_here to.low sum_low w

  summed_high : summed to.high ≡ add_of 32 (add_of 32 (w a.high) (w b.high)) (numbers.truth (nat_lt sum_low (w b.low)))
  summed_high =
      put_here to.high _ with_sum
      ∙ ap (λ x. carried x (with_sum b.high) (with_sum to.low) (with_sum b.low)) (put_elsewhere to.low a.high sum_low w free.low_first)
      ∙ ap (λ x. carried (w a.high) x (with_sum to.low) (with_sum b.low)) (put_elsewhere to.low b.high sum_low w apart.low_high)
      ∙ ap (λ x. carried (w a.high) (w b.high) x (with_sum b.low)) (put_here to.low sum_low w)
      ∙ ap (λ x. carried (w a.high) (w b.high) sum_low x) (put_elsewhere to.low b.low sum_low w apart.low_low)
      ∙ ap (λ t. add_of 32 (add_of 32 (w a.high) (w b.high)) t) (same_truth (nat_lt sum_low (w b.low)))

  -- ---- differences: the high word is put first

  abbrev difference_low : ℕ
  difference_low = sub_of 32 (w a.low) (w b.low)

  abbrev borrowed : ℕ
  borrowed = sub_of 32 (sub_of 32 (w a.high) (w b.high)) (truth (nat_lt (w a.low) (w b.low)))

  abbrev with_borrowed : Words
  with_borrowed = with_word to.high borrowed w

  abbrev differed : Words
  differed = with_word to.low (sub_of 32 (with_borrowed a.low) (with_borrowed b.low)) with_borrowed

  differed_low : differed to.low ≡ difference_low
  differed_low =
      put_here to.low _ with_borrowed
      ∙ ap (λ x. sub_of 32 x (with_borrowed b.low)) (put_elsewhere to.high a.low borrowed w free.high_first)
      ∙ ap (sub_of 32 (w a.low)) (put_elsewhere to.high b.low borrowed w apart.high_low)

  differed_high : differed to.high ≡ sub_of 32 (sub_of 32 (w a.high) (w b.high)) (numbers.truth (nat_lt (w a.low) (w b.low)))
  differed_high =
      put_elsewhere to.low to.high _ with_borrowed free.low_high ∙ put_here to.high borrowed w
      ∙ ap (λ t. sub_of 32 (sub_of 32 (w a.high) (w b.high)) t) (same_truth (nat_lt (w a.low) (w b.low)))

  -- ---- bit by bit

  module _ (op : ℕ → ℕ → ℕ) where
    abbrev bits_low : Words
    bits_low = with_word to.low (op (w a.low) (w b.low)) w

    abbrev by_bits : Words
    by_bits = with_word to.high (op (bits_low a.high) (bits_low b.high)) bits_low

    by_bits_low : by_bits to.low ≡ op (w a.low) (w b.low)
    by_bits_low = put_elsewhere to.high to.low _ bits_low free.high_low ∙ put_here to.low _ w

    by_bits_high : by_bits to.high ≡ op (w a.high) (w b.high)
    by_bits_high =
        put_here to.high _ bits_low ∙ ap (λ x. op x (bits_low b.high)) (put_elsewhere to.low a.high _ w free.low_first) ∙ ap (op (w a.high)) (put_elsewhere to.low b.high _ w apart.low_high)

module _ (a b to : Pair) where
  pub sum_computes : ComputesBinary wide_helpers (simple_statements (wide_sum a b to)) Add (halves a) (halves b) (halves to)
  sum_computes replace apart =
      computes wide_helpers (targets to) (wide_sum a b to) (λ p q. bin_of 64 Add (wide_at p (halves a)) (wide_at p (halves b)) ≡ Ok (wide_at q (halves to)))
      (λ m f stand bound. ((low_among to, (tt, (tt, tt))), ((high_among to, (tt, (tt, ((tt, tt), tt)))), tt))) (λ w heap. omega arith)
      (λ p q end.
      let free = replaces to a replace in
      let far = avoids to b apart in
      ap Ok (sums_carry (words_at p a.low) (words_at p a.high) (words_at p b.low) (words_at p b.high) (is_word p a.low) (is_word p a.high) (is_word p b.low) (is_word p b.high)
      ∙ sym (whole_is q to (summed a b to free far (words_at p)) _ _ end (summed_low a b to free far (words_at p)) (summed_high a b to free far (words_at p)))))

  pub difference_computes : ComputesBinary wide_helpers (simple_statements (wide_difference a b to)) Sub (halves a) (halves b) (halves to)
  difference_computes replace apart =
      computes wide_helpers (targets to) (wide_difference a b to) (λ p q. bin_of 64 Sub (wide_at p (halves a)) (wide_at p (halves b)) ≡ Ok (wide_at q (halves to)))
      (λ m f stand bound. ((high_among to, (tt, (tt, ((tt, tt), tt)))), ((low_among to, (tt, (tt, tt))), tt))) (λ w heap. omega arith)
      (λ p q end.
      let free = replaces to a replace in
      let far = avoids to b apart in
      ap Ok (differences_borrow (words_at p a.low) (words_at p a.high) (words_at p b.low) (words_at p b.high) (is_word p a.low) (is_word p a.high) (is_word p b.low) (is_word p b.high)
      ∙ sym (whole_is q to (differed a b to free far (words_at p)) _ _ end (differed_low a b to free far (words_at p)) (differed_high a b to free far (words_at p)))))

  module _ (op : Bin) (bit : BitOp) (o : ℕ → ℕ → ℕ) (is : (x y : ℕ) → bits_of bit x y ≡ o x y) (same : (x y : ℕ) → bin_of 64 op x y ≡ Ok (o x y)) (law : BitsAreApart o) where
    bits_compute : ComputesBinary wide_helpers (simple_statements (wide_bits bit a b to)) op (halves a) (halves b) (halves to)
    bits_compute replace apart =
        computes wide_helpers (targets to) (wide_bits bit a b to) (λ p q. bin_of 64 op (wide_at p (halves a)) (wide_at p (halves b)) ≡ Ok (wide_at q (halves to)))
        (λ m f stand bound. ((low_among to, (tt, tt)), ((high_among to, (tt, tt)), tt))) (λ w heap. omega arith)
        (λ p q end.
        let free = replaces to a replace in
        let far = avoids to b apart in
        let low = by_bits_low a b to free far (words_at p) (bits_of bit) ∙ is (words_at p a.low) (words_at p b.low) in
        let high = by_bits_high a b to free far (words_at p) (bits_of bit) ∙ is (words_at p a.high) (words_at p b.high) in
        same (wide_at p (halves a)) (wide_at p (halves b))
        ∙ ap Ok (law (words_at p a.low) (words_at p a.high) (words_at p b.low) (words_at p b.high) (is_word p a.low) (is_word p b.low)
        ∙ sym (whole_is q to (by_bits a b to free far (words_at p) (bits_of bit)) _ _ end low high)))

  pub conjunction_computes : ComputesBinary wide_helpers (simple_statements (wide_bits conjunction a b to)) And (halves a) (halves b) (halves to)
  conjunction_computes = bits_compute And conjunction bit_and (λ x y. refl) (λ x y. refl) conjunctions

  pub disjunction_computes : ComputesBinary wide_helpers (simple_statements (wide_bits disjunction a b to)) Or (halves a) (halves b) (halves to)
  disjunction_computes = bits_compute Or disjunction bit_or (λ x y. refl) (λ x y. refl) disjunctions

  pub exclusion_computes : ComputesBinary wide_helpers (simple_statements (wide_bits exclusion a b to)) Xor (halves a) (halves b) (halves to)
  exclusion_computes = bits_compute Xor exclusion bit_xor (λ x y. refl) (λ x y. refl) exclusions
