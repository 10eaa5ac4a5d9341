-- Counts of bits, by helpers.
use Rattle.std.proofs.Common.{◌≡◌, ℕ, ◌+◌, ◌<◌, ◌≤◌, false, List, [], ◌∷◌, None, refl, sym, ap, ◌∙◌, arith}
use Rattle.std.specs.Prelude.{◌^◌, ◌%◌, map}
use Rattle.sem_words.specs.JsValues.{to_uint32_of}
use Rattle.sem_words.specs.declared.word.Un.{Un}
use Rattle.sem_words.specs.declared.word.Un.TheVariants.{Clz, Ctz, Popcnt}
use Rattle.sem_words.specs.Words.{add_of, un_of, leading_zeros_of, trailing_zeros_of, set_bits_of}
use Rattle.sem_words.proofs.WordLaws.{un_of-le}
use Rattle.asm_lang.specs.Modules.{Function, Module}
use Rattle.asm_lang_valid.specs.Scope.{a_function, module_meaning}
use Rattle.asm_lang_valid.specs.Typing.{named}
use Rattle.asm_lang_valid.specs.Typed.{scope_of}
use Rattle.asm_lang_exec.specs.Meaning.{call_at}
use Rattle.wasm2js_translation.specs.Names as names
use Rattle.wasm2js_translation.specs.Names.{Name, Fixed}
use Rattle.wasm2js_translation.specs.Words.{read, Simple, put, ask, name_of, simple_statements}
use Rattle.wasm2js_translation.specs.Pairs.{Pair, plus, literal}
use Rattle.wasm2js_translation.specs.Wide.{wide_count, wide_unary}
use Rattle.wasm2js_translation.specs.Helpers.{wide_helpers, leading_zeros_function, trailing_zeros_function, set_bits_function}
use Rattle.wasm2js_lang.specs.SplitWords.{AreHeld, wide_at, ComputesUnary}
use Rattle.wasm2js_laws_numbers.specs.Laws.{joined}
use Rattle.wasm2js_laws_numbers.proofs.Counted.{set_bits}
use Rattle.wasm2js_laws_places.specs.Straight.{Words, with_word, with_high}
use Rattle.wasm2js_laws_helpers.specs.Answers.{length_of}
use Rattle.wasm2js_laws_helpers.specs.Laws.{HasZeros}
use Rattle.wasm2js_laws_helpers.proofs.Zeros.{GivesOne, leading_zeros_give, trailing_zeros_give}
use Rattle.wasm2js_laws_helpers.proofs.Bits.{set_bits_give, few_units}
use Rattle.wasm2js_laws_wide.specs.Laws.{halves}
use Rattle.wasm2js_laws_wide.proofs.Looked.{words_at}
use Rattle.wasm2js_laws_wide.proofs.Steps.{Given, counted_bits, bits_that_are_set, given, Asks}
use Rattle.wasm2js_laws_wide.proofs.Standing.{computes}
use Rattle.wasm2js_laws_wide.proofs.Named.{put_here, put_elsewhere, Replaces, replaces, targets, low_among, high_among, is_word, whole_is, called_as, by_name, asks_two}

-- ---- zeros, which a helper counts in both words

module _ (a to : Pair) (free : Replaces to a) (w : Words) where
  abbrev with_count : Given → Words
  with_count g = with_word to.low g.word (with_high g.high w)

  abbrev number_put : Given → Words
  number_put g = with_word to.high 0 (with_count g)

  abbrev one_of : ℕ → Given
  one_of n = record { word = n; high = None; units = 1 }

  number_low : (n : ℕ) → number_put (one_of n) to.low ≡ n
  number_low n = put_elsewhere to.high to.low 0 (with_count (one_of n)) free.high_low ∙ put_here to.low n w

  number_high : (n : ℕ) → number_put (one_of n) to.high ≡ 0
  number_high n = put_here to.high 0 (with_count (one_of n))

no_high : (n : ℕ) → joined n 0 ≡ n
no_high n = omega arith

module _ (op : Un) (helper : Fixed) (g : Function) (o : ℕ → ℕ → ℕ) (is : (xs : List ℕ) → given helper xs ≡ counted_bits o xs) (gives : (m : Module) → HasZeros m → GivesOne m g o)
    (held : (m : Module) → AreHeld m wide_helpers → module_meaning m (name_of helper) ≡ a_function g) (same : (n : ℕ) → o 64 n ≡ un_of 64 op n) (a to : Pair) where
  cheap : (w : Words) (heap : List ℕ) → (given helper (w a.low ∷ w a.high ∷ [])).units + (0 + 0) ≤ 256
  cheap w heap = let e : (given helper (w a.low ∷ w a.high ∷ [])).units ≡ 1 = ap (λ (g : Given). g.units) (is (w a.low ∷ w a.high ∷ [])) in omega (arith, e)

  count_computes : ComputesUnary wide_helpers (simple_statements (wide_count helper a to)) op (halves a) (halves to)
  count_computes replace =
      computes wide_helpers (targets to) (wide_count helper a to) (λ p q. wide_at q (halves to) ≡ un_of 64 op (wide_at p (halves a)))
      (λ m f stand bound.
      ((low_among to, (tt, (tt, tt)), asks_two m f (targets to) bound bound g helper (called_as m f stand.around to.low helper (read a.low ∷ read a.high ∷ []) (put to.high (literal 0) ∷ []) g stand.typed (held m stand.held)) o is (gives m stand.zeros)), ((high_among to, tt), tt)))
      cheap
      (λ p q end.
      let w : Words = words_at p in
      let free = replaces to a replace in
      let xs : List ℕ = w a.low ∷ w a.high ∷ [] in
      let n : ℕ = o 64 (wide_at p (halves a)) in
      whole_is q to (number_put a to free w (one_of a to free w n)) n 0 (λ k. end k ∙ ap (λ g. number_put a to free w g k) (is xs)) (number_low a to free w n) (number_high a to free w n)
      ∙ no_high n ∙ same (wide_at p (halves a)))

-- ---- set bits, word by word

module _ (a to : Pair) (free : Replaces to a) (w : Words) where
  abbrev low_set : ℕ
  low_set = set_bits_of 32 (w a.low)

  abbrev first_set : Words
  first_set = with_word to.low low_set w

  abbrev both_set : Words
  both_set = with_word to.high (set_bits_of 32 (first_set a.high)) first_set

  abbrev all_set : Words
  all_set = with_word to.high 0 (with_word to.low (add_of 32 (both_set to.low) (both_set to.high)) both_set)

  both_low : both_set to.low ≡ low_set
  both_low = put_elsewhere to.high to.low _ first_set free.high_low ∙ put_here to.low low_set w

  both_high : both_set to.high ≡ set_bits_of 32 (w a.high)
  both_high = put_here to.high _ first_set ∙ ap (set_bits_of 32) (put_elsewhere to.low a.high low_set w free.low_first)

  few_words : (x y : ℕ) → x ≤ 32 → y ≤ 32 → (x + y) % 2 ^ 32 ≡ x + y
  few_words x y h k = omega (arith, h, k)

  all_low : w a.low < 2 ^ 32 → w a.high < 2 ^ 32 → all_set to.low ≡ set_bits_of 64 (joined (w a.low) (w a.high))
  all_low h k =
      put_elsewhere to.high to.low 0 (with_word to.low (add_of 32 (both_set to.low) (both_set to.high)) both_set) free.high_low
      ∙ put_here to.low _ both_set
      ∙ ap (λ x. add_of 32 x (both_set to.high)) both_low ∙ ap (add_of 32 low_set) both_high
      ∙ few_words low_set (set_bits_of 32 (w a.high)) (un_of-le 32 Popcnt (w a.low) h) (un_of-le 32 Popcnt (w a.high) k)
      ∙ sym (set_bits (w a.low) (w a.high) h)

  all_high : all_set to.high ≡ 0
  all_high = put_here to.high 0 (with_word to.low (add_of 32 (both_set to.low) (both_set to.high)) both_set)

module _ (m : Module) (f : Function) (targets : List (List ℕ)) (bound : ℕ) (known : named (scope_of m f) (name_of names.set_bits) ≡ a_function set_bits_function) where
  asks_one : Asks targets (call_at false m bound) (scope_of m f) bound bound names.set_bits 1
  asks_one [] p long le = absurd (omega (arith, long))
  asks_one (v ∷ []) p long le = by_name m f targets bound bound set_bits_function names.set_bits known (v ∷ []) p (bits_that_are_set (map to_uint32_of (v ∷ []))) refl (set_bits_give m bound v p le)
  asks_one (v ∷ w ∷ more) p long le = absurd (omega (arith, long))

-- what comes after the first call
abbrev others : (a to : Pair) → List Simple
others a to = ask to.high names.set_bits (read a.high ∷ []) ∷ put to.low (plus (read to.low) (read to.high)) ∷ put to.high (literal 0) ∷ []

module _ (a to : Pair) where
  pub leading_compute : ComputesUnary wide_helpers (simple_statements (wide_count names.leading_zeros a to)) Clz (halves a) (halves to)
  leading_compute = count_computes Clz names.leading_zeros leading_zeros_function leading_zeros_of (λ xs. refl) leading_zeros_give (λ m h. h.1.1.1.1.0) (λ n. refl) a to

  pub trailing_compute : ComputesUnary wide_helpers (simple_statements (wide_count names.trailing_zeros a to)) Ctz (halves a) (halves to)
  trailing_compute = count_computes Ctz names.trailing_zeros trailing_zeros_function trailing_zeros_of (λ xs. refl) trailing_zeros_give (λ m h. h.1.1.1.1.1.0) (λ n. refl) a to

  set_cheap : (x y : ℕ) → (2 + length_of 32 x) + ((2 + length_of 32 y) + (0 + (0 + 0))) ≤ 256
  set_cheap x y = let h = few_units x in let k = few_units y in omega (arith, h, k)

  pub set_bits_compute : ComputesUnary wide_helpers (simple_statements (wide_unary Popcnt a to)) Popcnt (halves a) (halves to)
  set_bits_compute replace =
      computes wide_helpers (targets to) (wide_unary Popcnt a to) (λ p q. wide_at q (halves to) ≡ un_of 64 Popcnt (wide_at p (halves a)))
      (λ m f stand bound.
      let known = called_as m f stand.around to.low names.set_bits (read a.low ∷ []) (others a to) set_bits_function stand.typed stand.held.1.1.1.1.1.1.0 in
      ((low_among to, (tt, tt), asks_one m f (targets to) bound known), ((high_among to, (tt, tt), asks_one m f (targets to) bound known), ((low_among to, (tt, (tt, tt))), ((high_among to, tt), tt)))))
      (λ w heap. set_cheap (w a.low) (first_set_high w))
      (λ p q end.
      let w : Words = words_at p in
      let free = replaces to a replace in
      whole_is q to (all_set a to free w) (set_bits_of 64 (wide_at p (halves a))) 0 end (all_low a to free w (is_word p a.low) (is_word p a.high)) (all_high a to free w) ∙ no_high (set_bits_of 64 (wide_at p (halves a))))
    where
      first_set_high : Words → ℕ
      first_set_high w = with_word to.low (set_bits_of 32 (w a.low)) w a.high
