-- Shifts and rotations, by a helper that takes both words and a count.
use Rattle.std.proofs.Common.{◌≡◌, ℕ, ◌+◌, ◌<◌, ◌≤◌, List, [], ◌∷◌, Some, Ok, refl, sym, ap, ◌∙◌, arith}
use Rattle.std.specs.Prelude.{◌*◌, ◌^◌, ◌%◌, ◌/◌, ◌-◌}
use Rattle.std.specs.Int.{int_shr}
use Rattle.sem_words.specs.declared.word.Bin.{Bin}
use Rattle.sem_words.specs.declared.word.Bin.TheVariants.{Shl, ShrS, ShrU, Rotl, Rotr}
use Rattle.sem_words.specs.Words.{sub_of, shl_of, shr_s_of, shr_u_of, rotl_of, bin_of, word_of, signed_of}
use Rattle.session_lang.specs.Imports.{low_word, high_word}
use Rattle.asm_lang.specs.Modules.{Function, Module}
use Rattle.asm_lang_valid.specs.Scope.{a_function, module_meaning}
use Rattle.asm_lang_exec.specs.Runs.{Place}
use Rattle.wasm2js_translation.specs.Names as names
use Rattle.wasm2js_translation.specs.Names.{Name, Fixed, fixed, spare_high}
use Rattle.wasm2js_translation.specs.Words.{Term, read, put, name_of, simple_statements}
use Rattle.wasm2js_translation.specs.Pairs.{Pair, minus, literal}
use Rattle.wasm2js_translation.specs.Wide.{wide_turn}
use Rattle.wasm2js_translation.specs.Helpers.{wide_helpers, shift_left_function, shift_right_signed_function, shift_right_function, rotate_left_function}
use Rattle.wasm2js_lang.specs.SplitWords.{AreHeld, wide_at, ComputesBinary}
use Rattle.wasm2js_laws_numbers.specs.Laws.{joined}
use Rattle.wasm2js_laws_numbers.proofs.Shifted.{rotations_right}
use Rattle.wasm2js_laws_places.specs.Straight.{Words, with_word, with_high, value}
use Rattle.wasm2js_laws_helpers.proofs.Turned.{GivesTwo, shift_left_gives, shift_right_signed_gives, shift_right_gives}
use Rattle.wasm2js_laws_helpers.proofs.Rotated.{rotate_left_gives}
use Rattle.wasm2js_laws_wide.specs.Laws.{halves}
use Rattle.wasm2js_laws_wide.proofs.Looked.{words_at}
use Rattle.wasm2js_laws_wide.proofs.Steps.{IsEasy, Given, turned_words, given}
use Rattle.wasm2js_laws_wide.proofs.Standing.{computes}
use Rattle.wasm2js_laws_wide.proofs.Named.{put_here, put_elsewhere, Replaces, replaces, targets, low_among, high_among, is_word, whole_is, called_as, asks_three}

-- ---- the words where a helper has left a high word

module _ (a to : Pair) (free : Replaces to a) (w : Words) where
  abbrev with_low : Given → Words
  with_low g = with_word to.low g.word (with_high g.high w)

  abbrev taken : Given → Words
  taken g = with_word to.high (with_low g (fixed spare_high)) (with_low g)

  abbrev two_of : ℕ → Given
  two_of n = record { word = low_word n; high = Some (high_word n); units = 1 }

  taken_low : (n : ℕ) → taken (two_of n) to.low ≡ low_word n
  taken_low n = put_elsewhere to.high to.low _ (with_low (two_of n)) free.high_low ∙ put_here to.low (low_word n) (with_high (Some (high_word n)) w)

  taken_high : (n : ℕ) → taken (two_of n) to.high ≡ high_word n
  taken_high n =
      put_here to.high _ (with_low (two_of n)) ∙ put_elsewhere to.low (fixed spare_high) (low_word n) (with_high (Some (high_word n)) w) free.low_spare ∙ put_here (fixed spare_high) (high_word n) w

both_halves : (n : ℕ) → n ≡ joined (low_word n) (high_word n)
both_halves n = omega arith

module _ (op : Bin) (helper : Fixed) (g : Function) (o : ℕ → ℕ → ℕ → ℕ) (is : (xs : List ℕ) → given helper xs ≡ turned_words o xs) (gives : (m : Module) → GivesTwo m g o)
    (held : (m : Module) → AreHeld m wide_helpers → module_meaning m (name_of helper) ≡ a_function g) (a b to : Pair) (count : Term) (easy : IsEasy count)
    (same : (p : Place) → bin_of 64 op (wide_at p (halves a)) (wide_at p (halves b)) ≡ Ok (o 64 (wide_at p (halves a)) (value count (words_at p) p.heap))) where
  cheap : (w : Words) (heap : List ℕ) → (given helper (w a.low ∷ w a.high ∷ value count w heap ∷ [])).units + (0 + 0) ≤ 256
  cheap w heap = let e : (given helper (w a.low ∷ w a.high ∷ value count w heap ∷ [])).units ≡ 1 = ap (λ (g : Given). g.units) (is (w a.low ∷ w a.high ∷ value count w heap ∷ [])) in omega (arith, e)

  pub turn_computes : ComputesBinary wide_helpers (simple_statements (wide_turn helper a to count)) op (halves a) (halves b) (halves to)
  turn_computes replace apart =
      computes wide_helpers (targets to) (wide_turn helper a to count) (λ p q. bin_of 64 op (wide_at p (halves a)) (wide_at p (halves b)) ≡ Ok (wide_at q (halves to)))
      (λ m f stand bound.
      ((low_among to, (tt, (tt, (easy, tt))), asks_three m f (targets to) bound bound g helper (called_as m f stand.around to.low helper (read a.low ∷ read a.high ∷ count ∷ []) (put to.high (read (fixed spare_high)) ∷ []) g stand.typed (held m stand.held)) o is (gives m)), ((high_among to, tt), tt)))
      cheap
      (λ p q end.
      let w : Words = words_at p in
      let free = replaces to a replace in
      let xs : List ℕ = w a.low ∷ w a.high ∷ value count w p.heap ∷ [] in
      let n : ℕ = o 64 (wide_at p (halves a)) (value count w p.heap) in
      same p
      ∙ ap Ok (both_halves n
      ∙ sym (whole_is q to (taken a to free w (two_of a to free w n)) (low_word n) (high_word n) (λ k. end k ∙ ap (λ g. taken a to free w g k) (is xs)) (taken_low a to free w n) (taken_high a to free w n))))

-- ---- a count of which only the low word matters

low_count : (n more : ℕ) → joined n more % 64 ≡ n % 64
low_count n more = omega arith

is_wide : (a x : ℕ) → a < 2 ^ 32 → x < 2 ^ 32 → joined a x < 2 ^ 64
is_wide a x h k = omega (arith, h, k)

no_high : (n : ℕ) → joined n 0 ≡ n
no_high n = omega arith

module _ (a b to : Pair) where
  abbrev first_at : Place → ℕ
  first_at p = wide_at p (halves a)

  pub shift_left_computes : ComputesBinary wide_helpers (simple_statements (wide_turn names.shift_left a to (read b.low))) Shl (halves a) (halves b) (halves to)
  shift_left_computes =
      turn_computes Shl names.shift_left shift_left_function shl_of (λ xs. refl) shift_left_gives (λ m h. h.0) a b to (read b.low) tt
      (λ p. ap (λ k. Ok (first_at p * 2 ^ k % 2 ^ 64)) (low_count (words_at p b.low) (words_at p b.high)))

  pub shift_right_signed_computes : ComputesBinary wide_helpers (simple_statements (wide_turn names.shift_right_signed a to (read b.low))) ShrS (halves a) (halves b) (halves to)
  shift_right_signed_computes =
      turn_computes ShrS names.shift_right_signed shift_right_signed_function shr_s_of (λ xs. refl) shift_right_signed_gives (λ m h. h.1.0) a b to (read b.low) tt
      (λ p. ap (λ k. Ok (word_of 64 (int_shr (signed_of 64 (first_at p)) k))) (low_count (words_at p b.low) (words_at p b.high)))

  pub shift_right_computes : ComputesBinary wide_helpers (simple_statements (wide_turn names.shift_right a to (read b.low))) ShrU (halves a) (halves b) (halves to)
  shift_right_computes =
      turn_computes ShrU names.shift_right shift_right_function shr_u_of (λ xs. refl) shift_right_gives (λ m h. h.1.1.0) a b to (read b.low) tt
      (λ p. ap (λ k. Ok (first_at p / 2 ^ k)) (low_count (words_at p b.low) (words_at p b.high)))

  pub rotation_left_computes : ComputesBinary wide_helpers (simple_statements (wide_turn names.rotate_left a to (read b.low))) Rotl (halves a) (halves b) (halves to)
  rotation_left_computes =
      turn_computes Rotl names.rotate_left rotate_left_function rotl_of (λ xs. refl) rotate_left_gives (λ m h. h.1.1.1.0) a b to (read b.low) tt
      (λ p. ap (λ k. Ok (first_at p * 2 ^ k % 2 ^ 64 + first_at p / 2 ^ (64 - k))) (low_count (words_at p b.low) (words_at p b.high)))

  -- to the left by what is left to a whole turn
  pub rotation_right_computes : ComputesBinary wide_helpers (simple_statements (wide_turn names.rotate_left a to (minus (literal 0) (read b.low)))) Rotr (halves a) (halves b) (halves to)
  rotation_right_computes =
      turn_computes Rotr names.rotate_left rotate_left_function rotl_of (λ xs. refl) rotate_left_gives (λ m h. h.1.1.1.0) a b to (minus (literal 0) (read b.low)) (tt, (tt, tt))
      (λ p.
      let n : ℕ = words_at p b.low in
      ap Ok (rotations_right (first_at p) n (words_at p b.high) 0 (is_wide (words_at p a.low) (words_at p a.high) (is_word p a.low) (is_word p a.high)) (is_word p b.low)
      ∙ ap (rotl_of 64 (first_at p)) (no_high (sub_of 32 0 n))))
