-- Differences, and operators that go bit by bit.
use Rattle.std.proofs.Common.{◌≡◌, ℕ, ◌+◌, List, [], ◌∷◌, ◌++◌, length, Ok, refl, sym, ap, ◌∙◌, arith}
use Rattle.std.specs.Prelude.{◌*◌, ◌^◌, nat_lt, bit_and, bit_or, bit_xor}
use Rattle.sem_words.specs.declared.word.Bin.{Bin}
use Rattle.sem_words.specs.declared.word.Bin.TheVariants.{Sub, And, Or, Xor}
use Rattle.sem_words.specs.Words.{sub_of, bin_of}
use Rattle.wasm_lang.specs.declared.types.ValType.{ValType}
use Rattle.wasm_lang.specs.declared.types.ValType.TheVariants.{I64}
use Rattle.wasm_lang.specs.Instructions.{bin64}
use Rattle.wasm2js_laws_numbers.specs.Laws as numbers
use Rattle.wasm2js_laws_numbers.specs.Laws.{BitsAreApart}
use Rattle.wasm2js_laws_numbers.proofs.Carried.{differences_borrow}
use Rattle.wasm2js_laws_numbers.proofs.Extended.{conjunctions, disjunctions, exclusions}
use Rattle.wasm2js_laws_places.specs.Straight.{Words, with_word, truth, Helping}
use Rattle.wasm2js_laws_preservation.specs.ControlControl.{Function}
use Rattle.wasm2js_laws_preservation.specs.InstructionsPlain.{IsPlain, AreWords, Always}
use Rattle.wasm2js_laws_preservation.proofs.WideKept.{is_self, low, high, Keeps, kept_all, kept_low, kept_high, two_to_wide}
use Rattle.wasm2js_laws_typed.proofs.SoundPlain.{of_fixed}
use Rattle.wasm2js_laws_preservation.proofs.WideSummed.{same_truth}

module _ (d : ℕ) (words : Words) where
  -- ---- differences: the high word is put first

  abbrev difference_low : ℕ
  difference_low = sub_of 32 (words (low d)) (words (low (d + 1)))

  abbrev difference_high : ℕ
  difference_high = sub_of 32 (sub_of 32 (words (high d)) (words (high (d + 1)))) (truth (nat_lt (words (low d)) (words (low (d + 1)))))

  abbrev borrowed : Words
  borrowed = with_word (high d) difference_high words

  abbrev differed : Words
  differed = with_word (low d) difference_low borrowed

  differed_low : differed (low d) ≡ difference_low
  differed_low = rw (is_self d) refl

  differed_high : differed (high d) ≡ difference_high
  differed_high = rw (is_self d) refl

  difference_same : AreWords words → sub_of 64 (numbers.joined (words (low d)) (words (high d))) (numbers.joined (words (low (d + 1))) (words (high (d + 1))))
      ≡ differed (low d) + 2 ^ 32 * differed (high d)
  difference_same are =
      differences_borrow (words (low d)) (words (high d)) (words (low (d + 1))) (words (high (d + 1))) (are (low d)) (are (high d)) (are (low (d + 1))) (are (high (d + 1)))
      ∙ ap (λ t. numbers.joined difference_low (sub_of 32 (sub_of 32 (words (high d)) (words (high (d + 1)))) t)) (same_truth (nat_lt (words (low d)) (words (low (d + 1)))))
      ∙ ap (λ y. numbers.joined difference_low y) (sym differed_high)
      ∙ ap (λ x. numbers.joined x (differed (high d))) (sym differed_low)

  difference_keeps : Keeps d words differed
  difference_keeps = kept_low d difference_low words borrowed (kept_high d difference_high words words (kept_all d words))

  -- ---- bit by bit

  module _ (op : ℕ → ℕ → ℕ) where
    abbrev bits_low : ℕ
    bits_low = op (words (low d)) (words (low (d + 1)))

    abbrev bits_high : ℕ
    bits_high = op (words (high d)) (words (high (d + 1)))

    abbrev by_bits : Words
    by_bits = with_word (high d) bits_high (with_word (low d) bits_low words)

    by_bits_low : by_bits (low d) ≡ bits_low
    by_bits_low = rw (is_self d) refl

    by_bits_high : by_bits (high d) ≡ bits_high
    by_bits_high = rw (is_self d) refl

    bits_same : BitsAreApart op → AreWords words → op (numbers.joined (words (low d)) (words (high d))) (numbers.joined (words (low (d + 1))) (words (high (d + 1))))
        ≡ by_bits (low d) + 2 ^ 32 * by_bits (high d)
    bits_same apart are =
        apart (words (low d)) (words (high d)) (words (low (d + 1))) (words (high (d + 1))) (are (low d)) (are (low (d + 1)))
        ∙ ap (λ y. numbers.joined bits_low y) (sym by_bits_high)
        ∙ ap (λ x. numbers.joined x (by_bits (high d))) (sym by_bits_low)

    bits_keep : Keeps d words by_bits
    bits_keep = kept_high d bits_high words (with_word (low d) bits_low words) (kept_low d bits_low words words (kept_all d words))

-- of two operands, by what is shown of them above others
pub of_two : (op : Bin)
    → ((f : Function) (helping : Helping) (b : ℕ) (below : List ValType) → IsPlain f helping (bin64 op) b (I64 ∷ I64 ∷ below) (I64 ∷ below))
    → Always (bin64 op)
of_two op h f helping supports ls b form takes gives below is acts =
    of_fixed (λ takes gives. IsPlain f helping (bin64 op) b (takes ++ below) (gives ++ below))
    (I64 ∷ I64 ∷ []) (I64 ∷ []) takes gives form is acts (h f helping b below)

pub difference_is : Always (bin64 Sub)
difference_is = of_two Sub (λ f helping b below. record {
  types = refl;
  asks = (tt, (tt, tt));
  paid = λ words heap. omega arith;
  free = λ e words heap. refl;
  alike = λ words heap replies events are is_heap.
      two_to_wide f helping b below words (differed (b + length below) words) heap replies events (difference_keeps (b + length below) words) (bin_of 64 Sub) (ap Ok (difference_same (b + length below) words are));
})

pub conjunction_is : Always (bin64 And)
conjunction_is = of_two And (λ f helping b below. record {
  types = refl;
  asks = (tt, (tt, tt));
  paid = λ words heap. omega arith;
  free = λ e words heap. refl;
  alike = λ words heap replies events are is_heap.
      two_to_wide f helping b below words (by_bits (b + length below) words bit_and) heap replies events (bits_keep (b + length below) words bit_and) (bin_of 64 And)
      (ap Ok (bits_same (b + length below) words bit_and conjunctions are));
})

pub disjunction_is : Always (bin64 Or)
disjunction_is = of_two Or (λ f helping b below. record {
  types = refl;
  asks = (tt, (tt, tt));
  paid = λ words heap. omega arith;
  free = λ e words heap. refl;
  alike = λ words heap replies events are is_heap.
      two_to_wide f helping b below words (by_bits (b + length below) words bit_or) heap replies events (bits_keep (b + length below) words bit_or) (bin_of 64 Or)
      (ap Ok (bits_same (b + length below) words bit_or disjunctions are));
})

pub exclusion_is : Always (bin64 Xor)
exclusion_is = of_two Xor (λ f helping b below. record {
  types = refl;
  asks = (tt, (tt, tt));
  paid = λ words heap. omega arith;
  free = λ e words heap. refl;
  alike = λ words heap replies events are is_heap.
      two_to_wide f helping b below words (by_bits (b + length below) words bit_xor) heap replies events (bits_keep (b + length below) words bit_xor) (bin_of 64 Xor)
      (ap Ok (bits_same (b + length below) words bit_xor exclusions are));
})
