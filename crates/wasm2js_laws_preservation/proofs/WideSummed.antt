-- Sums.
use Rattle.std.proofs.Common.{◌≡◌, ℕ, ◌+◌, Bool, true, false, [], ◌∷◌, ◌++◌, length, Ok, refl, sym, ap, ◌∙◌, arith}
use Rattle.std.specs.Prelude.{◌*◌, ◌^◌, nat_lt}
use Rattle.sem_words.specs.declared.word.Bin.TheVariants.{Add}
use Rattle.sem_words.specs.Words.{add_of, bin_of}
use Rattle.wasm_lang.specs.declared.types.ValType.TheVariants.{I64}
use Rattle.wasm_lang.specs.Instructions.{bin64}
use Rattle.wasm2js_laws_numbers.specs.Laws as numbers
use Rattle.wasm2js_laws_numbers.proofs.Carried.{sums_carry}
use Rattle.wasm2js_laws_places.specs.Straight.{Words, with_word, truth}
use Rattle.wasm2js_laws_typed.proofs.SoundPlain.{of_fixed}
use Rattle.wasm2js_laws_preservation.specs.InstructionsPlain.{IsPlain, AreWords, Always}
use Rattle.wasm2js_laws_preservation.proofs.WideKept.{is_self, is_next, low, high, Keeps, kept_all, kept_low, kept_high, two_to_wide}

pub same_truth : (t : Bool) → numbers.truth t ≡ truth t
same_truth true = refl
same_truth false = refl

module _ (d : ℕ) (words : Words) where
  abbrev sum_low : ℕ
  sum_low = add_of 32 (words (low d)) (words (low (d + 1)))

  abbrev with_sum : Words
  with_sum = with_word (low d) sum_low words

  abbrev sum_high : ℕ
  sum_high = add_of 32 (add_of 32 (words (high d)) (words (high (d + 1)))) (truth (nat_lt (with_sum (low d)) (with_sum (low (d + 1)))))

  abbrev summed : Words
  summed = with_word (high d) sum_high with_sum

  low_is : with_sum (low d) ≡ sum_low
  low_is = rw (is_self d) refl

  next_is : with_sum (low (d + 1)) ≡ words (low (d + 1))
  next_is = rw (is_next d) refl

  high_is : summed (high d) ≡ sum_high
  high_is = rw (is_self d) refl

  carried : sum_high ≡ add_of 32 (add_of 32 (words (high d)) (words (high (d + 1)))) (numbers.truth (nat_lt sum_low (words (low (d + 1)))))
  carried =
      ap (λ t. add_of 32 (add_of 32 (words (high d)) (words (high (d + 1)))) (truth (nat_lt t (with_sum (low (d + 1)))))) low_is
      ∙ ap (λ t. add_of 32 (add_of 32 (words (high d)) (words (high (d + 1)))) (truth (nat_lt sum_low t))) next_is
      ∙ ap (λ t. add_of 32 (add_of 32 (words (high d)) (words (high (d + 1)))) t) (sym (same_truth (nat_lt sum_low (words (low (d + 1))))))

  sum_same : AreWords words → add_of 64 (numbers.joined (words (low d)) (words (high d))) (numbers.joined (words (low (d + 1))) (words (high (d + 1))))
      ≡ summed (low d) + 2 ^ 32 * summed (high d)
  sum_same are =
      sums_carry (words (low d)) (words (high d)) (words (low (d + 1))) (words (high (d + 1))) (are (low d)) (are (high d)) (are (low (d + 1))) (are (high (d + 1)))
      ∙ ap (λ y. numbers.joined sum_low y) (sym (high_is ∙ carried))
      ∙ ap (λ x. numbers.joined x (summed (high d))) (sym low_is)

  sum_keeps : Keeps d words summed
  sum_keeps = kept_high d sum_high words with_sum (kept_low d sum_low words words (kept_all d words))

pub sum_is : Always (bin64 Add)
sum_is f helping supports ls b form takes gives below is acts =
    of_fixed (λ takes gives. IsPlain f helping (bin64 Add) b (takes ++ below) (gives ++ below))
    (I64 ∷ I64 ∷ []) (I64 ∷ []) takes gives form is acts
    (record {
      types = refl;
      asks = (tt, (tt, tt));
      paid = λ words heap. omega arith;
      free = λ e words heap. refl;
      alike = λ words heap replies events are is_heap.
          two_to_wide f helping b below words (summed (b + length below) words) heap replies events (sum_keeps (b + length below) words) (bin_of 64 Add) (ap Ok (sum_same (b + length below) words are));
    })
