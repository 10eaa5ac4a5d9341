-- Comparisons, and the test for zero.
use Rattle.std.proofs.Common.{◌≡◌, ℕ, ◌+◌, Bool, true, false, not, List, [], ◌∷◌, ◌++◌, length, Ok, refl, sym, ap, ◌∙◌, arith}
use Rattle.std.specs.Prelude.{◌==◌, if◌then◌else◌, bit_and}
use Rattle.sem_words.specs.declared.word.Rel.{Rel}
use Rattle.sem_words.specs.declared.word.Rel.TheVariants.{Eq, Ne, LtS, LtU, GtS, GtU, LeS, LeU, GeS, GeU}
use Rattle.sem_words.specs.Words.{rel_of}
use Rattle.wasm_lang.specs.declared.types.ValType.{ValType}
use Rattle.wasm_lang.specs.declared.types.ValType.TheVariants.{I32, I64}
use Rattle.wasm_lang.specs.Instructions.{Plain, rel64, eqz64}
use Rattle.wasm_lang_valid.specs.Typing.{Context, Fixed, plain_shape}
use Rattle.wasm_lang_exec.specs.Plain.{flag}
use Rattle.wasm2js_translation.specs.Pairs.{operand_pair}
use Rattle.wasm2js_translation.specs.Wide.{wide_relation, is_wide_zero}
use Rattle.wasm2js_laws_numbers.specs.Laws.{joined, low_relation}
use Rattle.wasm2js_laws_numbers.proofs.Related.{high_words_decide}
use Rattle.wasm2js_laws_places.specs.Straight.{Words, with_word, truth, value, Helping}
use Rattle.wasm2js_laws_preservation.specs.ControlControl.{Function, under_aims}
use Rattle.wasm2js_laws_preservation.specs.InstructionsPlain.{IsPlain, AreWords, Always}
use Rattle.wasm2js_laws_preservation.proofs.WideKept.{is_self, low, high, kept_all, kept_low, two_to_narrow, one_to_narrow}
use Rattle.wasm2js_laws_typed.proofs.SoundPlain.{of_fixed}

-- an instruction of a fixed shape, by what is shown of it above other operands
pub of_shape : (p : Plain) (ts us : List ValType) → ((c : Context) → plain_shape c p ≡ Ok (Fixed ts us))
    → ((f : Function) (helping : Helping) (b : ℕ) (below : List ValType) → IsPlain f helping p b (ts ++ below) (us ++ below))
    → Always p
of_shape p ts us shape h f helping supports ls b form takes gives below is acts =
    of_fixed (λ takes gives. IsPlain f helping p b (takes ++ below) (gives ++ below))
    ts us takes gives form (sym (shape (under_aims f.context ls)) ∙ is) acts (h f helping b below)

-- ---- truth values

in_order : (s t u : Bool) → flag (if s then t else u) ≡ (if truth s == 0 then truth u else truth t)
in_order true true u = refl
in_order true false u = refl
in_order false t true = refl
in_order false t false = refl

alike_words : (s t : Bool) → flag (if s then t else s) ≡ bit_and (truth t) (truth s)
alike_words true true = refl
alike_words true false = refl
alike_words false true = refl
alike_words false false = refl

other_words : (s t : Bool) → flag (if s then not t else not s) ≡ truth (bit_and (truth t) (truth s) == 0)
other_words true true = refl
other_words true false = refl
other_words false true = refl
other_words false false = refl

put_low : (d x : ℕ) (words : Words) → with_word (low d) x words (low d) ≡ x
put_low d x words = rw (is_self d) refl

module _ (d : ℕ) (words : Words) (heap : List ℕ) where
  abbrev compared : Rel → ℕ
  compared op = value (wide_relation op (operand_pair d) (operand_pair (d + 1))) words heap

  decided : (op : Rel) → flag (if words (high d) == words (high (d + 1)) then rel_of 32 (low_relation op) (words (low d)) (words (low (d + 1))) else rel_of 32 op (words (high d)) (words (high (d + 1)))) ≡ compared op
  decided Eq = alike_words (words (high d) == words (high (d + 1))) (words (low d) == words (low (d + 1)))
  decided Ne = other_words (words (high d) == words (high (d + 1))) (words (low d) == words (low (d + 1)))
  decided LtS = in_order (words (high d) == words (high (d + 1))) (rel_of 32 LtU (words (low d)) (words (low (d + 1)))) (rel_of 32 LtS (words (high d)) (words (high (d + 1))))
  decided LtU = in_order (words (high d) == words (high (d + 1))) (rel_of 32 LtU (words (low d)) (words (low (d + 1)))) (rel_of 32 LtU (words (high d)) (words (high (d + 1))))
  decided GtS = in_order (words (high d) == words (high (d + 1))) (rel_of 32 GtU (words (low d)) (words (low (d + 1)))) (rel_of 32 GtS (words (high d)) (words (high (d + 1))))
  decided GtU = in_order (words (high d) == words (high (d + 1))) (rel_of 32 GtU (words (low d)) (words (low (d + 1)))) (rel_of 32 GtU (words (high d)) (words (high (d + 1))))
  decided LeS = in_order (words (high d) == words (high (d + 1))) (rel_of 32 LeU (words (low d)) (words (low (d + 1)))) (rel_of 32 LeS (words (high d)) (words (high (d + 1))))
  decided LeU = in_order (words (high d) == words (high (d + 1))) (rel_of 32 LeU (words (low d)) (words (low (d + 1)))) (rel_of 32 LeU (words (high d)) (words (high (d + 1))))
  decided GeS = in_order (words (high d) == words (high (d + 1))) (rel_of 32 GeU (words (low d)) (words (low (d + 1)))) (rel_of 32 GeS (words (high d)) (words (high (d + 1))))
  decided GeU = in_order (words (high d) == words (high (d + 1))) (rel_of 32 GeU (words (low d)) (words (low (d + 1)))) (rel_of 32 GeU (words (high d)) (words (high (d + 1))))

  compare_same : AreWords words → (op : Rel) → flag (rel_of 64 op (joined (words (low d)) (words (high d))) (joined (words (low (d + 1))) (words (high (d + 1))))) ≡ with_word (low d) (compared op) words (low d)
  compare_same are op =
      ap flag (high_words_decide op (words (low d)) (words (high d)) (words (low (d + 1))) (words (high (d + 1))) (are (low d)) (are (high d)) (are (low (d + 1))) (are (high (d + 1))))
      ∙ decided op ∙ sym (put_low d (compared op) words)

  abbrev zero : ℕ
  zero = value (is_wide_zero (operand_pair d)) words heap

  zero_same : AreWords words → flag (joined (words (low d)) (words (high d)) == 0) ≡ with_word (low d) zero words (low d)
  zero_same are =
      ap flag (high_words_decide Eq (words (low d)) (words (high d)) 0 0 (are (low d)) (are (high d)) (omega arith) (omega arith))
      ∙ alike_words (words (high d) == 0) (words (low d) == 0) ∙ sym (put_low d zero words)

pub comparison_is : (op : Rel) → Always (rel64 op)
comparison_is op = of_shape (rel64 op) (I64 ∷ I64 ∷ []) (I32 ∷ []) (λ c. refl) (λ f helping b below. record {
  types = refl;
  asks = (tt, tt);
  paid = λ words heap. omega arith;
  free = λ e words heap. refl;
  alike = λ words heap replies events are is_heap.
      two_to_narrow f helping b below words (with_word (low (b + length below)) (compared (b + length below) words heap op) words) heap replies events
      (kept_low (b + length below) (compared (b + length below) words heap op) words words (kept_all (b + length below) words)) (λ x y. Ok (flag (rel_of 64 op x y)))
      (ap Ok (compare_same (b + length below) words heap are op));
})

pub zero_is : Always eqz64
zero_is = of_shape eqz64 (I64 ∷ []) (I32 ∷ []) (λ c. refl) (λ f helping b below. record {
  types = refl;
  asks = (tt, tt);
  paid = λ words heap. omega arith;
  free = λ e words heap. refl;
  alike = λ words heap replies events are is_heap.
      one_to_narrow f helping b below words (with_word (low (b + length below)) (zero (b + length below) words heap) words) heap replies events
      (kept_low (b + length below) (zero (b + length below) words heap) words words (kept_all (b + length below) words)) (λ x. Ok (flag (x == 0)))
      (ap Ok (zero_same (b + length below) words heap are));
})
