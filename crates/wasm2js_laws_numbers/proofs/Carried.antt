-- Sums and differences of words of 64 bits.
use Rattle.std.proofs.Common.{◌≡◌, Bool, true, false, refl, arith}
use Rattle.std.specs.Prelude.{nat_lt}
use Rattle.std.proofs.lemmas.Bool.Decides.{nat_tests}
use Rattle.sem_words.specs.Words.{add_of, sub_of}
use Rattle.wasm2js_laws_numbers.specs.Laws.{joined, truth, SumsCarry, DifferencesBorrow}

pub sums_carry : SumsCarry
sums_carry a x b y p q r s = by (nat_lt (add_of 32 a b) b) refl
  where
    by : (t : Bool) → nat_lt (add_of 32 a b) b ≡ t → add_of 64 (joined a x) (joined b y) ≡ joined (add_of 32 a b) (add_of 32 (add_of 32 x y) (truth t))
    by true h = grind (arith, nat_tests)
    by false h = grind (arith, nat_tests)

pub differences_borrow : DifferencesBorrow
differences_borrow a x b y p q r s = by (nat_lt a b) refl
  where
    by : (t : Bool) → nat_lt a b ≡ t → sub_of 64 (joined a x) (joined b y) ≡ joined (sub_of 32 a b) (sub_of 32 (sub_of 32 x y) (truth t))
    by true h = grind (arith, nat_tests)
    by false h = grind (arith, nat_tests)
