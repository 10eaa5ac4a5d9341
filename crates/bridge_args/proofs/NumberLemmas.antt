-- What the readers of numbers cite.
use Rattle.std.proofs.Common.{◌≡◌, ◌≢◌, ◌∙◌, ◌<◌, ◌≤◌, ◌^◌, ◌%◌, ℕ, Bool, true, false, refl, sym, ap, arith, [], ◌∷◌, length, get_or, Option, Some, None, Result, Ok, Err, cond, nat_lt, ◌==◌, eqb-true, lt-ltb, ltb-true, true≢false}
use Rattle.std.specs.Str.{all_ascii_digits}
use Rattle.std.specs.Str.Parse.{ParsesUnsigned, digits_value}
use Rattle.std.specs.Result.{OkIff, result_ok}
use Rattle.std.proofs.lemmas.Grind.{common_steps}
use Rattle.std.proofs.lemmas.Str.Parse.{IsNumeralModel, numerals_by_value, parse_plain, tells_all_ascii_digits}
use Rattle.std.proofs.lemmas.Bool.{false_from_ne_true}
use Rattle.clap.specs.Walk.{Text, is_empty}
use Rattle.bridge_lang.specs.Number.{is_gen_count, is_heap, is_steps, kept, number_of}

abbrev fits : ℕ → Bool
fits n = nat_lt n (2 ^ 32)

pub kept_some : (p q : ℕ → Bool) (found : Option ℕ) (n : ℕ) → Some n ≡ kept q found → p n ≡ true → Some n ≡ kept p found
kept_some p q None n e h = cc
kept_some p q (Some m) n e h = grind arith

pub kept_not : (p q : ℕ → Bool) (found : Option ℕ) (n : ℕ) → Some n ≡ kept q found → p n ≡ false → None ≡ kept p found
kept_not p q None n e h = cc
kept_not p q (Some m) n e h = grind arith

kept_case : (a b : Bool) (m : ℕ) → (a ≡ true → b ≡ true) → None ≡ cond b (Some m) None → None ≡ cond a (Some m) None
kept_case false b m below e = refl
kept_case true true m below e = cc
kept_case true false m below e = let bad : false ≡ true = below refl in cc

-- a number that does not fit fails the test
pub kept_none : (p q : ℕ → Bool) → ((n : ℕ) → p n ≡ true → q n ≡ true) → (found : Option ℕ) → None ≡ kept q found → None ≡ kept p found
kept_none p q below None e = refl
kept_none p q below (Some m) e = kept_case (p m) (q m) m (below m) e

pub heap_fits : (n : ℕ) → is_heap n ≡ true → nat_lt n (2 ^ 32) ≡ true
unfolding is_heap
heap_fits n h = grind arith

-- a heap is whole words of 32 bits, at most 256 MiB
pub heap_words : (n : ℕ) → is_heap n ≡ true → (n % 4 ≡ 0) × (n ≤ 2 ^ 28)
unfolding is_heap
heap_words n h = (grind arith, grind arith)

-- the length where none is given
pub absent_heap : is_heap 65536 ≡ true
unfolding is_heap
absent_heap = refl

pub no_heap : (found : Option ℕ) → None ≡ kept (λ n. nat_lt n (2 ^ 32)) found → None ≡ kept is_heap found
no_heap found e = kept_none is_heap (λ n. nat_lt n (2 ^ 32)) heap_fits found e

pub steps_fits : (n : ℕ) → is_steps n ≡ true → nat_lt n (2 ^ 32) ≡ true
unfolding is_steps
steps_fits n h = grind arith

pub no_steps : (found : Option ℕ) → None ≡ kept (λ n. nat_lt n (2 ^ 32)) found → None ≡ kept is_steps found
no_steps found e = kept_none is_steps (λ n. nat_lt n (2 ^ 32)) steps_fits found e

pub gen_count_fits : (n : ℕ) → is_gen_count n ≡ true → nat_lt n (2 ^ 32) ≡ true
unfolding is_gen_count
gen_count_fits n h = grind arith

pub gen_count_few : (n : ℕ) → is_gen_count n ≡ true → (1 ≤ n) × (n ≤ 10000)
unfolding is_gen_count
gen_count_few n h = (grind arith, grind arith)

pub no_gen_count : (found : Option ℕ) → None ≡ kept (λ n. nat_lt n (2 ^ 32)) found → None ≡ kept is_gen_count found
no_gen_count found e = kept_none is_gen_count (λ n. nat_lt n (2 ^ 32)) gen_count_fits found e

own : IsNumeralModel (λ ds. all_ascii_digits ds ≡ true) (digits_value 10)
own = numerals_by_value _ tells_all_ascii_digits

-- `number`, at an empty text, after a `0` and elsewhere
pub empty_number : (bs : Text) → length bs ≡ 0 → None ≡ kept (λ n. nat_lt n (2 ^ 32)) (number_of bs)
unfolding number_of
empty_number [] e = refl
empty_number (x ∷ xs) e = absurd (omega arith)

pub zero_number : (bs : Text) → get_or bs 0 0 ≡ 48 → length bs ≡ 1 → Some 0 ≡ kept (λ n. nat_lt n (2 ^ 32)) (number_of bs)
unfolding number_of
zero_number [] e one = absurd (omega arith)
zero_number (x ∷ []) e one = rw e refl
zero_number (x ∷ (y ∷ ys)) e one = absurd (omega arith)

pub no_number_after_zero : (bs : Text) → get_or bs 0 0 ≡ 48 → length bs ≢ 1 → 0 < length bs → None ≡ kept (λ n. nat_lt n (2 ^ 32)) (number_of bs)
unfolding number_of
no_number_after_zero [] e some more = absurd (omega arith)
no_number_after_zero (x ∷ []) e some more = absurd (some refl)
no_number_after_zero (x ∷ (y ∷ ys)) e some more = rw e (grind (arith, common_steps))

pub no_number_after_plus : (bs : Text) → get_or bs 0 0 ≡ 43 → None ≡ kept (λ n. nat_lt n (2 ^ 32)) (number_of bs)
unfolding number_of
no_number_after_plus [] e = absurd (omega arith)
no_number_after_plus (x ∷ xs) e = rw e refl

-- past a first digit that is not 0
plain : (x : ℕ) (xs : Text) → x ≢ 48 → cond (all_ascii_digits (x ∷ xs)) (Some (digits_value 10 (x ∷ xs))) None ≡ number_of (x ∷ xs)
unfolding number_of
plain x xs other = ap (λ (b : Bool). cond (cond b (is_empty xs) (all_ascii_digits (x ∷ xs))) (Some (digits_value 10 (x ∷ xs))) None)
    (sym (false_from_ne_true (x == 48) (λ e. other (eqb-true x 48 e))))

some_kept : (b : Bool) (v : ℕ) → b ≡ true → v < 2 ^ 32 → Some v ≡ kept (λ n. nat_lt n (2 ^ 32)) (cond b (Some v) None)
some_kept false v all below = absurd (true≢false (sym all))
some_kept true v all below = rw (lt-ltb v (2 ^ 32) below) refl

none_kept : (b : Bool) (v : ℕ) → (b ≡ true → v < 2 ^ 32 → ⊥) → None ≡ kept (λ n. nat_lt n (2 ^ 32)) (cond b (Some v) None)
none_kept false v never = refl
none_kept true v never = rw (false_from_ne_true (nat_lt v (2 ^ 32)) (λ e. never refl (ltb-true v (2 ^ 32) e))) refl

parsed : {E : Type 0} (bs : Text) (r : Result ℕ E) → OkIff r ((all_ascii_digits bs ≡ true) × (0 < length bs) × (digits_value 10 bs < 2 ^ 32)) (digits_value 10 bs)
    → get_or bs 0 0 ≢ 48 → 0 < length bs → result_ok r ≡ kept (λ n. nat_lt n (2 ^ 32)) (number_of bs)
unfolding number_of
parsed [] r h other some = absurd (omega arith)
parsed (x ∷ xs) (Ok v) h other some =
    ap Some h.1 ∙ some_kept (all_ascii_digits (x ∷ xs)) (digits_value 10 (x ∷ xs)) h.0.0 h.0.2 ∙ ap (kept (λ n. nat_lt n (2 ^ 32))) (plain x xs other)
parsed (x ∷ xs) (Err e) h other some =
    none_kept (all_ascii_digits (x ∷ xs)) (digits_value 10 (x ∷ xs)) (λ all below. h (all, some, below)) ∙ ap (kept (λ n. nat_lt n (2 ^ 32))) (plain x xs other)

pub number_parsed : {E : Type 0} (bs : Text) (r : Result ℕ E) → ParsesUnsigned 32 10 bs r → get_or bs 0 0 ≢ 48 → get_or bs 0 0 ≢ 43 → 0 < length bs
    → result_ok r ≡ kept (λ n. nat_lt n (2 ^ 32)) (number_of bs)
number_parsed bs r h other no_plus some = parsed bs r (parse_plain own 32 bs r h no_plus) other some

pub ruleset number_lemmas = (empty_number, zero_number, no_number_after_zero, no_number_after_plus, number_parsed)
