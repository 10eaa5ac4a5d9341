-- Digits, one after the other.
use Rattle.std.proofs.Common.{zero, suc, length, drop, slice_index, lt-ltb, ◌≡◌, ◌∙◌, ◌<◌, ◌≤◌, ◌+◌, ◌*◌, ◌^◌, ℕ, Bool, true, false, cond, refl, ap, arith, List, [], ◌∷◌, Some, None, nat_lt, ◌&&◌, ltb-true}
use Rattle.std.specs.Str.{all_ascii_digits}
use Rattle.std.specs.Str.Parse.{digits_value_after}
use Rattle.std.specs.Char.{is_ascii_digit, digit_value}
use Rattle.std.specs.Prelude.{option_and_then}
use Rattle.std.proofs.lemmas.Bool.{false_from_ne_true}
use Rattle.std.proofs.lemmas.Bool.Decides.{nat_tests}
use Rattle.script_read.specs.Views.{digits_from, with_digit}

-- digits only make a number larger
grows : (n : ℕ) (ds : List ℕ) → n ≤ digits_value_after 10 n ds
grows n [] = omega arith
grows n (d ∷ ds) = let more = grows (n * 10 + digit_value d) ds in omega (arith, more)

never : (a b : Bool) (n : ℕ) → b ≡ false → cond (a && b) (Some n) None ≡ None
never true b n fails = rw fails refl
never false b n fails = refl

pub too_large : (n : ℕ) (ds : List ℕ) → 2 ^ 64 ≤ n → digits_from n ds ≡ None
too_large n ds large =
    let more = grows n ds in
    never (all_ascii_digits ds) (nat_lt (digits_value_after 10 n ds) (2 ^ 64)) (digits_value_after 10 n ds)
    (false_from_ne_true (nat_lt (digits_value_after 10 n ds) (2 ^ 64)) (λ e. let lt = ltb-true (digits_value_after 10 n ds) (2 ^ 64) e in absurd (omega (arith, more, lt))))

step_by : (digit : Bool) (n : ℕ) (ds : List ℕ) (test : Bool) → test ≡ nat_lt n (2 ^ 64)
    → cond ((digit && all_ascii_digits ds) && nat_lt (digits_value_after 10 n ds) (2 ^ 64)) (Some (digits_value_after 10 n ds)) None
    ≡ option_and_then (λ m. digits_from m ds) (cond (digit && test) (Some n) None)
step_by false n ds test e = refl
step_by true n ds true e = refl
step_by true n ds false e = too_large n ds (grind (arith, nat_tests))

pub one_digit : (n d : ℕ) (ds : List ℕ) → digits_from n (d ∷ ds) ≡ option_and_then (λ m. digits_from m ds) (with_digit n d)
one_digit n d ds = step_by (is_ascii_digit d) (n * 10 + digit_value d) ds (nat_lt (n * 10 + digit_value d) (2 ^ 64)) refl

-- ---- at a place of the word

pub stops_at : (word : List ℕ) (i v : ℕ) → i < length word → with_digit v (slice_index word i) ≡ None → digits_from v (drop i word) ≡ None
stops_at [] i v inside none = absurd (omega arith)
stops_at (d ∷ ds) zero v inside none = one_digit v d ds ∙ ap (option_and_then (λ m. digits_from m ds)) none
stops_at (d ∷ ds) (suc i) v inside none = stops_at ds i v (omega arith) none

goes_past : (word : List ℕ) (i v m : ℕ) → i < length word → with_digit v (slice_index word i) ≡ Some m → digits_from v (drop i word) ≡ digits_from m (drop (suc i) word)
goes_past [] i v m inside some = absurd (omega arith)
goes_past (d ∷ ds) zero v m inside some = one_digit v d ds ∙ ap (option_and_then (λ m. digits_from m ds)) some
goes_past (d ∷ ds) (suc i) v m inside some = goes_past ds i v m (omega arith) some

one_on : (i : ℕ) → i + 1 ≡ suc i
one_on i = omega arith

pub goes_on : (word : List ℕ) (i v m : ℕ) → i < length word → with_digit v (slice_index word i) ≡ Some m → digits_from v (drop i word) ≡ digits_from m (drop (i + 1) word)
goes_on word i v m inside some = rw (one_on i) (goes_past word i v m inside some)

pub at_end : (word : List ℕ) (i v : ℕ) → length word ≤ i → v < 2 ^ 64 → digits_from v (drop i word) ≡ Some v
at_end [] zero v past fits = rw (lt-ltb v (2 ^ 64) fits) refl
at_end [] (suc i) v past fits = rw (lt-ltb v (2 ^ 64) fits) refl
at_end (d ∷ ds) zero v past fits = absurd (omega arith)
at_end (d ∷ ds) (suc i) v past fits = at_end ds i v (omega arith) fits
