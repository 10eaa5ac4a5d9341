-- A table is held against a definition at each of the 256 bytes, by computing.
use Rattle.std.proofs.Common.{◌≡◌, ℕ, ◌<◌, Bool, true, not, ◌==◌, bit_and, get_or, List}
use Rattle.std.proofs.lemmas.Bool.{agree_below, agree_below_at, eqb-true}

abbrev pub has_flag : List ℕ → ℕ → ℕ → Bool
has_flag table flag b = not (bit_and (get_or table b 0) flag == 0)

pub flag_of : (table : List ℕ) (flag : ℕ) (test : ℕ → Bool) (b : ℕ) → b < 256 → agree_below (has_flag table flag) test 256 ≡ true → has_flag table flag b ≡ test b
flag_of table flag test b lt h = agree_below_at (has_flag table flag) test 256 b h lt

abbrev pub is_value : List ℕ → (ℕ → ℕ) → ℕ → Bool
is_value table value b = get_or table b 0 == value b

pub value_of : (table : List ℕ) (value : ℕ → ℕ) (b : ℕ) → b < 256 → agree_below (is_value table value) (λ _. true) 256 ≡ true → get_or table b 0 ≡ value b
value_of table value b lt h = eqb-true (get_or table b 0) (value b) (agree_below_at (is_value table value) (λ _. true) 256 b h lt)
