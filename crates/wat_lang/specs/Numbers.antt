-- What atoms are: numbers, ids and words (sections 6.3.1, 6.3.2 and 6.3.5). How large a number may be is no part of its form.
use Rattle.std.specs.Prelude.{ℕ, zero, suc, Bool, false, ◌&&◌, ◌||◌, not, List, [], ◌∷◌, length, take, drop, Option, Some, None, option_map, is_none, ℤ, pos, negsuc, codes, bytes_eq, ◌==◌, if◌then◌else◌}
use Rattle.wat_lang.specs.Tokens.{is_digit, is_hexadecimal_digit, value_in}

-- one digit or more, without the single `_` that may stand between two of them
abbrev pub digits_in : (test : ℕ → Bool) → List ℕ → Option (List ℕ)
digits_in test [] = None
digits_in test (d ∷ []) = if test d then Some (d ∷ []) else None
digits_in test (d ∷ c ∷ cs) =
    if test d then option_map (λ ds. d ∷ ds) (if c == 95 then digits_in test cs else digits_in test (c ∷ cs)) else None

abbrev pub begins_text : (text : List ℕ) → List ℕ → Bool
begins_text text bs = bytes_eq (take (length text) bs) text

-- decimal digits, or `0x` and hexadecimal digits
abbrev pub natural_of : List ℕ → Option ℕ
natural_of bs =
    if begins_text (codes "0x") bs then option_map (value_in 16 0) (digits_in is_hexadecimal_digit (drop 2 bs))
    else option_map (value_in 10 0) (digits_in is_digit bs)

abbrev pub minus : ℕ → ℤ
minus zero = pos 0
minus (suc n) = negsuc n

-- an optional sign and a natural number
abbrev pub number_of : List ℕ → Option ℤ
number_of [] = None
number_of (b ∷ bs) =
    if b == 45 then option_map minus (natural_of bs)
    else (if b == 43 then option_map pos (natural_of bs) else option_map pos (natural_of (b ∷ bs)))

-- `$` and more
abbrev pub is_id : List ℕ → Bool
is_id [] = false
is_id (b ∷ []) = false
is_id (b ∷ c ∷ cs) = b == 36

-- each other atom
abbrev pub is_word : List ℕ → Bool
is_word bs = not (is_id bs) && is_none (number_of bs)

-- the number behind `offset=` or `align=`, which is one atom with it (section 6.5.5)
abbrev pub access_of : (key : List ℕ) → List ℕ → Option ℤ
access_of key bs = if begins_text key bs then number_of (drop (length key) bs) else None

-- words of the standard that are no part of the integer profile: floats, and the growth of a memory
abbrev pub is_outside : List ℕ → Bool
is_outside bs = (begins_text (codes "f32") bs || begins_text (codes "f64") bs) || bytes_eq bs (codes "memory.grow")
