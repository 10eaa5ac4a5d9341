-- Names of the sequence, as the checker computes them.
use Rattle.std.specs.Prelude.{◌≡◌, [], ◌∷◌, length, codes, refl}
use Rattle.asm_short_lang.specs.Sequence.{numbered, forbidden, free_from, first_names}

first_name : numbered 0 ≡ codes "a"
first_name = refl

last_of_one_letter : numbered 53 ≡ codes "$"
last_of_one_letter = refl

first_of_two_letters : numbered 54 ≡ codes "aa"
first_of_two_letters = refl

last_of_two_letters : numbered 3509 ≡ codes "$9"
last_of_two_letters = refl

first_of_three_letters : numbered 3510 ≡ codes "aaa"
first_of_three_letters = refl

-- `do` is name 260, and no name of a declaration
reserved_words_are_left_out : free_from forbidden (length forbidden) 260 ≡ 261
reserved_words_are_left_out = refl

after_do : numbered 261 ≡ codes "dp"
after_do = refl

first_three : first_names [] 3 ≡ codes "a" ∷ codes "b" ∷ codes "c" ∷ []
first_three = refl

without_excluded : first_names (codes "b" ∷ codes "x" ∷ codes "a" ∷ []) 2 ≡ codes "c" ∷ codes "d" ∷ []
without_excluded = refl
