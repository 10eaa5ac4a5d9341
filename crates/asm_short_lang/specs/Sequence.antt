-- The sequence of names of a short form: the shorter first, and those of one length letter by letter.
use Rattle.std.specs.Prelude.{ℕ, zero, suc, ◌+◌, ◌-◌, ◌/◌, ◌%◌, List, [], ◌∷◌, ◌++◌, length, get_or, map, codes, nat_lt, if◌then◌else◌}
use Rattle.asm_lang.specs.Lexemes.{Entry, reserved_words}
use Rattle.asm_lang_valid.specs.Scope.{is_in}

-- ---- names by their numbers

-- the letters in their order; the first 54 may begin a name
abbrev pub letters : List ℕ
letters = codes "abcdefghijklmnopqrstuvwxyzABCDEFGHIJKLMNOPQRSTUVWXYZ_$0123456789"

abbrev pub letter : ℕ → ℕ
letter d = get_or letters d 0

-- The name of number i: one letter below 54, and else the name of number (i - 54) / 64 with letter (i - 54) % 64 after it.
-- The first argument bounds how many letters stand after the first one.
abbrev pub spelled : (bound : ℕ) → ℕ → List ℕ
spelled zero i = letter i ∷ []
spelled (suc bound) i = let longer : List ℕ = spelled bound ((i - 54) / 64) ++ letter ((i - 54) % 64) ∷ [] in if nat_lt i 54 then letter i ∷ [] else longer

-- all names of letters that don't begin with a digit, each once
abbrev pub numbered : ℕ → List ℕ
numbered i = spelled i i

-- ---- names that are free

-- names that no declaration may have, and `__proto__`, which no short form gives
abbrev pub forbidden : List (List ℕ)
forbidden = map (λ (e : Entry). e.spelling) reserved_words ++ codes "arguments" ∷ codes "eval" ∷ codes "__proto__" ∷ []

-- The first of the numbers i, i + 1, .. whose name isn't among these. As many turns as there are such names are enough,
-- since different numbers have different names.
abbrev pub free_from : List (List ℕ) → (turns : ℕ) → ℕ → ℕ
free_from taken zero i = i
free_from taken (suc turns) i = let later : ℕ = free_from taken turns (i + 1) in if is_in (numbered i) taken then later else i

-- the names of so many numbers from i on that aren't among these
abbrev pub names_from : List (List ℕ) → (count : ℕ) → ℕ → List (List ℕ)
names_from taken zero i = []
names_from taken (suc count) i = let n : ℕ = free_from taken (length taken) i in numbered n ∷ names_from taken count (n + 1)

-- the first names of the sequence that aren't excluded, so many
abbrev pub first_names : (excluded : List (List ℕ)) → (count : ℕ) → List (List ℕ)
first_names excluded count = names_from (forbidden ++ excluded) count 0
