-- What is left of a text after a cut.
use Rattle.std.specs.Prelude.{ℕ, suc, List, [], ◌∷◌, length, Option, Some, None, option_map}
use Rattle.std.specs.Borrow.{Bor}
use Rattle.script_lang.specs.Lines.{lines_of, words_of}

abbrev pub rest_of : Option (Bor (List ℕ)) → Option (List ℕ)
rest_of = option_map (λ s. s.now)

-- the lines of what is left
abbrev pub lines_after : Option (List ℕ) → List (List ℕ)
lines_after None = []
lines_after (Some text) = lines_of text

-- the words of what is left
abbrev pub words_after : Option (List ℕ) → List (List ℕ)
words_after None = []
words_after (Some text) = words_of text

-- these words, after one where it isn't empty
abbrev pub with_word : List ℕ → List (List ℕ) → List (List ℕ)
with_word [] ws = ws
with_word (b ∷ bs) ws = (b ∷ bs) ∷ ws

-- how many bytes are left, and one where a line or a word is
abbrev pub length_left : Option (List ℕ) → ℕ
length_left None = 0
length_left (Some text) = suc (length text)
