-- A script as lines, and a line as words. A list is split at the bytes that pass a test, of which n make n + 1 parts.
use Rattle.std.specs.Prelude.{ℕ, Bool, true, false, ◌||◌, List, [], ◌∷◌, ◌==◌, if◌then◌else◌}
use Rattle.std.specs.List.{slice_split}

-- ---- lines

abbrev pub is_line_feed : ℕ → Bool
is_line_feed b = b == 10

-- without a carriage return at its end
abbrev pub without_return : List ℕ → List ℕ
without_return [] = []
without_return (b ∷ []) = if b == 13 then [] else b ∷ []
without_return (b ∷ c ∷ bs) = b ∷ without_return (c ∷ bs)

-- each but the last was ended by a line feed, before which a carriage return belongs to the end
abbrev pub without_ends : List (List ℕ) → List (List ℕ)
without_ends [] = []
without_ends (last ∷ []) = last ∷ []
without_ends (line ∷ next ∷ lines) = without_return line ∷ without_ends (next ∷ lines)

-- After a line feed at the end of the text an empty line stands, which says nothing.
abbrev pub lines_of : List ℕ → List (List ℕ)
lines_of text = without_ends (slice_split is_line_feed text)

-- ---- words, which are separated by spaces and tabs

abbrev pub is_blank : ℕ → Bool
is_blank b = (b == 32) || (b == 9)

abbrev pub without_empty : List (List ℕ) → List (List ℕ)
without_empty [] = []
without_empty ([] ∷ ps) = without_empty ps
without_empty ((b ∷ bs) ∷ ps) = (b ∷ bs) ∷ without_empty ps

abbrev pub words_of : List ℕ → List (List ℕ)
words_of line = without_empty (slice_split is_blank line)

-- a line that says nothing: it has no word, or its first word begins with `#`
abbrev pub is_passed_over : List (List ℕ) → Bool
is_passed_over [] = true
is_passed_over ([] ∷ ws) = false
is_passed_over ((b ∷ bs) ∷ ws) = b == 35
