-- A list, cut at the first byte that passes a test.
use Rattle.std.proofs.Common.{◌≡◌, ◌≢◌, ◌∙◌, ◌<◌, ◌≤◌, ℕ, zero, suc, Bool, true, false, cond, refl, ap, arith, List, [], ◌∷◌, length, take, drop, slice_index, ◌-◌, ◌+◌, ◌==◌, eqb-true}
use Rattle.std.specs.List.{slice_split, onto_first}
use Rattle.std.proofs.lemmas.Bool.{false_from_ne_true}
use Rattle.std.proofs.lemmas.List.{take_all, length-drop}
use Rattle.memchr.specs.Find.{Nowhere, NoneBefore, Passes}
use Rattle.script_lang.specs.Lines.{is_line_feed, is_blank, without_return, without_ends, without_empty, lines_of, words_of}
use Rattle.script_read.specs.Cuts.{with_word}

-- no byte passes before the place
abbrev pub NoneBelow : (ℕ → Bool) → List ℕ → ℕ → Type 0
NoneBelow p bs i = (k : ℕ) → k < i → p (slice_index bs k) ≡ true → ⊥

head_fails : (p : ℕ → Bool) (b : ℕ) (bs : List ℕ) (i : ℕ) → NoneBelow p (b ∷ bs) (suc i) → p b ≡ false
head_fails p b bs i none = false_from_ne_true (p b) (none 0 (omega arith))

tail_fails : (p : ℕ → Bool) (b : ℕ) (bs : List ℕ) (i : ℕ) → NoneBelow p (b ∷ bs) (suc i) → NoneBelow p bs i
tail_fails p b bs i none k lt is = none (suc k) (omega arith) is

pub split_at_place : (p : ℕ → Bool) (bs : List ℕ) (i : ℕ) → i < length bs → NoneBelow p bs i → p (slice_index bs i) ≡ true
    → slice_split p bs ≡ take i bs ∷ slice_split p (drop (suc i) bs)
split_at_place p [] i inside none is = absurd (omega arith)
split_at_place p (b ∷ bs) zero inside none is = rw is refl
split_at_place p (b ∷ bs) (suc i) inside none is =
    rw (head_fails p b bs i none, split_at_place p bs i (omega arith) (tail_fails p b bs i none) is) refl

pub split_nowhere : (p : ℕ → Bool) (bs : List ℕ) → NoneBelow p bs (length bs) → slice_split p bs ≡ bs ∷ []
split_nowhere p [] none = refl
split_nowhere p (b ∷ bs) none = rw (head_fails p b bs (length bs) none, split_nowhere p bs (tail_fails p b bs (length bs) none)) refl

-- ---- a line before others

ends_onto : (line : List ℕ) (b : ℕ) (parts : List (List ℕ)) → without_ends (line ∷ onto_first b parts) ≡ without_return line ∷ without_ends (onto_first b parts)
ends_onto line b [] = refl
ends_onto line b (p ∷ ps) = refl

pub ended_line : (p : ℕ → Bool) (line bs : List ℕ) → without_ends (line ∷ slice_split p bs) ≡ without_return line ∷ without_ends (slice_split p bs)
ended_line p line [] = refl
ended_line p line (b ∷ bs) =
    elim (p b) as (λ c. without_ends (line ∷ cond c ([] ∷ slice_split p bs) (onto_first b (slice_split p bs))) ≡ without_return line ∷ without_ends (cond c ([] ∷ slice_split p bs) (onto_first b (slice_split p bs))))
    [ true ↦ refl | false ↦ ends_onto line b (slice_split p bs) ]

-- ---- a line without a carriage return at its end

pub empty_line : (line : List ℕ) → length line ≡ 0 → line ≡ without_return line
empty_line [] e = refl
empty_line (b ∷ bs) e = absurd (omega arith)

other_last : (line : List ℕ) (n : ℕ) → length line ≡ suc n → (slice_index line n ≡ 13 → ⊥) → line ≡ without_return line
other_last [] n long other = refl
other_last (b ∷ []) zero long other = rw (false_from_ne_true (b == 13) (λ e. other (eqb-true b 13 e))) refl
other_last (b ∷ []) (suc n) long other = absurd (omega arith)
other_last (b ∷ c ∷ bs) zero long other = absurd (omega arith)
other_last (b ∷ c ∷ bs) (suc n) long other = ap (λ l. b ∷ l) (other_last (c ∷ bs) n (omega arith) other)

return_last : (line : List ℕ) (n : ℕ) → length line ≡ suc n → slice_index line n ≡ 13 → take n line ≡ without_return line
return_last [] n long is = absurd (omega arith)
return_last (b ∷ []) zero long is = rw is refl
return_last (b ∷ []) (suc n) long is = absurd (omega arith)
return_last (b ∷ c ∷ bs) zero long is = absurd (omega arith)
return_last (b ∷ c ∷ bs) (suc n) long is = ap (λ l. b ∷ l) (return_last (c ∷ bs) n (omega arith) is)

pub no_return : (line : List ℕ) → length line ≢ 0 → (slice_index line (length line - 1) ≡ 13 → ⊥) → line ≡ without_return line
no_return line some other = other_last line (length line - 1) (omega arith) other

pub one_return : (line : List ℕ) → length line ≢ 0 → slice_index line (length line - 1) ≡ 13 → take (length line - 1) line ≡ without_return line
one_return line some is = return_last line (length line - 1) (omega arith) is

pub ruleset return_rules = (empty_line, no_return, one_return)

one_on : (i : ℕ) → i + 1 ≡ suc i
one_on i = omega arith

pub rest_all : (bs : List ℕ) (n : ℕ) → take (length bs - n) (drop n bs) ≡ drop n bs
rest_all bs n = take_all (length bs - n) (drop n bs) (let e = length-drop n bs in omega (arith, e))

pub shorter_rest : (bs : List ℕ) (i : ℕ) → i < length bs → suc (length (take (length bs - (i + 1)) (drop (i + 1) bs))) ≤ length bs
shorter_rest bs i inside = rw (rest_all bs (i + 1)) (let e = length-drop (i + 1) bs in omega (arith, e))

-- ---- as the search for a byte gives the place

none_before : (p : ℕ → Bool) (bs : List ℕ) (i : ℕ) → NoneBefore (Passes p bs) 0 (length bs) i → NoneBelow p bs i
none_before p bs i h k lt = h.before k (omega arith) lt

pub cut_at_place : (p : ℕ → Bool) (bs : List ℕ) (i : ℕ) → NoneBefore (Passes p bs) 0 (length bs) i × Passes p bs i
    → slice_split p bs ≡ take i bs ∷ slice_split p (drop (suc i) bs)
cut_at_place p bs i h = split_at_place p bs i h.0.high (none_before p bs i h.0) h.1

pub cut_nowhere : (p : ℕ → Bool) (bs : List ℕ) → Nowhere (Passes p bs) 0 (length bs) → slice_split p bs ≡ bs ∷ []
cut_nowhere p bs none = split_nowhere p bs (λ k lt. none k (omega arith) lt)

pub first_line : (bs : List ℕ) (i : ℕ) → NoneBefore (Passes is_line_feed bs) 0 (length bs) i × Passes is_line_feed bs i
    → lines_of bs ≡ without_return (take i bs) ∷ lines_of (take (length bs - (i + 1)) (drop (i + 1) bs))
first_line bs i h = rw (rest_all bs (i + 1), one_on i) (ap without_ends (cut_at_place is_line_feed bs i h) ∙ ended_line is_line_feed (take i bs) (drop (suc i) bs))

pub last_line : (bs : List ℕ) → Nowhere (Passes is_line_feed bs) 0 (length bs) → lines_of bs ≡ bs ∷ []
last_line bs none = ap without_ends (cut_nowhere is_line_feed bs none)

one_more : (w : List ℕ) (parts : List (List ℕ)) → without_empty (w ∷ parts) ≡ with_word w (without_empty parts)
one_more [] parts = refl
one_more (b ∷ bs) parts = refl

pub first_word : (bs : List ℕ) (i : ℕ) → NoneBefore (Passes is_blank bs) 0 (length bs) i × Passes is_blank bs i
    → words_of bs ≡ with_word (take i bs) (words_of (take (length bs - (i + 1)) (drop (i + 1) bs)))
first_word bs i h = rw (rest_all bs (i + 1), one_on i) (ap without_empty (cut_at_place is_blank bs i h) ∙ one_more (take i bs) (slice_split is_blank (drop (suc i) bs)))

pub last_word : (bs : List ℕ) → Nowhere (Passes is_blank bs) 0 (length bs) → words_of bs ≡ with_word bs []
last_word bs none = ap without_empty (cut_nowhere is_blank bs none) ∙ one_more bs []

pub no_word : (w : List ℕ) (ws : List (List ℕ)) → length w ≡ 0 → with_word w ws ≡ ws
no_word [] ws e = refl
no_word (b ∷ bs) ws e = absurd (omega arith)

pub some_word : (w : List ℕ) (ws : List (List ℕ)) → 0 < length w → with_word w ws ≡ w ∷ ws
some_word [] ws some = absurd (omega arith)
some_word (b ∷ bs) ws some = refl
