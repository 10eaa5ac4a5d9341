-- What is said of the sequence of names, by an order on names that mentions no numbers.
use Rattle.std.specs.Prelude.{◌≡◌, ℕ, suc, ◌<◌, ◌⊎◌, Bool, true, false, ◌&&◌, ◌||◌, List, [], ◌∷◌, ◌++◌, length, nat_lt, ◌==◌, if◌then◌else◌}
use Rattle.asm_lang_valid.specs.Scope.{is_in}
use Rattle.asm_short_lang.specs.Sequence.{letters, numbered, forbidden, first_names}

-- ---- the order on names

-- the first place of a letter
abbrev pub place_in : List ℕ → ℕ → ℕ
place_in [] c = 0
place_in (x ∷ xs) c = if x == c then 0 else suc (place_in xs c)

abbrev pub place : ℕ → ℕ
place c = place_in letters c

-- the first letter that differs is an earlier one
abbrev pub precedes : List ℕ → List ℕ → Bool
precedes [] n = false
precedes (a ∷ m) [] = false
precedes (a ∷ m) (b ∷ n) = nat_lt (place a) (place b) || ((a == b) && precedes m n)

-- the shorter first, and those of one length letter by letter
abbrev pub IsEarlier : List ℕ → List ℕ → Type 0
IsEarlier m n = (length m < length n) ⊎ ((length m ≡ length n) × (precedes m n ≡ true))

-- ---- names of the sequence

abbrev pub NumbersHaveDistinctNames : Type 0
NumbersHaveDistinctNames = (i j : ℕ) → numbered i ≡ numbered j → i ≡ j

abbrev pub NamesAreInOrder : Type 0
NamesAreInOrder = (i j : ℕ) → i < j → IsEarlier (numbered i) (numbered j)

-- ---- the first ones that aren't excluded

-- no two are equal
abbrev pub AreDistinct : List (List ℕ) → Type 0
AreDistinct [] = Unit {0}
AreDistinct (n ∷ ns) = (is_in n ns ≡ false) × AreDistinct ns

abbrev pub FirstNamesAreAsMany : Type 0
FirstNamesAreAsMany = (excluded : List (List ℕ)) (count : ℕ) → length (first_names excluded count) ≡ count

abbrev pub FirstNamesAreDistinct : Type 0
FirstNamesAreDistinct = (excluded : List (List ℕ)) (count : ℕ) → AreDistinct (first_names excluded count)

-- a name of the sequence that is neither forbidden nor excluded
pub record IsAllowed (excluded : List (List ℕ)) (n : List ℕ) : Type 0 where
  pub number : ℕ
  pub named : n ≡ numbered number
  pub free : is_in n (forbidden ++ excluded) ≡ false

abbrev pub FirstNamesAreAllowed : Type 0
FirstNamesAreAllowed = (excluded : List (List ℕ)) (count : ℕ) (n : List ℕ) → is_in n (first_names excluded count) ≡ true → IsAllowed excluded n

-- an allowed name whose number is less than that of one of them is one of them
abbrev pub NoNameIsSkipped : Type 0
NoNameIsSkipped = (excluded : List (List ℕ)) (count k l : ℕ) → k < l → is_in (numbered k) (forbidden ++ excluded) ≡ false → is_in (numbered l) (first_names excluded count) ≡ true → is_in (numbered k) (first_names excluded count) ≡ true
