-- The numbers that are free from one on: as many turns as there are taken names are enough, since no two numbers have one name.
use Rattle.std.proofs.Common.{◌≡◌, ℕ, zero, suc, ◌+◌, ◌-◌, ◌<◌, ◌≤◌, Bool, true, false, ◌||◌, List, [], ◌∷◌, length, refl, sym, ap, ◌∙◌, arith}
use Rattle.std.proofs.lemmas.Bool.{false≢true}
use Rattle.std.proofs.lemmas.Slice.Eq.{bytes_eq-Decides}
use Rattle.std.specs.Prelude.{if◌then◌else◌, bytes_eq}
use Rattle.asm_lang_valid.specs.Scope.{is_in}
use Rattle.asm_short_lang.specs.Sequence.{numbered, free_from, names_from}
use Rattle.asm_laws_sequence.proofs.Distinct.{distinct_names}

-- ---- a list without one name

without : List ℕ → List (List ℕ) → List (List ℕ)
without n [] = []
without n (x ∷ xs) = if bytes_eq x n then xs else x ∷ without n xs

one_fewer : (n : List ℕ) (xs : List (List ℕ)) → is_in n xs ≡ true → length xs ≡ length (without n xs) + 1
unfolding without
one_fewer n [] h = absurd (false≢true h)
one_fewer n (x ∷ xs) h = elim (bytes_eq x n) as (λ b. (b || is_in n xs) ≡ true → suc (length xs) ≡ length (if b then xs else x ∷ without n xs) + 1) [
  | true ↦ λ k. omega arith
  | false ↦ λ k. let rest = one_fewer n xs k in omega arith
] h

unequal : (x n m : List ℕ) → bytes_eq x n ≡ true → (m ≡ n → ⊥) → bytes_eq x m ≡ false
unequal x n m e h = elim (bytes_eq x m) as (λ b. bytes_eq x m ≡ b → b ≡ false) [
  | true ↦ λ k. absurd (h (sym (((bytes_eq-Decides x m).0) k) ∙ ((bytes_eq-Decides x n).0) e))
  | false ↦ λ k. refl
] refl

still_in : (m n : List ℕ) (xs : List (List ℕ)) → (m ≡ n → ⊥) → is_in m (without n xs) ≡ is_in m xs
unfolding without
still_in m n [] h = refl
still_in m n (x ∷ xs) h = elim (bytes_eq x n) as (λ b. bytes_eq x n ≡ b → is_in m (if b then xs else x ∷ without n xs) ≡ (bytes_eq x m || is_in m xs)) [
  | true ↦ λ e. sym (ap (λ b. b || is_in m xs) (unequal x n m e h))
  | false ↦ λ e. ap (λ b. bytes_eq x m || b) (still_in m n xs h)
] refl

-- ---- as many turns as there are taken names are enough

-- the names of so many numbers from i on are all taken
abbrev pub AreTaken : List (List ℕ) → (count i : ℕ) → Type 0
AreTaken taken count i = (j : ℕ) → i ≤ j → j < i + count → is_in (numbered j) taken ≡ true

pub few_taken : (count i : ℕ) (taken : List (List ℕ)) → AreTaken taken count i → count ≤ length taken
few_taken zero i taken h = omega arith
few_taken (suc count) i taken h =
    let here = one_fewer (numbered i) taken (h i (omega arith) (omega arith)) in
    let later : (j : ℕ) → i + 1 ≤ j → j < (i + 1) + count → is_in (numbered j) (without (numbered i) taken) ≡ true = λ j low high.
    still_in (numbered j) (numbered i) taken (λ e. let same = distinct_names j i e in omega arith) ∙ h j (omega arith) (omega arith) in
    let rest = few_taken count (i + 1) (without (numbered i) taken) later in
    omega arith

same_taken : (taken : List (List ℕ)) (i j : ℕ) (b : Bool) → i ≡ j → is_in (numbered j) taken ≡ b → is_in (numbered i) taken ≡ b
same_taken taken i j b e h = ap (λ k. is_in (numbered k) taken) e ∙ h

free_after : (taken : List (List ℕ)) (turns count i j : ℕ) → j ≡ i + count → count ≤ turns → AreTaken taken count i → is_in (numbered j) taken ≡ false → free_from taken turns i ≡ j
free_after taken zero count i j e low h free = omega arith
free_after taken (suc turns) zero i j e low h free =
    let here : i ≡ j = omega arith in
    ap (λ b. if b then free_from taken turns (i + 1) else i) (same_taken taken i j false here free) ∙ here
free_after taken (suc turns) (suc count) i j e low h free =
    ap (λ b. if b then free_from taken turns (i + 1) else i) (h i (omega arith) (omega arith))
    ∙ free_after taken turns count (i + 1) j (omega arith) (omega arith) (λ k l u. h k (omega arith) (omega arith)) free

-- the first number from i on whose name isn't taken
pub free_is : (taken : List (List ℕ)) (i j : ℕ) → i ≤ j → AreTaken taken (j - i) i → is_in (numbered j) taken ≡ false → free_from taken (length taken) i ≡ j
free_is taken i j low h free = free_after taken (length taken) (j - i) i j (omega arith) (few_taken (j - i) i taken h) h free

pub as_many : (taken : List (List ℕ)) (count i : ℕ) → length (names_from taken count i) ≡ count
as_many taken zero i = refl
as_many taken (suc count) i = ap suc (as_many taken count (free_from taken (length taken) i + 1))
