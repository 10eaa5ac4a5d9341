-- Numbers counted on, and marks put.
use Rattle.std.proofs.Common.{◌≡◌, ◌≢◌, ℕ, zero, suc, ◌+◌, ◌-◌, ◌<◌, ◌≤◌, Bool, true, false, List, [], ◌∷◌, ◌++◌, length, take, get_or, Option, Some, None, ◌⊎◌, inl, inr, nat_eq, refl, sym, ap, ◌∙◌, subst, arith, append_assoc, eq-eqb}
use Rattle.std.specs.Prelude.{◌||◌, slice_get, slice_set}
use Rattle.std.proofs.lemmas.Bool.{cases_eq}
use Rattle.std.proofs.lemmas.Bool.Decides.{nat_tests}
use Rattle.std.proofs.lemmas.List.{take_more}
use Rattle.wasm_link_code.specs.Numbers.{counted}
use Rattle.wasm_link_bind.specs.Marks.{has}

counted_next : (m k : ℕ) → 0 < k → counted m k ≡ m ∷ counted (suc m) (k - 1)
counted_next m zero h = absurd (omega (arith, h))
counted_next m (suc k) h = let e : suc k - 1 ≡ k = omega arith in ap (λ j. m ∷ counted (suc m) j) (sym e)

pub counted_more : (xs : List ℕ) (n i count : ℕ) → i < count → xs ++ counted (n + i) (count - i) ≡ (xs ++ (n + i) ∷ []) ++ counted (n + (i + 1)) (count - (i + 1))
counted_more xs n i count h =
    let next : suc (n + i) ≡ n + (i + 1) = omega arith in
    let less : count - i - 1 ≡ count - (i + 1) = omega arith in
    ap (λ l. xs ++ l) (counted_next (n + i) (count - i) (omega arith) ∙ ap (λ k. (n + i) ∷ counted k (count - i - 1)) next ∙ ap (λ k. (n + i) ∷ counted (n + (i + 1)) k) less)
    ∙ sym (append_assoc xs ((n + i) ∷ []) (counted (n + (i + 1)) (count - (i + 1))))

-- ---- marks

set_same : (ms : List Bool) (p : ℕ) → p < length ms → slice_get (slice_set ms p true) p ≡ Some true
set_same [] p h = absurd (omega arith)
set_same (m ∷ ms) zero h = refl
set_same (m ∷ ms) (suc p) h = set_same ms p (omega (arith, h))

set_other : (ms : List Bool) (p b : ℕ) → (p ≡ b → ⊥) → slice_get (slice_set ms p true) b ≡ slice_get ms b
set_other [] p b ne = refl
set_other (m ∷ ms) zero zero ne = absurd (ne refl)
set_other (m ∷ ms) zero (suc b) ne = refl
set_other (m ∷ ms) (suc p) zero ne = refl
set_other (m ∷ ms) (suc p) (suc b) ne = set_other ms p b (λ e. ne (ap suc e))

has_more : (xs : List ℕ) (p b : ℕ) → has (xs ++ p ∷ []) b ≡ has xs b || nat_eq p b
has_more [] p b = by (nat_eq p b)
  where
    by : (t : Bool) → t || false ≡ false || t
    by true = refl
    by false = refl
has_more (x ∷ xs) p b = ap (λ t. nat_eq x b || t) (has_more xs p b) ∙ by (nat_eq x b)
  where
    by : (t : Bool) → t || (has xs b || nat_eq p b) ≡ (t || has xs b) || nat_eq p b
    by true = refl
    by false = refl

pub marked_more : (ms new : List Bool) (places : List ℕ) (i p : ℕ) → new ≡ slice_set ms p true → i < length places → p ≡ get_or places i p → length ms ≡ length places
    → ((b : ℕ) → b < length places → slice_get ms b ≡ Some (has (take i places) b)) → (b : ℕ) → b < length places → slice_get new b ≡ Some (has (take (i + 1) places) b)
marked_more ms new places i p put within is count here b h =
    ap (λ l. slice_get l b) put ∙ by (cases_eq p b)
    ∙ ap (λ (t : Bool). Some t) (sym (ap (λ l. has l b) (take_more places i p within ∙ ap (λ x. take i places ++ x ∷ []) (sym is)) ∙ has_more (take i places) p b))
  where
    or_true : (t : Bool) → t || true ≡ true
    or_true true = refl
    or_true false = refl

    or_false : (t : Bool) → t || false ≡ t
    or_false true = refl
    or_false false = refl

    by : (p ≡ b) ⊎ (p ≡ b → ⊥) → slice_get (slice_set ms p true) b ≡ Some (has (take i places) b || nat_eq p b)
    by (inl e) =
        ap (λ k. slice_get (slice_set ms p true) k) (sym e) ∙ set_same ms p (omega arith)
        ∙ ap (λ (t : Bool). Some t) (sym (ap (λ t. has (take i places) b || t) (eq-eqb p b e) ∙ or_true (has (take i places) b)))
    by (inr ne) =
        let other : nat_eq p b ≡ false = grind (arith, nat_tests) in
        set_other ms p b ne ∙ here b h ∙ ap (λ (t : Bool). Some t) (sym (ap (λ t. has (take i places) b || t) other ∙ or_false (has (take i places) b)))
