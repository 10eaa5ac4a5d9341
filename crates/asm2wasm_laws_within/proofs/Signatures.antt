-- There are only so many signatures of few parameters.
use Rattle.std.proofs.Common.{◌≡◌, ℕ, ◌+◌, ◌*◌, ◌<◌, ◌≤◌, Bool, true, false, List, [], ◌∷◌, length, map, eqb, refl, sym, subst, arith}
use Rattle.std.proofs.lemmas.Bool.{eqb-true}
use Rattle.std.proofs.lemmas.Bool.Decides.{nat_tests}
use Rattle.std.proofs.lemmas.List.Elements.{All-head, All-tail}
use Rattle.std.proofs.lemmas.Map.Steps.{length-le_from_distinct_below}
use Rattle.std.specs.Prelude.{All, ◌||◌, ◌==◌}
use Rattle.std.specs.List.{AllByRecursion, IsDistinct, list_any}
use Rattle.asm_lang_valid.specs.Scope.{Signature}
use Rattle.asm_lang_valid.specs.Typing.{same}
use Rattle.asm_lang_valid.specs.LimitRows.{most_params}
use Rattle.asm2wasm_laws_within.specs.Laws.{is_signature, FewSignatures}

-- a number for each
abbrev bit : Bool → ℕ
bit true = 1
bit false = 0

abbrev number_of : Signature → ℕ
number_of s = 2 * s.params + bit s.result

both_equal : (a b : ℕ) (r q : Bool) → 2 * a + bit r ≡ 2 * b + bit q → (a ≡ b) × (same r q ≡ true)
both_equal a b true true e = (omega arith, refl)
both_equal a b false false e = (omega arith, refl)
both_equal a b true false e = absurd (omega arith)
both_equal a b false true e = absurd (omega arith)

equal_test : (a b : ℕ) → a ≡ b → (a == b) ≡ true
equal_test a b e = grind (arith, nat_tests)

no_contradiction : {b : Bool} → b ≡ false → b ≡ true → ⊥
no_contradiction f t = cc

differ : (s t : Signature) → is_signature s t ≡ false → eqb (number_of s) (number_of t) ≡ false
differ s t h = by (eqb (number_of s) (number_of t)) refl
  where
    by : (b : Bool) → eqb (number_of s) (number_of t) ≡ b → b ≡ false
    by false e = refl
    by true e =
        let parts = both_equal s.params t.params s.result t.result (eqb-true (number_of s) (number_of t) e) in
        let params = equal_test s.params t.params parts.0 in
        let alike : is_signature s t ≡ true = rw params parts.1 in
        absurd (no_contradiction h alike)

apart : (s : Signature) (ts : List Signature) → AllByRecursion (λ t. is_signature s t ≡ false) ts → AllByRecursion (λ n. eqb (number_of s) n ≡ false) (map number_of ts)
apart s [] a = tt
apart s (t ∷ ts) a = (differ s t a.0, apart s ts a.1)

distinct_numbers : (ss : List Signature) → IsDistinct is_signature ss → IsDistinct eqb (map number_of ss)
unfolding IsDistinct
distinct_numbers [] d = tt
distinct_numbers (s ∷ ss) d = (apart s ss d.0, distinct_numbers ss d.1)

low_numbers : (ss : List Signature) → All (λ (s : Signature). s.params ≤ most_params) ss → (q : ℕ) → list_any (eqb q) (map number_of ss) ≡ true → q < 2 * (most_params + 1)
low_numbers [] a q h = absurd (cc h)
low_numbers (s ∷ ss) a q h = by (eqb q (number_of s)) refl (low_numbers ss (All-tail (λ (s : Signature). s.params ≤ most_params) s ss a) q) h
  where
    low : (n : ℕ) (r : Bool) → n ≤ most_params → 2 * n + bit r < 2 * (most_params + 1)
    low n true le = omega arith
    low n false le = omega arith

    by : (b : Bool) → eqb q (number_of s) ≡ b → (list_any (eqb q) (map number_of ss) ≡ true → q < 2 * (most_params + 1)) → (b || list_any (eqb q) (map number_of ss)) ≡ true → q < 2 * (most_params + 1)
    by true e rest h = let is = eqb-true q (number_of s) e in subst (λ n. n < 2 * (most_params + 1)) (sym is) (low s.params s.result (All-head (λ (s : Signature). s.params ≤ most_params) s ss a))
    by false e rest h = rest h

as_many : (ss : List Signature) → length (map number_of ss) ≡ length ss
as_many [] = refl
as_many (s ∷ ss) = omega (arith, as_many ss)

pub few_signatures : FewSignatures
few_signatures ss d a =
    let few = length-le_from_distinct_below (map number_of ss) (2 * (most_params + 1)) (distinct_numbers ss d) (low_numbers ss a) in
    subst (λ n. n ≤ 2 * (most_params + 1)) (as_many ss) few
