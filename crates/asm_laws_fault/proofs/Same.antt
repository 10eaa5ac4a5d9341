-- Two faults of the same tokens are of one kind, and stand at one place.
use Rattle.std.proofs.Common.{ℕ, ◌≡◌, ◌+◌, List, length, inl, inr, refl, subst, arith}
use Rattle.std.proofs.lemmas.Bool.{cases_lt}
use Rattle.asm_lang.specs.Lexemes.{Lexeme}
use Rattle.asm_lang.specs.Faults.{IsNegativeZero, IsMissingUse, IsFirstFault}
use Rattle.asm_lang.specs.HighNodes.{IsHeightFault}
use Rattle.asm_lang.specs.Kinds.{Kind, negative_zero, missing_use, grammar, height, IsFault}
use Rattle.asm_laws_fault.proofs.Edges.{one_edge, no_edge, zero_edge, use_edge, first_edge}
use Rattle.asm_laws_fault.proofs.Headings.{not_after_minus}

two_zeros : (xs : List Lexeme) (i j : ℕ) → IsNegativeZero xs i → IsNegativeZero xs j → i ≡ j
two_zeros xs i j f g = omega (arith, one_edge xs (i + 1) (j + 1) (zero_edge xs i f) (zero_edge xs j g))

two_uses : (xs : List Lexeme) (i j : ℕ) → IsMissingUse xs i → IsMissingUse xs j → i ≡ j
two_uses xs i j f g = one_edge xs i j (use_edge xs i f) (use_edge xs j g)

two_firsts : (xs : List Lexeme) (i j : ℕ) → IsFirstFault xs i → IsFirstFault xs j → i ≡ j
two_firsts xs i j f g = elim (cases_lt i (length xs)) [
  | inl lt ↦ elim (cases_lt j (length xs)) [
    | inl lt2 ↦ one_edge xs i j (first_edge xs i f lt) (first_edge xs j g lt2)
    | inr le2 ↦ absurd (no_edge xs i j le2 g.before (first_edge xs i f lt))
  ]
  | inr le ↦ elim (cases_lt j (length xs)) [
    | inl lt2 ↦ absurd (no_edge xs j i le f.before (first_edge xs j g lt2))
    | inr le2 ↦ omega (arith, f.within, g.within)
  ]
]

two_heights : (limit : ℕ) (xs : List Lexeme) (i j : ℕ) → IsHeightFault limit xs i → IsHeightFault limit xs j → i ≡ j
two_heights limit xs i j f g = elim (cases_lt i j) [
  | inl lt ↦ absurd (g.before i lt f.here)
  | inr le ↦ elim (cases_lt j i) [ inl lt ↦ absurd (f.before j lt g.here) | inr le2 ↦ omega arith ]
]

zero_use : (xs : List Lexeme) (j k : ℕ) → IsNegativeZero xs j → IsMissingUse xs k → ⊥
zero_use xs j k z u = not_after_minus xs j k (one_edge xs (j + 1) k (zero_edge xs j z) (use_edge xs k u)) z.pair u

zero_first : (xs : List Lexeme) (j k : ℕ) → IsNegativeZero xs j → IsFirstFault xs k → ⊥
zero_first xs j k z f = elim (cases_lt k (length xs)) [
  | inl lt ↦ f.no_zero j (one_edge xs (j + 1) k (zero_edge xs j z) (first_edge xs k f lt)) z
  | inr le ↦ no_edge xs (j + 1) k le f.before (zero_edge xs j z)
]

use_first : (xs : List Lexeme) (j k : ℕ) → IsMissingUse xs j → IsFirstFault xs k → ⊥
use_first xs j k u f = elim (cases_lt k (length xs)) [
  | inl lt ↦ f.has_use (subst (IsMissingUse xs) (one_edge xs j k (use_edge xs j u) (first_edge xs k f lt)) u)
  | inr le ↦ no_edge xs j k le f.before (use_edge xs j u)
]

pub same : (limit : ℕ) (xs : List Lexeme) (a b : Kind) (i j : ℕ) → IsFault limit xs a i → IsFault limit xs b j → (a ≡ b) × (i ≡ j)
same limit xs negative_zero negative_zero i j f g = (refl, two_zeros xs i j f.0 g.0)
same limit xs negative_zero missing_use i j f g = absurd (zero_use xs i j f.0 g.0)
same limit xs negative_zero grammar i j f g = absurd (zero_first xs i j f.0 g.0)
same limit xs negative_zero height i j f g = absurd (f.1 j g)
same limit xs missing_use negative_zero i j f g = absurd (zero_use xs j i g.0 f.0)
same limit xs missing_use missing_use i j f g = (refl, two_uses xs i j f.0 g.0)
same limit xs missing_use grammar i j f g = absurd (use_first xs i j f.0 g.0)
same limit xs missing_use height i j f g = absurd (f.1 j g)
same limit xs grammar negative_zero i j f g = absurd (zero_first xs j i g.0 f.0)
same limit xs grammar missing_use i j f g = absurd (use_first xs j i g.0 f.0)
same limit xs grammar grammar i j f g = (refl, two_firsts xs i j f.0 g.0)
same limit xs grammar height i j f g = absurd (f.1 j g)
same limit xs height negative_zero i j f g = absurd (g.1 i f)
same limit xs height missing_use i j f g = absurd (g.1 i f)
same limit xs height grammar i j f g = absurd (g.1 i f)
same limit xs height height i j f g = (refl, two_heights limit xs i j f g)
