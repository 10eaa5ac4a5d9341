-- The first word outside the integers, among tokens that are looked at in parts.
use Rattle.std.proofs.Common.{◌≡◌, ℕ, Bool, true, false, List, [], ◌∷◌, ◌++◌, Option, Some, None, refl, ap}
use Rattle.std.specs.Prelude.{if◌then◌else◌}
use Rattle.wat_lang.specs.Tokens.{Token}
use Rattle.wat_lang.specs.Texts.{outside_at, stands_outside}
use Rattle.wat_marks.specs.Views.{outside_after}

abbrev first_or : Token → List Token → Bool → Option ℕ
first_or t ts b = elim b [ true ↦ Some t.at | false ↦ outside_at ts ]

pub outside_join : (ts us : List Token) → outside_at ts ≡ None → outside_at (ts ++ us) ≡ outside_at us
outside_join [] us e = refl
outside_join (t ∷ ts) us e = by (outside_join ts us) (stands_outside t.class) e
  where
    by : (outside_at ts ≡ None → outside_at (ts ++ us) ≡ outside_at us) → (b : Bool) → first_or t ts b ≡ None → first_or t (ts ++ us) b ≡ outside_at us
    by below true e = absurd cc
    by below false e = below e

pub outside_past : (t : Token) (us : List Token) → stands_outside t.class ≡ false → outside_at (t ∷ us) ≡ outside_at us
outside_past t us e = ap (first_or t us) e

pub outside_here : (t : Token) (us : List Token) → stands_outside t.class ≡ true → outside_at (t ∷ us) ≡ Some t.at
outside_here t us e = ap (first_or t us) e

pub outside_more : (ts : List Token) (t : Token) → outside_at (ts ++ t ∷ []) ≡ outside_after (outside_at ts) t
outside_more [] t = by (stands_outside t.class)
  where
    by : (b : Bool) → first_or t [] b ≡ (if b then Some t.at else None)
    by true = refl
    by false = refl
outside_more (u ∷ ts) t = by (outside_more ts t) (stands_outside u.class)
  where
    by : outside_at (ts ++ t ∷ []) ≡ outside_after (outside_at ts) t → (b : Bool) → first_or u (ts ++ t ∷ []) b ≡ outside_after (first_or u ts b) t
    by below true = refl
    by below false = below
