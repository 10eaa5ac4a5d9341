-- Rows that stand at nodes below a number.
use Rattle.std.proofs.Common.{◌≡◌, ℕ, ◌<◌, Bool, true, false, List, [], ◌∷◌, ◌++◌, Some, subst}
use Rattle.std.specs.Prelude.{if◌then◌else◌}
use Rattle.asm_lang_valid.specs.declared.rule.Rule.{Rule}
use Rattle.asm_lang_valid.specs.declared.rule.Met.{Met}
use Rattle.asm_lang_valid.specs.Rows.{need, first}

abbrev pub AllBelow : ℕ → List Met → Type 0
AllBelow n [] = Unit {0}
AllBelow n (x ∷ xs) = (x.node < n) × AllBelow n xs

pub both : (n : ℕ) (xs ys : List Met) → AllBelow n xs → AllBelow n ys → AllBelow n (xs ++ ys)
both n [] ys h k = k
both n (x ∷ xs) ys h k = (h.0, both n xs ys h.1 k)

pub needed : (n : ℕ) (b : Bool) (r : Rule) (at : ℕ) → at < n → AllBelow n (need b r at)
needed n true r at h = tt
needed n false r at h = (h, tt)

pub either : (n : ℕ) (b : Bool) (xs ys : List Met) → AllBelow n xs → AllBelow n ys → AllBelow n (if b then xs else ys)
either n true xs ys h k = h
either n false xs ys h k = k

pub first_below : (n : ℕ) (xs : List Met) (x : Met) → AllBelow n xs → first xs ≡ Some x → x.node < n
first_below n [] x h is = absurd cc
first_below n (y ∷ xs) x h is = let same : y ≡ x = cc in subst (λ (z : Met). z.node < n) same h.0
