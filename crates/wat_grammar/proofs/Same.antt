-- Bytes that are compared from a place on.
use Rattle.std.proofs.Common.{◌≡◌, ℕ, zero, suc, ◌+◌, ◌-◌, ◌≤◌, ◌<◌, Bool, true, false, ◌&&◌, List, [], ◌∷◌, length, get_or, bytes_eq, ◌==◌, refl, sym, ap, ◌∙◌, arith}
use Rattle.std.proofs.Math.Bool.{and_assoc}
use Rattle.std.proofs.lemmas.Bool.{ne_eqb}
use Rattle.wat_grammar.specs.Same.{same_from}

abbrev same_at : List ℕ → List ℕ → ℕ → Bool
same_at xs ys at = get_or xs at 0 == get_or ys at 0

-- some, and then the others
parts : (xs ys : List ℕ) (at m n k all : ℕ) → all ≡ m + n → k ≡ at + m → same_from xs ys at all ≡ same_from xs ys at m && same_from xs ys k n
parts xs ys at zero n k all e f =
    let e2 : all ≡ n = omega (arith, e) in
    let f2 : at ≡ k = omega (arith, f) in ap (same_from xs ys at) e2 ∙ ap (λ j. same_from xs ys j n) f2
parts xs ys at (suc m) n k all e f =
    let e2 : all ≡ suc (m + n) = omega (arith, e) in
    let f2 : k ≡ suc at + m = omega (arith, f) in
    ap (same_from xs ys at) e2 ∙ ap (λ t. same_at xs ys at && t) (parts xs ys (suc at) m n k (m + n) refl f2)
    ∙ sym (and_assoc (same_at xs ys at) (same_from xs ys (suc at) m) (same_from xs ys k n))

behind_first : (x y : ℕ) (xs ys : List ℕ) (at n : ℕ) → same_from (x ∷ xs) (y ∷ ys) (suc at) n ≡ same_from xs ys at n
behind_first x y xs ys at zero = refl
behind_first x y xs ys at (suc n) = ap (λ t. same_at xs ys at && t) (behind_first x y xs ys (suc at) n)

-- all of them
pub same_all : (xs ys : List ℕ) → length xs ≡ length ys → same_from xs ys 0 (length xs) ≡ bytes_eq xs ys
same_all [] [] l = refl
same_all [] (y ∷ ys) l = absurd (omega (arith, l))
same_all (x ∷ xs) [] l = absurd (omega (arith, l))
same_all (x ∷ xs) (y ∷ ys) l = ap (λ t. (x == y) && t) (behind_first x y xs ys 0 (length xs) ∙ same_all xs ys (omega (arith, l)))

pub other_length : (xs ys : List ℕ) → (length xs ≡ length ys → ⊥) → bytes_eq xs ys ≡ false
other_length [] [] l = absurd (l refl)
other_length [] (y ∷ ys) l = refl
other_length (x ∷ xs) [] l = refl
other_length (x ∷ xs) (y ∷ ys) l = none (x == y) (bytes_eq xs ys) (other_length xs ys (λ e. l (ap suc e)))
  where
    none : (t u : Bool) → u ≡ false → t && u ≡ false
    none true u e = e
    none false u e = refl

-- two parts that cover all of them, where they may meet or overlap
pub same_ends : (xs ys : List ℕ) (part n : ℕ) → part ≤ n → n ≤ part + part → same_from xs ys 0 part && same_from xs ys (n - part) part ≡ same_from xs ys 0 n
same_ends xs ys part n a b =
    ap (λ t. t && same_from xs ys (n - part) part) first ∙ ap (λ t. (same_from xs ys 0 (n - part) && same_from xs ys (n - part) (part + part - n)) && t) last
    ∙ both (same_from xs ys 0 (n - part)) (same_from xs ys (n - part) (part + part - n)) (same_from xs ys part (n - part)) ∙ sym whole
  where
    first : same_from xs ys 0 part ≡ same_from xs ys 0 (n - part) && same_from xs ys (n - part) (part + part - n)
    first = parts xs ys 0 (n - part) (part + part - n) (n - part) part (omega (arith, a, b)) (omega arith)

    last : same_from xs ys (n - part) part ≡ same_from xs ys (n - part) (part + part - n) && same_from xs ys part (n - part)
    last = parts xs ys (n - part) (part + part - n) (n - part) part part (omega (arith, a, b)) (omega (arith, a, b))

    whole : same_from xs ys 0 n ≡ (same_from xs ys 0 (n - part) && same_from xs ys (n - part) (part + part - n)) && same_from xs ys part (n - part)
    whole = parts xs ys 0 part (n - part) part n (omega (arith, a)) (omega arith) ∙ ap (λ t. t && same_from xs ys part (n - part)) first

    both : (p q r : Bool) → (p && q) && (q && r) ≡ (p && q) && r
    both true true r = refl
    both true false r = refl
    both false q r = refl

-- what is the same so far, and then the last ones, which may have some of those before
pub same_last : (xs ys : List ℕ) (at last part n : ℕ) → same_from xs ys 0 at ≡ true → last ≤ at → at ≤ n → n ≡ last + part → same_from xs ys last part ≡ same_from xs ys 0 n
same_last xs ys at last part n h a b e =
    tail ∙ ap (λ t. t && same_from xs ys at (n - at)) (before (same_from xs ys 0 last) (same_from xs ys last (at - last)) (sym front ∙ h) ∙ sym h) ∙ sym whole
  where
    front : same_from xs ys 0 at ≡ same_from xs ys 0 last && same_from xs ys last (at - last)
    front = parts xs ys 0 last (at - last) last at (omega (arith, a)) (omega arith)

    tail : same_from xs ys last part ≡ same_from xs ys last (at - last) && same_from xs ys at (n - at)
    tail = parts xs ys last (at - last) (n - at) at part (omega (arith, a, b, e)) (omega (arith, a))

    whole : same_from xs ys 0 n ≡ same_from xs ys 0 at && same_from xs ys at (n - at)
    whole = parts xs ys 0 at (n - at) at n (omega (arith, b)) (omega arith)

    before : (p q : Bool) → p && q ≡ true → q ≡ true
    before true q k = k
    before false q k = absurd cc

-- some more
pub same_more : (xs ys : List ℕ) (at part : ℕ) → same_from xs ys 0 at ≡ true → same_from xs ys at part ≡ true → same_from xs ys 0 (at + part) ≡ true
same_more xs ys at part h k = parts xs ys 0 at part at (at + part) refl (omega arith) ∙ ap (λ t. t && same_from xs ys at part) h ∙ k

-- some that differ
pub same_never : (xs ys : List ℕ) (at part n : ℕ) → same_from xs ys at part ≡ false → at + part ≤ n → same_from xs ys 0 n ≡ false
same_never xs ys at part n h b =
    parts xs ys 0 at (n - at) at n (omega (arith, b)) (omega arith)
    ∙ ap (λ t. same_from xs ys 0 at && t)
    (parts xs ys at part (n - (at + part)) (at + part) (n - at) (omega (arith, b)) refl ∙ ap (λ t. t && same_from xs ys (at + part) (n - (at + part))) h)
    ∙ none (same_from xs ys 0 at)
  where
    none : (p : Bool) → p && false ≡ false
    none true = refl
    none false = refl

pub same_not : (xs ys : List ℕ) (at n : ℕ) → at < n → (get_or xs at 0 ≡ get_or ys at 0 → ⊥) → same_from xs ys 0 n ≡ false
same_not xs ys at n l h = same_never xs ys at 1 n (ap (λ t. t && true) (ne_eqb (get_or xs at 0) (get_or ys at 0) h)) (omega (arith, l))
