-- Lists of names whose ranks rise, group by group.
use Rattle.std.proofs.Common.{◌≡◌, ◌∙◌, ℕ, suc, ◌<◌, ◌≤◌, List, [], ◌∷◌, ◌++◌, inl, inr, sym, arith}
use Rattle.wasm2js_translation.specs.Names.{Name, Rank, rank, RisesFrom, Rises}

-- names of one group, from a place on, each further on than the one before it
abbrev pub Places : (group place : ℕ) → List Name → Type 0
Places g p [] = Unit {0}
Places g p (n ∷ ns) = ((rank n).group ≡ g) × (p ≤ (rank n).place) × Places g (suc (rank n).place) ns

-- names of later groups, which rise
abbrev pub Later : (group : ℕ) → List Name → Type 0
Later g [] = Unit {0}
Later g (n ∷ ns) = (g < (rank n).group) × RisesFrom (rank n) ns

pub places_from : (g p q : ℕ) (ns : List Name) → q ≤ p → Places g p ns → Places g q ns
places_from g p q [] h k = tt
places_from g p q (n ∷ ns) h k = (k.0, (let e = k.1 in omega (arith, h, e)), k.2)

-- what stands at most so far, and then what stands from there on
abbrev pub Reaches : (group place : ℕ) → List Name → Type 0
Reaches g p [] = Unit {0}
Reaches g p (n ∷ ns) = ((rank n).place < p) × Reaches g p ns

pub places_join : (g p q : ℕ) (xs ys : List Name) → p ≤ q → Places g p xs → Reaches g q xs → Places g q ys → Places g p (xs ++ ys)
places_join g p q [] ys h a r b = places_from g q p ys h b
places_join g p q (x ∷ xs) ys h a r b =
    (a.0, a.1, places_join g (suc (rank x).place) q xs ys (let e = r.0 in omega (arith, e)) a.2 r.1 b)

rises_on : (a : Rank) (g : ℕ) (xs ys : List Name) → a.group ≡ g → Places g (suc a.place) xs → Later g ys → RisesFrom a (xs ++ ys)
rises_on a g [] [] e h k = tt
rises_on a g [] (y ∷ ys) e h k = (inl (let l = k.0 in omega (arith, e, l)), k.1)
rises_on a g (x ∷ xs) ys e h k = (inr (e ∙ sym h.0, (let l = h.1 in omega (arith, l))), rises_on (rank x) g xs ys h.0 h.2 k)

-- one group before later ones
pub group_before : (f g : ℕ) (xs ys : List Name) (p : ℕ) → f < g → Places g p xs → Later g ys → Later f (xs ++ ys)
group_before f g [] [] p h a b = tt
group_before f g [] (y ∷ ys) p h a b = ((let l = b.0 in omega (arith, h, l)), b.1)
group_before f g (x ∷ xs) ys p h a b = ((let e = a.0 in omega (arith, h, e)), rises_on (rank x) g xs ys a.0 a.2 b)

pub first_group : (g p : ℕ) (xs ys : List Name) → Places g p xs → Later g ys → Rises (xs ++ ys)
first_group g p [] [] a b = tt
first_group g p [] (y ∷ ys) a b = b.1
first_group g p (x ∷ xs) ys a b = rises_on (rank x) g xs ys a.0 a.2 b

pub last_group : (f g p : ℕ) (xs : List Name) → f < g → Places g p xs → Later f xs
last_group f g p [] h a = tt
last_group f g p (x ∷ xs) h a = ((let e = a.0 in omega (arith, h, e)), on (rank x) xs a.0 a.2)
  where
    on : (a : Rank) (xs : List Name) → a.group ≡ g → Places g (suc a.place) xs → RisesFrom a xs
    on a [] e h = tt
    on a (x ∷ xs) e h = (inr (e ∙ sym h.0, (let l = h.1 in omega (arith, l))), on (rank x) xs h.0 h.2)
