-- Walks along a list, whose result grows.
use Rattle.std.proofs.Common.{◌≡◌, ℕ, ◌+◌, ◌<◌, ◌≤◌, Bool, true, false, cond, List, [], ◌∷◌, ◌++◌, map, filter, length, get_or, drop, refl, sym, ap, ◌∙◌, append_assoc, append-nil}
use Rattle.std.proofs.lemmas.List.{drop_more, at_drop_all}
use Rattle.wat_read_tokens.specs.Marks.{only}

pub front : {X : Type 0} (ts : List X) (i : ℕ) (t : X) → i < length ts → t ≡ get_or ts i t → drop i ts ≡ t ∷ drop (i + 1) ts
front ts i t lt is = drop_more ts i t lt ∙ ap (λ y. y ∷ drop (i + 1) ts) (sym is)

-- One item more: what the rest gives begins with what the item gives.
pub grows : {X Y : Type 0} (F G : List X → List Y) (ts : List X) (i : ℕ) (t : X) (old new g whole : List Y) → i < length ts → t ≡ get_or ts i t
    → ((xs : List X) → F (t ∷ xs) ≡ g ++ G xs) → new ≡ old ++ g → old ++ F (drop i ts) ≡ whole → new ++ G (drop (i + 1) ts) ≡ whole
grows F G ts i t old new g whole lt is cons put h =
    ap (λ ys. ys ++ G (drop (i + 1) ts)) put ∙ append_assoc old g (G (drop (i + 1) ts))
    ∙ ap (λ ys. old ++ ys) (sym (cons (drop (i + 1) ts)))
    ∙ ap (λ xs. old ++ F xs) (sym (front ts i t lt is)) ∙ h

pub grown : {X Y : Type 0} (F : List X → List Y) (ts : List X) (i : ℕ) (old whole : List Y) → length ts ≤ i → F [] ≡ [] → old ++ F (drop i ts) ≡ whole → old ≡ whole
grown F ts i old whole le nil h =
    sym (append-nil old) ∙ ap (λ ys. old ++ ys) (sym nil) ∙ ap (λ ys. old ++ ys) (sym (at_drop_all F ts i le)) ∙ h

pub only_front : {X Y : Type 0} (p : X → Bool) (f : X → Y) (x : X) (xs : List X) → map f (filter p (x ∷ xs)) ≡ only (p x) (f x) ++ map f (filter p xs)
only_front p f x xs = by (p x)
  where
    by : (b : Bool) → map f (cond b (x ∷ filter p xs) (filter p xs)) ≡ only b (f x) ++ map f (filter p xs)
    by true = refl
    by false = refl

-- .. where what the item gives depends on those behind it
pub grows_at : {X Y : Type 0} (F G : List X → List Y) (ts : List X) (i : ℕ) (t : X) (old new g whole : List Y) → i < length ts → t ≡ get_or ts i t
    → F (t ∷ drop (i + 1) ts) ≡ g ++ G (drop (i + 1) ts) → new ≡ old ++ g → old ++ F (drop i ts) ≡ whole → new ++ G (drop (i + 1) ts) ≡ whole
grows_at F G ts i t old new g whole lt is cons put h =
    ap (λ ys. ys ++ G (drop (i + 1) ts)) put ∙ append_assoc old g (G (drop (i + 1) ts))
    ∙ ap (λ ys. old ++ ys) (sym cons)
    ∙ ap (λ xs. old ++ F xs) (sym (front ts i t lt is)) ∙ h
