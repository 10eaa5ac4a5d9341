-- The first of refusals, whatever is looked at first.
use Rattle.std.proofs.Common.{◌≡◌, ℕ, ◌+◌, ◌<◌, ◌≤◌, Bool, true, false, cond, ◌&&◌, ◌||◌, List, [], ◌∷◌, ◌++◌, length, get_or, drop, Option, Some, None, refl, sym, ap, ◌∙◌, arith}
use Rattle.std.proofs.lemmas.List.{at_drop_all}
use Rattle.std.proofs.lemmas.Bool.Decides.{nat_tests}
use Rattle.std.specs.Prelude.{nat_lt, nat_le, if◌then◌else◌}
use Rattle.std.specs.List.{flat_map, filter}
use Rattle.wat_lang.specs.Rows.{Refusal, row_number, is_before, lesser, least}
use Rattle.wat_read_tokens.proofs.Steps.{front}
use Rattle.wat_read_refusals.specs.Joined.{join}

abbrev comes : (x i y j : ℕ) → Bool
comes x i y j = nat_lt x y || (nat_le x y && nat_lt i j)

comes_on : (x i y j z k : ℕ) → comes x i y j ≡ true → comes y j z k ≡ true → comes x i z k ≡ true
comes_on x i y j z k h g = grind (arith, nat_tests)

comes_not : (x i y j z k : ℕ) → comes x i y j ≡ false → comes y j z k ≡ false → comes x i z k ≡ false
comes_not x i y j z k h g = grind (arith, nat_tests)

before_on : (a b c : Refusal) → is_before a b ≡ true → is_before b c ≡ true → is_before a c ≡ true
before_on a b c h g = comes_on a.at (row_number a.row) b.at (row_number b.row) c.at (row_number c.row) h g

before_not : (a b c : Refusal) → is_before a b ≡ false → is_before b c ≡ false → is_before a c ≡ false
before_not a b c h g = comes_not a.at (row_number a.row) b.at (row_number b.row) c.at (row_number c.row) h g

pub join_none : (a : Option Refusal) → join a None ≡ a
join_none None = refl
join_none (Some a) = refl

three : (a b c : Refusal) (s t : Bool) → is_before b a ≡ s → is_before c b ≡ t → lesser (if s then b else a) (Some c) ≡ lesser a (Some (if t then c else b))
three a b c true true es et =
    ap (λ (x : Bool). if x then c else b) et ∙ sym (ap (λ (x : Bool). if x then c else a) (before_on c b a et es))
three a b c true false es et =
    ap (λ (x : Bool). if x then c else b) et ∙ sym (ap (λ (x : Bool). if x then b else a) es)
three a b c false true es et = refl
three a b c false false es et =
    ap (λ (x : Bool). if x then c else a) (before_not c b a et es) ∙ sym (ap (λ (x : Bool). if x then b else a) es)

pub join_assoc : (a b c : Option Refusal) → join (join a b) c ≡ join a (join b c)
join_assoc None b c = refl
join_assoc (Some a) None c = refl
join_assoc (Some a) (Some b) None = refl
join_assoc (Some a) (Some b) (Some c) = ap (λ (r : Refusal). Some r) (three a b c (is_before b a) (is_before c b) refl refl)

pub least_append : (xs ys : List Refusal) → least (xs ++ ys) ≡ join (least xs) (least ys)
least_append [] ys = refl
least_append (x ∷ xs) ys = ap (join (Some x)) (least_append xs ys) ∙ sym (join_assoc (Some x) (least xs) (least ys))

pub both : (r : Option Refusal) (xs ys : List Refusal) → join (join r (least xs)) (least ys) ≡ join r (least (xs ++ ys))
both r xs ys = join_assoc r (least xs) (least ys) ∙ ap (join r) (sym (least_append xs ys))

pub then_both : (r s t : Option Refusal) (xs ys : List Refusal) → s ≡ join r (least xs) → t ≡ join s (least ys) → t ≡ join r (least (xs ++ ys))
then_both r s t xs ys e f = f ∙ ap (λ q. join q (least ys)) e ∙ both r xs ys

-- ---- walks

pub noted : {X : Type 0} (F G : List X → List Refusal) (ts : List X) (i : ℕ) (t : X) (old new whole : Option Refusal) (g : List Refusal) → i < length ts → t ≡ get_or ts i t
    → ((xs : List X) → F (t ∷ xs) ≡ g ++ G xs) → new ≡ join old (least g) → join old (least (F (drop i ts))) ≡ whole → join new (least (G (drop (i + 1) ts))) ≡ whole
noted F G ts i t old new whole g lt is cons put h =
    let rest = drop (i + 1) ts in
    ap (λ r. join r (least (G rest))) put ∙ both old g (G rest)
    ∙ ap (λ rs. join old (least rs)) (sym (cons rest))
    ∙ ap (λ xs. join old (least (F xs))) (sym (front ts i t lt is)) ∙ h

pub noted_all : {X : Type 0} (F : List X → List Refusal) (ts : List X) (i : ℕ) (old whole : Option Refusal) → length ts ≤ i → F [] ≡ [] → join old (least (F (drop i ts))) ≡ whole → old ≡ whole
noted_all F ts i old whole le nil h =
    sym (join_none old) ∙ ap (λ rs. join old (least rs)) (sym nil) ∙ ap (λ rs. join old (least rs)) (sym (at_drop_all F ts i le)) ∙ h

pub chosen_front : {X : Type 0} (p : X → Bool) (f : X → List Refusal) (x : X) (xs : List X) → flat_map f (filter p (x ∷ xs)) ≡ (if p x then f x else []) ++ flat_map f (filter p xs)
chosen_front p f x xs = by (p x)
  where
    by : (b : Bool) → flat_map f (cond b (x ∷ filter p xs) (filter p xs)) ≡ (if b then f x else []) ++ flat_map f (filter p xs)
    by true = refl
    by false = refl
