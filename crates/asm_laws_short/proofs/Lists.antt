-- Lists of names: which are distinct, which are parts of others, and what a list of new names gives.
use Rattle.std.proofs.Common.{◌≡◌, ℕ, zero, suc, ◌<◌, Bool, true, false, ◌||◌, List, [], ◌∷◌, ◌++◌, length, take, drop, Option, Some, None, refl, sym, ap, ◌∙◌, subst, ◌⊎◌, inl, inr, arith}
use Rattle.std.proofs.lemmas.Slice.Eq.{bytes_eq-Decides}
use Rattle.std.specs.Prelude.{if◌then◌else◌, map, bytes_eq, option_map, slice_index_or, Contains}
use Rattle.std.specs.List.{AllByRecursion}
use Rattle.asm_lang_valid.specs.Scope.{is_in}
use Rattle.asm_short_lang.specs.Renaming.{in_place}
use Rattle.asm_laws_alike.specs.Places.{place_of}

-- ---- names

pub same_name : (x n : List ℕ) → bytes_eq x n ≡ true → x ≡ n
same_name x n e = (bytes_eq-Decides x n).0 e

pub itself : (n : List ℕ) → bytes_eq n n ≡ true
itself n = (bytes_eq-Decides n n).1 refl

pub other_name : (x n : List ℕ) → (x ≡ n → ⊥) → bytes_eq x n ≡ false
other_name x n h = by (bytes_eq x n) refl
  where
    by : (b : Bool) → bytes_eq x n ≡ b → bytes_eq x n ≡ false
    by true e = absurd (h (same_name x n e))
    by false e = e

pub either_false : (a b : Bool) → (a || b) ≡ false → (a ≡ false) × (b ≡ false)
either_false true b h = absurd (cc h)
either_false false b h = (refl, h)

pub or_true : (a b : Bool) → (a || b) ≡ true → (a ≡ true) ⊎ (b ≡ true)
or_true true b h = inl refl
or_true false b h = inr h

pub or_left : (a b : Bool) → a ≡ true → (a || b) ≡ true
or_left true b h = refl
or_left false b h = absurd (cc h)

pub or_right : (a b : Bool) → b ≡ true → (a || b) ≡ true
or_right true b h = refl
or_right false b h = h

pub both_false : (a b : Bool) → a ≡ false → b ≡ false → (a || b) ≡ false
both_false true b h k = h
both_false false b h k = k

pub not_in : (n : List ℕ) (xs : List (List ℕ)) → (is_in n xs ≡ true → ⊥) → is_in n xs ≡ false
not_in n xs h = by (is_in n xs) refl
  where
    by : (b : Bool) → is_in n xs ≡ b → is_in n xs ≡ false
    by true e = absurd (h e)
    by false e = e

pub in_append : (n : List ℕ) (xs ys : List (List ℕ)) → is_in n (xs ++ ys) ≡ (is_in n xs || is_in n ys)
in_append n [] ys = refl
in_append n (x ∷ xs) ys = by (bytes_eq x n) (in_append n xs ys)
  where
    by : (b : Bool) → is_in n (xs ++ ys) ≡ (is_in n xs || is_in n ys) → (b || is_in n (xs ++ ys)) ≡ ((b || is_in n xs) || is_in n ys)
    by true e = refl
    by false e = e

pub in_left : (n : List ℕ) (xs ys : List (List ℕ)) → is_in n xs ≡ true → is_in n (xs ++ ys) ≡ true
in_left n xs ys h = in_append n xs ys ∙ or_left (is_in n xs) (is_in n ys) h

pub in_right : (n : List ℕ) (xs ys : List (List ℕ)) → is_in n ys ≡ true → is_in n (xs ++ ys) ≡ true
in_right n xs ys h = in_append n xs ys ∙ or_right (is_in n xs) (is_in n ys) h

pub in_either : (n : List ℕ) (xs ys : List (List ℕ)) → is_in n (xs ++ ys) ≡ true → (is_in n xs ≡ true) ⊎ (is_in n ys ≡ true)
in_either n xs ys h = or_true (is_in n xs) (is_in n ys) (sym (in_append n xs ys) ∙ h)

pub in_neither : (n : List ℕ) (xs ys : List (List ℕ)) → is_in n (xs ++ ys) ≡ false → (is_in n xs ≡ false) × (is_in n ys ≡ false)
in_neither n xs ys h = either_false (is_in n xs) (is_in n ys) (sym (in_append n xs ys) ∙ h)

-- ---- distinct names

abbrev pub Distinct : List (List ℕ) → Type 0
Distinct [] = Unit {0}
Distinct (x ∷ xs) = (is_in x xs ≡ false) × Distinct xs

-- no name of the first list is in the second
abbrev pub Apart : List (List ℕ) → List (List ℕ) → Type 0
Apart xs ys = (n : List ℕ) → is_in n xs ≡ true → is_in n ys ≡ false

pub distinct_parts : (xs ys : List (List ℕ)) → Distinct (xs ++ ys) → Distinct xs × Distinct ys × Apart xs ys
distinct_parts [] ys h = (tt, h, λ n e. absurd (cc e))
distinct_parts (x ∷ xs) ys h =
    let r = distinct_parts xs ys h.1 in
    let k = in_neither x xs ys h.0 in
    ((k.0, r.0), r.1, λ n e. by n (or_true (bytes_eq x n) (is_in n xs) e) k.1 r.2)
  where
    by : (n : List ℕ) → (bytes_eq x n ≡ true) ⊎ (is_in n xs ≡ true) → is_in x ys ≡ false → Apart xs ys → is_in n ys ≡ false
    by n (inl e) k a = subst (λ z. is_in z ys ≡ false) (same_name x n e) k
    by n (inr e) k a = a n e

pub distinct_both : (xs ys : List (List ℕ)) → Distinct xs → Distinct ys → Apart xs ys → Distinct (xs ++ ys)
distinct_both [] ys h k a = k
distinct_both (x ∷ xs) ys h k a = (
  in_append x xs ys ∙ both_false (is_in x xs) (is_in x ys) h.0 (a x (or_left (bytes_eq x x) (is_in x xs) (itself x))),
  distinct_both xs ys h.1 k (λ n e. a n (or_right (bytes_eq x n) (is_in n xs) e)),
)

pub in_take : (n : List ℕ) (k : ℕ) (xs : List (List ℕ)) → is_in n (take k xs) ≡ true → is_in n xs ≡ true
in_take n zero xs h = absurd (cc h)
in_take n (suc k) [] h = h
in_take n (suc k) (x ∷ xs) h = by (bytes_eq x n) (in_take n k xs) h
  where
    by : (b : Bool) → (is_in n (take k xs) ≡ true → is_in n xs ≡ true) → (b || is_in n (take k xs)) ≡ true → (b || is_in n xs) ≡ true
    by true rest h = refl
    by false rest h = rest h

pub distinct_take : (k : ℕ) (xs : List (List ℕ)) → Distinct xs → Distinct (take k xs)
distinct_take zero xs h = tt
distinct_take (suc k) [] h = tt
distinct_take (suc k) (x ∷ xs) h = (not_in x (take k xs) (λ e. let i = in_take x k xs e in let j = h.0 in cc), distinct_take k xs h.1)

pub front_and_rest : (k : ℕ) (xs : List (List ℕ)) → take k xs ++ drop k xs ≡ xs
front_and_rest zero xs = refl
front_and_rest (suc k) [] = refl
front_and_rest (suc k) (x ∷ xs) = ap (λ ys. x ∷ ys) (front_and_rest k xs)

-- ---- parts of lists, in their order

pub data IsPartOf {A : Type 0} : List A → List A → Type 0 where
  no_part : IsPartOf [] []
  stays : {x : A} {xs ys : List A} → IsPartOf xs ys → IsPartOf (x ∷ xs) (x ∷ ys)
  goes : {x : A} {xs ys : List A} → IsPartOf xs ys → IsPartOf xs (x ∷ ys)

pub whole_part : {A : Type 0} (xs : List A) → IsPartOf xs xs
whole_part [] = no_part
whole_part (x ∷ xs) = stays (whole_part xs)

pub parts_append : {A : Type 0} {xs xs' : List A} (ys ys' : List A) → IsPartOf xs xs' → IsPartOf ys ys' → IsPartOf (xs ++ ys) (xs' ++ ys')
parts_append ys ys' no_part k = k
parts_append ys ys' (stays h) k = stays (parts_append ys ys' h k)
parts_append ys ys' (goes h) k = goes (parts_append ys ys' h k)

pub part_map : {A B : Type 0} (f : A → B) {xs ys : List A} → IsPartOf xs ys → IsPartOf (map f xs) (map f ys)
part_map f no_part = no_part
part_map f (stays h) = stays (part_map f h)
part_map f (goes h) = goes (part_map f h)

pub in_part : (n : List ℕ) {xs ys : List (List ℕ)} → IsPartOf xs ys → is_in n xs ≡ true → is_in n ys ≡ true
in_part n no_part h = h
in_part n (stays {x = x} {xs = xs} {ys = ys} k) h = by (bytes_eq x n) (in_part n k) h
  where
    by : (b : Bool) → (is_in n xs ≡ true → is_in n ys ≡ true) → (b || is_in n xs) ≡ true → (b || is_in n ys) ≡ true
    by true rest h = refl
    by false rest h = rest h
in_part n (goes {x = x} {ys = ys} k) h = or_right (bytes_eq x n) (is_in n ys) (in_part n k h)

pub distinct_part : {xs ys : List (List ℕ)} → IsPartOf xs ys → Distinct ys → Distinct xs
distinct_part no_part h = tt
distinct_part (stays {x = x} {xs = xs} k) h = (not_in x xs (λ e. let i = in_part x k e in let j = h.0 in cc), distinct_part k h.1)
distinct_part (goes k) h = distinct_part k h.1

-- ---- the new name at the place of an old one

pub no_place : (olds news : List (List ℕ)) (n : List ℕ) → is_in n olds ≡ false → in_place olds news n ≡ None
no_place [] news n h = refl
no_place (o ∷ os) [] n h = refl
no_place (o ∷ os) (w ∷ ws) n h = by (bytes_eq o n) (no_place os ws n) h
  where
    by : (b : Bool) → (is_in n os ≡ false → in_place os ws n ≡ None) → (b || is_in n os) ≡ false → (if b then Some w else in_place os ws n) ≡ None
    by true rest h = absurd (cc h)
    by false rest h = rest h

pub record Placed (olds news : List (List ℕ)) (n : List ℕ) : Type 0 where
  pub name : List ℕ
  pub is : in_place olds news n ≡ Some name
  pub among : is_in name news ≡ true

pub placed : (olds news : List (List ℕ)) (n : List ℕ) → length news ≡ length olds → is_in n olds ≡ true → Placed olds news n
placed [] news n l h = absurd (cc h)
placed (o ∷ os) [] n l h = absurd (omega (arith, l))
placed (o ∷ os) (w ∷ ws) n l h = by (bytes_eq o n) refl (placed os ws n (omega (arith, l))) h
  where
    by : (b : Bool) → bytes_eq o n ≡ b → (is_in n os ≡ true → Placed os ws n) → (b || is_in n os) ≡ true → Placed (o ∷ os) (w ∷ ws) n
    by true e rest h = record { name = w; is = rw e refl; among = or_left (bytes_eq w w) (is_in w ws) (itself w) }
    by false e rest h = let r = rest h in record { name = r.name; is = rw e r.is; among = or_right (bytes_eq w r.name) (is_in r.name ws) r.among }

-- what is in place is among the new names
pub in_place_is_new : (olds news : List (List ℕ)) (n a : List ℕ) → in_place olds news n ≡ Some a → is_in a news ≡ true
in_place_is_new [] news n a h = absurd (cc h)
in_place_is_new (o ∷ os) [] n a h = absurd (cc h)
in_place_is_new (o ∷ os) (w ∷ ws) n a h = by (bytes_eq o n) (in_place_is_new os ws n a) h
  where
    by : (b : Bool) → (in_place os ws n ≡ Some a → is_in a ws ≡ true) → (if b then Some w else in_place os ws n) ≡ Some a → (bytes_eq w a || is_in a ws) ≡ true
    by true rest h = let e : w ≡ a = cc h in or_left (bytes_eq w a) (is_in a ws) (subst (λ z. bytes_eq w z ≡ true) e (itself w))
    by false rest h = or_right (bytes_eq w a) (is_in a ws) (rest h)

-- distinct new names tell old ones apart
pub one_to_one : (olds news : List (List ℕ)) (o n a b : List ℕ) → Distinct news → in_place olds news o ≡ Some a → in_place olds news n ≡ Some b → bytes_eq a b ≡ bytes_eq o n
one_to_one [] news o n a b d h k = absurd (cc h)
one_to_one (x ∷ xs) [] o n a b d h k = absurd (cc h)
one_to_one (x ∷ xs) (w ∷ ws) o n a b d h k = by (bytes_eq x o) (bytes_eq x n) refl refl (one_to_one xs ws o n a b d.1) h k
  where
    differ : (c : List ℕ) → is_in c ws ≡ true → w ≡ c → ⊥
    differ c i e = let j : is_in w ws ≡ true = subst (λ z. is_in z ws ≡ true) (sym e) i in let l = d.0 in cc

    by : (s t : Bool) → bytes_eq x o ≡ s → bytes_eq x n ≡ t → (in_place xs ws o ≡ Some a → in_place xs ws n ≡ Some b → bytes_eq a b ≡ bytes_eq o n)
        → (if s then Some w else in_place xs ws o) ≡ Some a → (if t then Some w else in_place xs ws n) ≡ Some b → bytes_eq a b ≡ bytes_eq o n
    by true true e f rest h k =
        let p : a ≡ b = cc in
        let q : o ≡ n = sym (same_name x o e) ∙ same_name x n f in
        subst (λ z. bytes_eq a z ≡ true) p (itself a) ∙ sym (subst (λ z. bytes_eq o z ≡ true) q (itself o))
    by true false e f rest h k =
        let p : w ≡ a = cc h in
        let i = in_place_is_new xs ws n b k in
        other_name a b (λ s. differ b i (p ∙ s)) ∙ sym (subst (λ z. bytes_eq z n ≡ false) (same_name x o e) f)
    by false true e f rest h k =
        let p : w ≡ b = cc k in
        let i = in_place_is_new xs ws o a h in
        other_name a b (λ s. differ a i (p ∙ sym s)) ∙ sym (other_name o n (λ s. let g : bytes_eq x o ≡ true = subst (λ z. bytes_eq x z ≡ true) (sym s) f in cc))
    by false false e f rest h k = rest h k

-- ---- places of names that are looked up one by one

-- the second name is to each of the new names what the first is to the old one
abbrev pub ToldApart : (look : List ℕ → List ℕ) → List (List ℕ) → (n n' : List ℕ) → Type 0
ToldApart look xs n n' = AllByRecursion (λ x. bytes_eq (look x) n' ≡ bytes_eq x n) xs

pub same_place : (look : List ℕ → List ℕ) (xs : List (List ℕ)) (n n' : List ℕ) → ToldApart look xs n n' → place_of (map look xs) n' ≡ place_of xs n
same_place look [] n n' h = refl
same_place look (x ∷ xs) n n' h = let e = h.0 in let r = same_place look xs n n' h.1 in rw (e, r) refl

pub told_apart : (look : List ℕ → List ℕ) (xs : List (List ℕ)) (n n' : List ℕ) → ((x : List ℕ) → is_in x xs ≡ true → bytes_eq (look x) n' ≡ bytes_eq x n) → ToldApart look xs n n'
told_apart look [] n n' h = tt
told_apart look (x ∷ xs) n n' h = (h x (or_left (bytes_eq x x) (is_in x xs) (itself x)), told_apart look xs n n' (λ y e. h y (or_right (bytes_eq x y) (is_in y xs) e)))

pub nowhere : (xs : List (List ℕ)) (n : List ℕ) → is_in n xs ≡ false → place_of xs n ≡ None
nowhere [] n h = refl
nowhere (x ∷ xs) n h = let k = either_false (bytes_eq x n) (is_in n xs) h in let e = k.0 in let r = nowhere xs n k.1 in rw (e, r) refl

pub somewhere : (xs : List (List ℕ)) (n : List ℕ) → place_of xs n ≡ None → is_in n xs ≡ false
somewhere [] n h = refl
somewhere (x ∷ xs) n h = by (bytes_eq x n) (somewhere xs n) h
  where
    behind : (o : Option ℕ) → option_map (λ i. suc i) o ≡ None → o ≡ None
    behind None h = refl
    behind (Some i) h = absurd (cc h)

    by : (b : Bool) → (place_of xs n ≡ None → is_in n xs ≡ false) → (if b then Some 0 else option_map (λ i. suc i) (place_of xs n)) ≡ None → (b || is_in n xs) ≡ false
    by true rest h = absurd (cc h)
    by false rest h = rest (behind (place_of xs n) h)

-- ---- what holds of each element

pub all_from : {A : Type 0} (P : A → Type 0) (xs : List A) → ((x : A) → Contains xs x → P x) → AllByRecursion P xs
all_from P [] h = tt
all_from P (x ∷ xs) h = (h x (0, omega arith, refl), all_from P xs (λ y c. let lt = c.1 in h y (suc c.0, omega arith, c.2)))

pub all_at : {A : Type 0} (P : A → Type 0) (xs : List A) (x : A) → AllByRecursion P xs → Contains xs x → P x
all_at P [] x h c = let lt = c.1 in absurd (omega arith)
all_at P (y ∷ ys) x h c = by c.0 c.1 c.2 (all_at P ys x h.1)
  where
    by : (k : ℕ) → k < length (y ∷ ys) → slice_index_or (y ∷ ys) k x ≡ x → (Contains ys x → P x) → P x
    by zero lt e rest = subst P e h.0
    by (suc k) lt e rest = rest (k, omega arith, e)

pub all_both : {A : Type 0} (P : A → Type 0) (xs ys : List A) → AllByRecursion P (xs ++ ys) → AllByRecursion P xs × AllByRecursion P ys
all_both P [] ys h = (tt, h)
all_both P (x ∷ xs) ys h = let r = all_both P xs ys h.1 in ((h.0, r.0), r.1)

pub all_append : {A : Type 0} (P : A → Type 0) (xs ys : List A) → AllByRecursion P xs → AllByRecursion P ys → AllByRecursion P (xs ++ ys)
all_append P [] ys h k = k
all_append P (x ∷ xs) ys h k = (h.0, all_append P xs ys h.1 k)
