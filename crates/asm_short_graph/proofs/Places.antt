-- Where items of lists stand, and the numbers of distinct names.
use Rattle.std.proofs.Common.{◌≡◌, ℕ, zero, suc, ◌+◌, Bool, true, false, List, [], ◌∷◌, ◌++◌, map, length, Some, ◌⊎◌, inl, inr, refl, sym, ap, ◌∙◌, subst, arith, zero-add}
use Rattle.std.proofs.lemmas.Bool.{false≢true}
use Rattle.std.proofs.lemmas.Option.{slice_get-map}
use Rattle.std.specs.Prelude.{if◌then◌else◌, bytes_eq, slice_get, option_map, Contains}
use Rattle.asm_lang_valid.specs.Scope.{is_in}
use Rattle.asm_laws_short.proofs.Lists.{same_name, itself, or_left, or_right, Distinct}
use Rattle.asm_laws_short.proofs.Kept.{contains_here, contains_later, contains_split, contains_none}
use Rattle.asm_short_graph.specs.Graphs.{first_number}

pub record PlaceOf {A : Type 0} (xs : List A) (x : A) : Type 0 where
  pub place : ℕ
  pub there : slice_get xs place ≡ Some x

pub placed : {A : Type 0} (xs : List A) (x : A) → Contains xs x → PlaceOf xs x
placed [] x c = absurd (contains_none x c)
placed {A} (y ∷ ys) x c = by (contains_split x y ys c) (placed ys x)
  where
    by : (y ≡ x) ⊎ Contains ys x → (Contains ys x → PlaceOf ys x) → PlaceOf (y ∷ ys) x
    by (inl e) rest = record { place = 0; there = ap (λ (z : A). Some z) e }
    by (inr c) rest = let r = rest c in record { place = suc r.place; there = r.there }

pub contains_at : {A : Type 0} (xs : List A) (k : ℕ) (x : A) → slice_get xs k ≡ Some x → Contains xs x
contains_at [] k x h = absurd (cc h)
contains_at (y ∷ ys) zero x h = contains_here x y ys (cc h)
contains_at (y ∷ ys) (suc k) x h = contains_later x y ys (contains_at ys k x h)

pub one_there : {A : Type 0} (xs : List A) (k : ℕ) (x y : A) → slice_get xs k ≡ Some x → slice_get xs k ≡ Some y → x ≡ y
one_there xs k x y h l = cc

pub mapped_at : {A B : Type 0} (f : A → B) (xs : List A) (k : ℕ) (x : A) → slice_get xs k ≡ Some x → slice_get (map f xs) k ≡ Some (f x)
mapped_at f xs k x h = slice_get-map f xs k ∙ ap (option_map f) h

pub left_at : {A : Type 0} (xs ys : List A) (k : ℕ) (x : A) → slice_get xs k ≡ Some x → slice_get (xs ++ ys) k ≡ Some x
left_at [] ys k x h = absurd (cc h)
left_at (z ∷ zs) ys zero x h = h
left_at (z ∷ zs) ys (suc k) x h = left_at zs ys k x h

pub right_at : {A : Type 0} (xs ys : List A) (k : ℕ) (x : A) → slice_get ys k ≡ Some x → slice_get (xs ++ ys) (length xs + k) ≡ Some x
right_at [] ys k x h = ap (slice_get ys) (zero-add k) ∙ h
right_at (z ∷ zs) ys k x h = let e : suc (length zs) + k ≡ suc (length zs + k) = omega arith in ap (slice_get (z ∷ (zs ++ ys))) e ∙ right_at zs ys k x h

-- ---- numbers of names

pub in_at : (xs : List (List ℕ)) (k : ℕ) (n : List ℕ) → slice_get xs k ≡ Some n → is_in n xs ≡ true
in_at [] k n h = absurd (cc h)
in_at (x ∷ xs) zero n h = let e : x ≡ n = cc h in or_left (bytes_eq x n) _ (subst (λ z. bytes_eq x z ≡ true) e (itself x))
in_at (x ∷ xs) (suc k) n h = or_right (bytes_eq x n) _ (in_at xs k n h)

pub number_at : (xs : List (List ℕ)) (k : ℕ) (n : List ℕ) → Distinct xs → slice_get xs k ≡ Some n → first_number xs n ≡ k
number_at [] k n d h = absurd (cc h)
number_at (x ∷ xs) zero n d h = let e : x ≡ n = cc h in let same : bytes_eq x n ≡ true = subst (λ z. bytes_eq x z ≡ true) e (itself x) in ap (λ b. if b then 0 else suc (first_number xs n)) same
number_at (x ∷ xs) (suc k) n d h = by (bytes_eq x n) refl (number_at xs k n d.1 h)
  where
    by : (b : Bool) → bytes_eq x n ≡ b → first_number xs n ≡ k → (if b then 0 else suc (first_number xs n)) ≡ suc k
    by true e r = absurd (false≢true (sym d.0 ∙ subst (λ z. is_in z xs ≡ true) (sym (same_name x n e)) (in_at xs k n h)))
    by false e r = ap (λ k. suc k) r
