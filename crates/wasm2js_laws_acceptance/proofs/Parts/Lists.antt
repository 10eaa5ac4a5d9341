-- Places in lists, and the number of a function among those of a module.
use Rattle.std.proofs.Common.{◌≡◌, ℕ, zero, suc, ◌+◌, Bool, true, false, ◌||◌, List, [], ◌∷◌, ◌++◌, map, length, Some, inl, inr, refl, ap, ◌∙◌, subst, arith}
use Rattle.std.specs.Prelude.{slice_get, bytes_eq, if◌then◌else◌}
use Rattle.asm_lang.specs.Modules.{Function}
use Rattle.asm_lang_valid.specs.Refusal.{function_number}
use Rattle.asm_lang_valid.specs.Scope.{is_in}
use Rattle.wasm2js_laws_acceptance.proofs.ProvidedDeclared.{texts_of}
use Rattle.wasm2js_laws_acceptance.proofs.ProvidedEntries.{In, is_itself}
use Rattle.wasm2js_laws_acceptance.proofs.NamesFresh.{NewTexts}

-- ---- places

pub in_front : {A : Type 0} → (xs ys : List A) (i : ℕ) (x : A) → slice_get xs i ≡ Some x → slice_get (xs ++ ys) i ≡ Some x
in_front [] ys i x h = cc h
in_front (y ∷ xs) ys zero x h = h
in_front (y ∷ xs) ys (suc i) x h = in_front xs ys i x h

pub behind : {A : Type 0} → (xs ys : List A) (i : ℕ) → slice_get (xs ++ ys) (length xs + i) ≡ slice_get ys i
behind [] ys i = let e : 0 + i ≡ i = omega arith in ap (slice_get ys) e
behind (x ∷ xs) ys i = let e : suc (length xs) + i ≡ suc (length xs + i) = omega arith in ap (slice_get (x ∷ (xs ++ ys))) e ∙ behind xs ys i

pub item_in : {A : Type 0} → (xs : List A) (i : ℕ) (x : A) → slice_get xs i ≡ Some x → In x xs
item_in [] i x h = cc h
item_in (y ∷ xs) zero x h = inl (cc h)
item_in (y ∷ xs) (suc i) x h = inr (item_in xs i x h)

pub record HasPlace {A : Type 0} (x : A) (xs : List A) : Type 0 where
  pub place : ℕ
  pub is_there : slice_get xs place ≡ Some x

pub place_in : {A : Type 0} → (x : A) (xs : List A) → In x xs → HasPlace x xs
place_in x [] h = absurd h
place_in x (y ∷ xs) (inl e) = record { place = 0; is_there = ap Some e }
place_in x (y ∷ xs) (inr h) = let it = place_in x xs h in record { place = suc it.place; is_there = it.is_there }

pub mapped_at : {A B : Type 0} → (f : A → B) (xs : List A) (i : ℕ) (x : A) → slice_get xs i ≡ Some x → slice_get (map f xs) i ≡ Some (f x)
mapped_at f [] i x h = cc h
mapped_at f (y ∷ xs) zero x h = let e : y ≡ x = cc h in ap (λ y. Some (f y)) e
mapped_at f (y ∷ xs) (suc i) x h = mapped_at f xs i x h

-- what an item of a mapped list is of
pub record IsOf {A B : Type 0} (f : A → B) (xs : List A) (i : ℕ) (y : B) : Type 0 where
  pub item : A
  pub is_there : slice_get xs i ≡ Some item
  pub is_image : f item ≡ y

pub mapped_from : {A B : Type 0} → (f : A → B) (xs : List A) (i : ℕ) (y : B) → slice_get (map f xs) i ≡ Some y → IsOf f xs i y
mapped_from f [] i y h = cc h
mapped_from f (x ∷ xs) zero y h = record { item = x; is_there = refl; is_image = cc h }
mapped_from f (x ∷ xs) (suc i) y h = let it = mapped_from f xs i y h in record { item = it.item; is_there = it.is_there; is_image = it.is_image }

-- ---- names

or_true : (b : Bool) → (b || true) ≡ true
or_true true = refl
or_true false = refl

pub name_in : (ns : List (List ℕ)) (i : ℕ) (n : List ℕ) → slice_get ns i ≡ Some n → is_in n ns ≡ true
name_in [] i n h = cc h
name_in (x ∷ ns) zero n h = let e : x ≡ n = cc h in ap (λ b. b || is_in n ns) (ap (λ x. bytes_eq x n) e ∙ is_itself n)
name_in (x ∷ ns) (suc i) n h = ap (λ b. bytes_eq x n || b) (name_in ns i n h) ∙ or_true (bytes_eq x n)

or_false : (a b : Bool) → (a || b) ≡ false → (a ≡ false) × (b ≡ false)
or_false true b h = cc h
or_false false b h = (refl, h)

apart : (before : List (List ℕ)) (x n : List ℕ) → is_in n (before ++ x ∷ []) ≡ false → (is_in n before ≡ false) × (bytes_eq x n ≡ false)
apart [] x n h = (refl, (or_false (bytes_eq x n) false h).0)
apart (y ∷ before) x n h =
    let p = or_false (bytes_eq y n) (is_in n (before ++ x ∷ [])) h in
    let q = apart before x n p.1 in
    (ap (λ b. b || is_in n before) p.0 ∙ q.0, q.1)

-- a text that stands among new ones isn't one of those before them
stands_new : (before ts : List (List ℕ)) (i : ℕ) (t : List ℕ) → NewTexts before ts → slice_get ts i ≡ Some t → is_in t before ≡ false
stands_new before [] i t h e = cc e
stands_new before (x ∷ ts) zero t h e = let same : x ≡ t = cc e in subst (λ t. is_in t before ≡ false) same h.0
stands_new before (x ∷ ts) (suc i) t h e = (apart before x t (stands_new (before ++ x ∷ []) ts i t h.1 e)).0

pub number_is : (before : List (List ℕ)) (fs : List Function) (i : ℕ) (f : Function) → NewTexts before (texts_of fs) → slice_get fs i ≡ Some f → function_number fs f.name ≡ i
number_is before [] i f h e = cc e
number_is before (g ∷ fs) zero f h e =
    let same : g ≡ f = cc e in
    let yes : bytes_eq g.name f.name ≡ true = ap (λ (g : Function). bytes_eq g.name f.name) same ∙ is_itself f.name in
    ap (λ b. if b then 0 else suc (function_number fs f.name)) yes
number_is before (g ∷ fs) (suc i) f h e =
    let no = (apart before g.name f.name (stands_new (before ++ g.name ∷ []) (texts_of fs) i f.name h.1 (mapped_at (λ (f : Function). f.name) fs i f e))).1 in
    ap (λ b. if b then 0 else suc (function_number fs f.name)) no ∙ ap suc (number_is (before ++ g.name ∷ []) fs i f h.1 e)
