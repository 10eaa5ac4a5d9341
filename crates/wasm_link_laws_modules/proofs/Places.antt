-- Elements of lists in blocks by their places, and the places that they come to when some are left out.
use Rattle.std.proofs.Common.{◌≡◌, ◌⊎◌, inl, inr, ℕ, zero, suc, ◌+◌, ◌<◌, List, [], ◌∷◌, ◌++◌, length, replicate, Option, Some, None, refl, sym, ap, ◌∙◌, subst, arith, length-append}
use Rattle.std.specs.Prelude.{slice_get}
use Rattle.std.proofs.lemmas.List.{length-replicate}
use Rattle.std.proofs.lemmas.Option.{slice_get_within}
use Rattle.wasm_link_code.specs.Numbers.{places, unbound_count, counted, numbered}
use Rattle.wasm_link_laws_modules.specs.Kept.{kept}

module _ {A : Type 0} where
  pub get_second : (xs ys : List A) (i : ℕ) → slice_get (xs ++ ys) (length xs + i) ≡ slice_get ys i
  get_second [] ys i = let e : 0 + i ≡ i = omega arith in ap (slice_get ys) e
  get_second (x ∷ xs) ys i = let e : suc (length xs) + i ≡ suc (length xs + i) = omega arith in ap (slice_get (x ∷ (xs ++ ys))) e ∙ get_second xs ys i

  pub get_past : (xs ys : List A) (n i : ℕ) → length xs ≡ n → slice_get (xs ++ ys) (n + i) ≡ slice_get ys i
  get_past xs ys n i e = ap (λ k. slice_get (xs ++ ys) (k + i)) (sym e) ∙ get_second xs ys i

  pub get_first : (xs ys : List A) (i : ℕ) (x : A) → slice_get xs i ≡ Some x → slice_get (xs ++ ys) i ≡ Some x
  get_first [] ys i x h = absurd (cc h)
  get_first (y ∷ xs) ys zero x h = h
  get_first (y ∷ xs) ys (suc i) x h = get_first xs ys i x h

  pub get_within : (xs ys : List A) (i : ℕ) → i < length xs → slice_get (xs ++ ys) i ≡ slice_get xs i
  get_within [] ys i h = absurd (omega (arith, h))
  get_within (x ∷ xs) ys zero h = refl
  get_within (x ∷ xs) ys (suc i) h = get_within xs ys i (omega (arith, h))

  -- an element of two lists is in the first, or so many after it
  abbrev pub Splits : List A → List A → ℕ → A → Type 0
  Splits xs ys i x = (slice_get xs i ≡ Some x) ⊎ ((j : ℕ) × (i ≡ length xs + j) × (slice_get ys j ≡ Some x))

  pub splits : (xs ys : List A) (i : ℕ) (x : A) → slice_get (xs ++ ys) i ≡ Some x → Splits xs ys i x
  splits [] ys i x h = inr (i, omega arith, h)
  splits (y ∷ xs) ys zero x h = inl h
  splits (y ∷ xs) ys (suc i) x h = one_more (splits xs ys i x h)
    where
      one_more : Splits xs ys i x → Splits (y ∷ xs) ys (suc i) x
      one_more (inl p) = inl p
      one_more (inr p) = let e = p.1 in inr (p.0, omega (arith, e), p.2)

  pub get_there : (xs : List A) (i : ℕ) → i < length xs → (x : A) × (slice_get xs i ≡ Some x)
  get_there [] i h = absurd (omega (arith, h))
  get_there (x ∷ xs) zero h = (x, refl)
  get_there (x ∷ xs) (suc i) h = get_there xs i (omega (arith, h))

-- ---- lengths

pub length-places : (n : ℕ) (bs : List (Option ℕ)) → length (places n bs) ≡ length bs
length-places n [] = refl
length-places n (None ∷ bs) = ap suc (length-places (suc n) bs)
length-places n (Some b ∷ bs) = ap suc (length-places n bs)

pub length-counted : (n c : ℕ) → length (counted n c) ≡ c
length-counted n zero = refl
length-counted n (suc c) = ap suc (length-counted (suc n) c)

pub length-kept : {A : Type 0} → (bs : List (Option ℕ)) (xs : List A) → length bs ≡ length xs → length (kept bs xs) ≡ unbound_count bs
length-kept [] xs e = refl
length-kept (None ∷ bs) [] e = absurd (omega (arith, e))
length-kept (Some b ∷ bs) [] e = absurd (omega (arith, e))
length-kept (None ∷ bs) (x ∷ xs) e = ap suc (length-kept bs xs (omega (arith, e)))
length-kept (Some b ∷ bs) (x ∷ xs) e = length-kept bs xs (omega (arith, e))

-- ---- the place of an element that is kept

pub counted_at : (n c i : ℕ) → i < c → slice_get (counted n c) i ≡ Some (n + i)
counted_at n zero i h = absurd (omega (arith, h))
counted_at n (suc c) zero h = let e : n ≡ n + 0 = omega arith in ap Some e
counted_at n (suc c) (suc i) h = let e : suc n + i ≡ n + suc i = omega arith in counted_at (suc n) c i (omega (arith, h)) ∙ ap Some e

pub kept_at : {A : Type 0} → (n : ℕ) (bs : List (Option ℕ)) (xs : List A) (i : ℕ) (x : A) → slice_get bs i ≡ Some None → slice_get xs i ≡ Some x
    → (k : ℕ) × (slice_get (places n bs) i ≡ Some (n + k)) × (slice_get (kept bs xs) k ≡ Some x)
kept_at n [] xs i x b h = absurd (cc b)
kept_at n (None ∷ bs) [] i x b h = absurd (cc h)
kept_at n (Some c ∷ bs) [] i x b h = absurd (cc h)
kept_at n (None ∷ bs) (y ∷ xs) zero x b h = let e : n ≡ n + 0 = omega arith in (0, ap Some e, h)
kept_at n (None ∷ bs) (y ∷ xs) (suc i) x b h =
    let r = kept_at (suc n) bs xs i x b h in
    let e : suc n + r.0 ≡ n + suc r.0 = omega arith in (suc r.0, r.1 ∙ ap Some e, r.2)
kept_at n (Some c ∷ bs) (y ∷ xs) zero x b h = absurd (cc b)
kept_at n (Some c ∷ bs) (y ∷ xs) (suc i) x b h = kept_at n bs xs i x b h

-- ---- four blocks

module _ {A : Type 0} (bs cs : List (Option ℕ)) (ms os ds ps more : List A) (same_first : length bs ≡ length ms) (same_second : length cs ≡ length ds) where
  abbrev before : List A
  before = (ms ++ os) ++ (ds ++ ps)

  abbrev tests : List (Option ℕ)
  tests = (bs ++ replicate (length os) None) ++ (cs ++ replicate (length ps) None)

  abbrev after : List A
  after = (kept bs ms ++ kept cs ds) ++ (os ++ (ps ++ more))

  abbrev numbers : List ℕ
  numbers = numbered bs (length os) cs (length ps)

  abbrev u : ℕ
  u = unbound_count bs

  abbrev v : ℕ
  v = unbound_count cs

  abbrev Moves : ℕ → A → Type 0
  Moves a x = (k : ℕ) × (slice_get numbers a ≡ Some k) × (slice_get after k ≡ Some x)

  firsts : length (kept bs ms) ≡ u
  firsts = length-kept bs ms same_first

  both : length (kept bs ms ++ kept cs ds) ≡ u + v
  both =
      let e = length-append (kept bs ms) (kept cs ds) in
      let f = length-kept cs ds same_second in
      let g = firsts in
      omega (arith, e, f, g)

  first_numbers : length (places 0 bs ++ counted (u + v) (length os)) ≡ length (ms ++ os)
  first_numbers =
      let e = length-append (places 0 bs) (counted (u + v) (length os)) in
      let f = length-places 0 bs in
      let g = length-counted (u + v) (length os) in
      let h = length-append ms os in
      omega (arith, e, f, g, h, same_first)

  first_tests : length (bs ++ replicate (length os) None) ≡ length (ms ++ os)
  first_tests =
      let none : Option ℕ = None in
      let e = length-append bs (replicate (length os) none) in
      let f = length-replicate (length os) none in
      let h = length-append ms os in
      omega (arith, e, f, h, same_first)

  of_first_imports : (a : ℕ) (x : A) → slice_get ms a ≡ Some x → slice_get tests a ≡ Some None → Moves a x
  of_first_imports a x h t =
      let within : a < length bs = let e = slice_get_within ms a x h in omega (arith, e, same_first) in
      let wider : a < length (bs ++ replicate (length os) None) =
      let e = first_tests in let f = length-append ms os in omega (arith, e, f, within, same_first) in
      let unbound : slice_get bs a ≡ Some None =
      sym (get_within bs (replicate (length os) None) a within) ∙ sym (get_within (bs ++ replicate (length os) None) (cs ++ replicate (length ps) None) a wider) ∙ t in
      let r = kept_at 0 bs ms a x unbound h in (
        0 + r.0,
        get_first (places 0 bs ++ counted (u + v) (length os)) (places u cs ++ counted (u + v + length os) (length ps)) a (0 + r.0)
            (get_first (places 0 bs) (counted (u + v) (length os)) a (0 + r.0) r.1),
        let e : 0 + r.0 ≡ r.0 = omega arith in
            ap (slice_get after) e ∙ get_first (kept bs ms ++ kept cs ds) (os ++ (ps ++ more)) r.0 x (get_first (kept bs ms) (kept cs ds) r.0 x r.2),
      )

  of_first_own : (j : ℕ) (x : A) → slice_get os j ≡ Some x → Moves (length ms + j) x
  of_first_own j x h =
      let within = slice_get_within os j x h in
      let counts = counted_at (u + v) (length os) j within in
      let starts : length (places 0 bs) ≡ length ms = length-places 0 bs ∙ same_first in (
        u + v + j,
        get_first (places 0 bs ++ counted (u + v) (length os)) (places u cs ++ counted (u + v + length os) (length ps)) (length ms + j) (u + v + j)
            (get_past (places 0 bs) (counted (u + v) (length os)) (length ms) j starts ∙ counts),
        get_past (kept bs ms ++ kept cs ds) (os ++ (ps ++ more)) (u + v) j both ∙ get_first os (ps ++ more) j x h,
      )

  second_number : (j k : ℕ) → slice_get (places u cs ++ counted (u + v + length os) (length ps)) j ≡ Some k → slice_get numbers (length (ms ++ os) + j) ≡ Some k
  second_number j k h = get_past (places 0 bs ++ counted (u + v) (length os)) (places u cs ++ counted (u + v + length os) (length ps)) (length (ms ++ os)) j first_numbers ∙ h

  of_second_imports : (j : ℕ) (x : A) → slice_get ds j ≡ Some x → slice_get tests (length (ms ++ os) + j) ≡ Some None → Moves (length (ms ++ os) + j) x
  of_second_imports j x h t =
      let within : j < length cs = let e = slice_get_within ds j x h in omega (arith, e, same_second) in
      let unbound : slice_get cs j ≡ Some None =
      sym (get_within cs (replicate (length ps) None) j within)
      ∙ sym (get_past (bs ++ replicate (length os) None) (cs ++ replicate (length ps) None) (length (ms ++ os)) j first_tests) ∙ t in
      let r = kept_at u cs ds j x unbound h in (
        u + r.0,
        second_number j (u + r.0) (get_first (places u cs) (counted (u + v + length os) (length ps)) j (u + r.0) r.1),
        get_first (kept bs ms ++ kept cs ds) (os ++ (ps ++ more)) (u + r.0) x (get_past (kept bs ms) (kept cs ds) u r.0 firsts ∙ r.2),
      )

  of_second_own : (i : ℕ) (x : A) → slice_get ps i ≡ Some x → Moves (length (ms ++ os) + (length ds + i)) x
  of_second_own i x h =
      let within = slice_get_within ps i x h in
      let counts = counted_at (u + v + length os) (length ps) i within in
      let starts : length (places u cs) ≡ length ds = length-places u cs ∙ same_second in (
        u + v + length os + i,
        second_number (length ds + i) (u + v + length os + i) (get_past (places u cs) (counted (u + v + length os) (length ps)) (length ds) i starts ∙ counts),
        let e : u + v + length os + i ≡ u + v + (length os + i) = omega arith in
            ap (slice_get after) e ∙ get_past (kept bs ms ++ kept cs ds) (os ++ (ps ++ more)) (u + v) (length os + i) both
            ∙ get_second os (ps ++ more) i ∙ get_first ps more i x h,
      )

  -- an import that isn't bound stands at its number among the imports
  abbrev pub MovesIn : ℕ → A → Type 0
  MovesIn a x = (k : ℕ) × (slice_get numbers a ≡ Some k) × (slice_get (kept bs ms ++ kept cs ds) k ≡ Some x)

  pub first_import_at : (a : ℕ) (x : A) → slice_get ms a ≡ Some x → slice_get bs a ≡ Some None → MovesIn a x
  first_import_at a x h unbound =
      let r = kept_at 0 bs ms a x unbound h in
      let e : 0 + r.0 ≡ r.0 = omega arith in (
        0 + r.0,
        get_first (places 0 bs ++ counted (u + v) (length os)) (places u cs ++ counted (u + v + length os) (length ps)) a (0 + r.0)
            (get_first (places 0 bs) (counted (u + v) (length os)) a (0 + r.0) r.1),
        ap (slice_get (kept bs ms ++ kept cs ds)) e ∙ get_first (kept bs ms) (kept cs ds) r.0 x r.2,
      )

  pub second_import_at : (j : ℕ) (x : A) → slice_get ds j ≡ Some x → slice_get cs j ≡ Some None → MovesIn (length (ms ++ os) + j) x
  second_import_at j x h unbound =
      let r = kept_at u cs ds j x unbound h in (
        u + r.0,
        second_number j (u + r.0) (get_first (places u cs) (counted (u + v + length os) (length ps)) j (u + r.0) r.1),
        get_past (kept bs ms) (kept cs ds) u r.0 firsts ∙ r.2,
      )

  -- an element that isn't bound stands at its number
  pub numbered_at : (a : ℕ) (x : A) → slice_get before a ≡ Some x → slice_get tests a ≡ Some None → Moves a x
  numbered_at a x h t = by (splits (ms ++ os) (ds ++ ps) a x h)
    where
      first : Splits ms os a x → Moves a x
      first (inl p) = of_first_imports a x p t
      first (inr p) = subst (λ n. Moves n x) (sym p.1) (of_first_own p.0 x p.2)

      second : (j : ℕ) → a ≡ length (ms ++ os) + j → Splits ds ps j x → Moves a x
      second j e (inl p) = subst (λ n. Moves n x) (sym e) (of_second_imports j x p (ap (slice_get tests) (sym e) ∙ t))
      second j e (inr p) = subst (λ n. Moves n x) (sym (e ∙ ap (λ n. length (ms ++ os) + n) p.1)) (of_second_own p.0 x p.2)

      by : Splits (ms ++ os) (ds ++ ps) a x → Moves a x
      by (inl p) = first (splits ms os a x p)
      by (inr p) = second p.0 p.1 (splits ds ps p.0 x p.2)
