-- The shortest heap that holds some pages.
use Rattle.std.proofs.Common.{◌≡◌, ℕ, zero, suc, ◌⊎◌, inl, inr, ◌*◌, ◌%◌, ◌^◌, ◌≤◌, ◌<◌, Bool, true, false, ◌&&◌, ◌||◌, List, [], ◌∷◌, refl, ap, arith, subst}
use Rattle.std.specs.Prelude.{◌==◌, nat_le, if◌then◌else◌}
use Rattle.std.specs.List.{list_any, list_all}
use Rattle.std.proofs.lemmas.Bool.Decides.{nat_tests}
use Rattle.wasm_lang_exec.specs.Store.{page}
use Rattle.asm2wasm_lang.specs.Heaps.{is_short, is_heap_length}
use Rattle.wasm2js_lang.specs.Heaps.{first_no_less, heap_for}

abbrev exponents : List ℕ
exponents = 12 ∷ 13 ∷ 14 ∷ 15 ∷ 16 ∷ 17 ∷ 18 ∷ 19 ∷ 20 ∷ 21 ∷ 22 ∷ 23 ∷ []

-- each stands no higher than those after it, and below 2 ^ 24
abbrev rises : List ℕ → Bool
rises [] = true
rises (k ∷ ks) = (nat_le (2 ^ k) (2 ^ 24) && list_all (λ j. nat_le (2 ^ k) (2 ^ j)) ks) && rises ks

both : (a b : Bool) → (a && b) ≡ true → (a ≡ true) × (b ≡ true)
both true b h = (refl, h)
both false b h = cc h

le_of : (a b : ℕ) → nat_le a b ≡ true → a ≤ b
le_of a b h = grind (arith, nat_tests)

le_to : (a b : ℕ) → a ≤ b → nat_le a b ≡ true
le_to a b h = grind (arith, nat_tests)

gt_of : (a b : ℕ) → nat_le a b ≡ false → b < a
gt_of a b h = grind (arith, nat_tests)

same_of : (a b : ℕ) → (a == b) ≡ true → a ≡ b
same_of a b h = grind (arith, nat_tests)

-- ---- it holds them

holds_from : (ks : List ℕ) (n : ℕ) → n ≤ first_no_less ks n
holds_from [] n = omega arith
holds_from (k ∷ ks) n = by (holds_from ks n) (nat_le n (2 ^ k)) refl
  where
    by : n ≤ first_no_less ks n → (b : Bool) → nat_le n (2 ^ k) ≡ b → n ≤ (if b then 2 ^ k else first_no_less ks n)
    by more true e = le_of n (2 ^ k) e
    by more false e = more

pub holds : (pages : ℕ) → pages * page ≤ heap_for pages
unfolding heap_for
holds pages = holds_from exponents (pages * page)

-- ---- no shorter length does

least_among : (k size : ℕ) (ks : List ℕ) → list_all (λ j. nat_le (2 ^ k) (2 ^ j)) ks ≡ true → list_any (λ j. 2 ^ j == size) ks ≡ true → 2 ^ k ≤ size
least_among k size [] h is = cc is
least_among k size (j ∷ js) h is = by (least_among k size js (both _ _ h).1) (2 ^ j == size) refl is
  where
    by : (list_any (λ j. 2 ^ j == size) js ≡ true → 2 ^ k ≤ size) → (b : Bool) → (2 ^ j == size) ≡ b → (b || list_any (λ j. 2 ^ j == size) js) ≡ true → 2 ^ k ≤ size
    by more true e is = let same = same_of (2 ^ j) size e in let low = le_of (2 ^ k) (2 ^ j) (both _ _ h).0 in subst (λ n. 2 ^ k ≤ n) same low
    by more false e is = more is

least_short : (ks : List ℕ) (n size : ℕ) → rises ks ≡ true → list_any (λ j. 2 ^ j == size) ks ≡ true → n ≤ size → first_no_less ks n ≤ size
least_short [] n size r is h = cc is
least_short (k ∷ ks) n size r is h = by (λ is. least_short ks n size (both _ _ r).1 is h) (nat_le n (2 ^ k)) refl
  where
    low : 2 ^ k ≤ size
    low = at (2 ^ k == size) refl is
      where
        at : (b : Bool) → (2 ^ k == size) ≡ b → (b || list_any (λ j. 2 ^ j == size) ks) ≡ true → 2 ^ k ≤ size
        at true e is = subst (λ n. 2 ^ k ≤ n) (same_of (2 ^ k) size e) (omega arith)
        at false e is = least_among k size ks (both _ _ (both _ _ r).0).1 is

    further : nat_le n (2 ^ k) ≡ false → list_any (λ j. 2 ^ j == size) ks ≡ true
    further past = at (2 ^ k == size) refl is
      where
        at : (b : Bool) → (2 ^ k == size) ≡ b → (b || list_any (λ j. 2 ^ j == size) ks) ≡ true → list_any (λ j. 2 ^ j == size) ks ≡ true
        at true e is = let over = gt_of n (2 ^ k) past in let same = same_of (2 ^ k) size e in absurd (clash n (2 ^ k) size over same h)
          where
            clash : (n a size : ℕ) → a < n → a ≡ size → n ≤ size → ⊥
            clash n a size p q r = omega (arith, p, q, r)
        at false e is = is

    by : (list_any (λ j. 2 ^ j == size) ks ≡ true → first_no_less ks n ≤ size) → (b : Bool) → nat_le n (2 ^ k) ≡ b → (if b then 2 ^ k else first_no_less ks n) ≤ size
    by more true e = low
    by more false e = more (further e)

least_long : (ks : List ℕ) (n size : ℕ) → rises ks ≡ true → size % 2 ^ 24 ≡ 0 → 2 ^ 24 ≤ size → n ≤ size → first_no_less ks n ≤ size
least_long [] n size r whole long h = omega (arith, whole, long, h)
least_long (k ∷ ks) n size r whole long h = by (least_long ks n size (both _ _ r).1 whole long h) (nat_le n (2 ^ k)) refl
  where
    by : first_no_less ks n ≤ size → (b : Bool) → nat_le n (2 ^ k) ≡ b → (if b then 2 ^ k else first_no_less ks n) ≤ size
    by more true e = let low = le_of (2 ^ k) (2 ^ 24) (both _ _ (both _ _ r).0).0 in between (2 ^ k) size low long
      where
        between : (a size : ℕ) → a ≤ 2 ^ 24 → 2 ^ 24 ≤ size → a ≤ size
        between a size p q = omega (arith, p, q)
    by more false e = more

pub no_shorter : (pages size : ℕ) → is_heap_length size ≡ true → pages * page ≤ size → heap_for pages ≤ size
unfolding heap_for is_heap_length
no_shorter pages size is h = by (is_short size) refl is
  where
    by : (short : Bool) → is_short size ≡ short → short || ((size % 2 ^ 24 == 0) && (nat_le (2 ^ 24) size && nat_le size (2 ^ 28))) ≡ true → first_no_less exponents (pages * page) ≤ size
    by true e is = least_short exponents (pages * page) size refl e h
    by false e is =
        let whole = both _ _ is in
        least_long exponents (pages * page) size refl (same_of (size % 2 ^ 24) 0 whole.0) (le_of (2 ^ 24) size (both _ _ whole.1).0) h

-- ---- it is a length of a heap

-- one of the powers, or a multiple of 2 ^ 24
abbrev Found : List ℕ → ℕ → Type 0
Found ks v = (list_any (λ j. 2 ^ j == v) ks ≡ true) ⊎ ((v % 2 ^ 24 ≡ 0) × (2 ^ 24 ≤ v) × (v ≤ 2 ^ 28))

or_right : (a b : Bool) → b ≡ true → (a || b) ≡ true
or_right true b h = refl
or_right false b h = h

same_to : (a b : ℕ) → a ≡ b → (a == b) ≡ true
same_to a b h = grind (arith, nat_tests)

later : (k : ℕ) (ks : List ℕ) (v : ℕ) → Found ks v → Found (k ∷ ks) v
later k ks v (inl h) = inl (or_right (2 ^ k == v) (list_any (λ j. 2 ^ j == v) ks) h)
later k ks v (inr h) = inr h

found_in : (ks : List ℕ) (n : ℕ) → 1 ≤ n → n ≤ 2 ^ 28 → Found ks (first_no_less ks n)
found_in [] n low h = inr (omega arith, omega arith, omega arith)
found_in (k ∷ ks) n low h = by (found_in ks n low h) (nat_le n (2 ^ k)) refl
  where
    by : Found ks (first_no_less ks n) → (b : Bool) → nat_le n (2 ^ k) ≡ b → Found (k ∷ ks) (if b then 2 ^ k else first_no_less ks n)
    by more true e = inl (ap (λ b. b || list_any (λ j. 2 ^ j == 2 ^ k) ks) (same_to (2 ^ k) (2 ^ k) refl))
    by more false e = later k ks (first_no_less ks n) more

tested : (v : ℕ) → Found exponents v → is_heap_length v ≡ true
unfolding is_heap_length
tested v (inl h) = ap (λ b. b || ((v % 2 ^ 24 == 0) && (nat_le (2 ^ 24) v && nat_le v (2 ^ 28)))) h
tested v (inr h) = or_right (is_short v) ((v % 2 ^ 24 == 0) && (nat_le (2 ^ 24) v && nat_le v (2 ^ 28)))
    (let a = same_to (v % 2 ^ 24) 0 h.0 in let b = le_to (2 ^ 24) v h.1 in let c = le_to v (2 ^ 28) h.2 in rw (a, b, c) refl)

pub of_a_heap : (pages : ℕ) → pages ≤ 4096 → is_heap_length (heap_for pages) ≡ true
unfolding heap_for is_heap_length
of_a_heap zero h = refl
of_a_heap (suc n) h = tested (first_no_less exponents (suc n * page)) (found_in exponents (suc n * page) (omega arith) (omega (arith, h)))
