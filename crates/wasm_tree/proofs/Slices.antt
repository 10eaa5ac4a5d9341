-- Slices inside slices.
use Rattle.std.proofs.Common.{◌≡◌, ℕ, zero, suc, ◌+◌, ◌-◌, ◌≤◌, List, [], ◌∷◌, length, take, drop, refl, sym, ap, ◌∙◌, arith, Bor}
use Rattle.std.proofs.lemmas.List.{drop-take, drop-drop}
use Rattle.wasm_tree.specs.Slices.{Inside, Stands}

take_front : {X : Type 0} (n m : ℕ) (xs : List X) → n ≤ m → take n (take m xs) ≡ take n xs
take_front zero m xs le = refl
take_front (suc n) zero xs le = absurd (omega (arith, le))
take_front (suc n) (suc m) [] le = refl
take_front (suc n) (suc m) (x ∷ xs) le = ap (λ l. x ∷ l) (take_front n m xs (omega (arith, le)))

take_all : {X : Type 0} (xs : List X) → take (length xs) xs ≡ xs
take_all [] = refl
take_all (x ∷ xs) = ap (λ l. x ∷ l) (take_all xs)

-- a part of a part
part_of : (n m k j : ℕ) (xs : List ℕ) → n + k ≤ m → take n (drop k (take m (drop j xs))) ≡ take n (drop (j + k) xs)
part_of n m k j xs le =
    let more : m ≡ k + (m - k) = omega (arith, le) in
    let fits : n ≤ m - k = omega (arith, le) in
    ap (λ m. take n (drop k (take m (drop j xs)))) more
    ∙ ap (λ l. take n l) (drop-take k (m - k) (drop j xs))
    ∙ take_front n (m - k) (drop k (drop j xs)) fits
    ∙ ap (λ l. take n l) (drop-drop k j xs)

pub inside_trans : {s t u : Bor (List ℕ)} → Inside s t → Inside t u → Inside s u
inside_trans {s = s} {t = t} {u = u} a b =
    let place : (t.ref_ptr.1 - u.ref_ptr.1) + (s.ref_ptr.1 - t.ref_ptr.1) ≡ s.ref_ptr.1 - u.ref_ptr.1 = omega (arith, a.begins, b.begins) in
    let fits : length s.now + (s.ref_ptr.1 - t.ref_ptr.1) ≤ length t.now = omega (arith, a.begins, a.ends) in
    record {
      block = a.block ∙ b.block;
      begins = omega (arith, a.begins, b.begins);
      ends = omega (arith, a.ends, b.ends);
      holds =
          a.holds
          ∙ ap (λ l. take (length s.now) (drop (s.ref_ptr.1 - t.ref_ptr.1) l)) b.holds
          ∙ part_of (length s.now) (length t.now) (s.ref_ptr.1 - t.ref_ptr.1) (t.ref_ptr.1 - u.ref_ptr.1) u.now fits
          ∙ ap (λ k. take (length s.now) (drop k u.now)) place;
    }

pub inside_self : (s : Bor (List ℕ)) → Inside s s
inside_self s =
    let none : 0 ≡ s.ref_ptr.1 - s.ref_ptr.1 = omega arith in
    record {
      block = refl;
      begins = omega arith;
      ends = omega arith;
      holds = sym (take_all s.now) ∙ ap (λ k. take (length s.now) (drop k s.now)) none;
    }

-- a part from a place on, of so many bytes
pub inside_at : (s t : Bor (List ℕ)) (k n : ℕ) → s.ref_ptr.0 ≡ t.ref_ptr.0 → s.ref_ptr.1 ≡ t.ref_ptr.1 + k → s.now ≡ take n (drop k t.now) → length s.now ≡ n → k + n ≤ length t.now → Inside s t
inside_at s t k n block at holds len fits =
    let place : k ≡ s.ref_ptr.1 - t.ref_ptr.1 = omega (arith, at) in
    record {
      block = block;
      begins = omega (arith, at);
      ends = omega (arith, at, len, fits);
      holds = holds ∙ ap (λ n. take n (drop k t.now)) (sym len) ∙ ap (λ k. take (length s.now) (drop k t.now)) place;
    }

pub stands_trans : {p q r : ℕ} {s t u : Bor (List ℕ)} → Stands p s q t → Stands q t r u → Stands p s r u
stands_trans a b = record { inside = inside_trans a.inside b.inside; as_far = omega (arith, a.as_far, b.as_far) }

pub stands_self : (p : ℕ) (s : Bor (List ℕ)) → Stands p s p s
stands_self p s = record { inside = inside_self s; as_far = refl }

-- what is left at the end of a part
pub stands_last : (p : ℕ) (s t : Bor (List ℕ)) → Inside s t → s.ref_ptr.1 + length s.now ≡ t.ref_ptr.1 + length t.now → length s.now ≤ length t.now
    → Stands (p + (length t.now - length s.now)) s p t
stands_last p s t inside ends le = record { inside = inside; as_far = omega (arith, ends, le) }
