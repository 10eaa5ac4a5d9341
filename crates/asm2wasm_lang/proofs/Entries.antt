-- Where the members of tables stand that are laid end to end.
use Rattle.std.proofs.Common.{◌≡◌, ℕ, zero, suc, ◌+◌, List, [], ◌∷◌, ◌++◌, length, map, Some, sym, ap, ◌∙◌, arith}
use Rattle.std.specs.Prelude.{slice_get}
use Rattle.asm_lang.specs.Modules.{Table, Module}
use Rattle.asm_lang_valid.specs.Refusal.{function_number}
use Rattle.asm2wasm_lang.specs.Tables.{members_of, entries_from, bases_from}

among_first : {A : Type 0} → (xs ys : List A) (i : ℕ) (x : A) → slice_get xs i ≡ Some x → slice_get (xs ++ ys) i ≡ Some x
among_first [] ys i x h = cc h
among_first (y ∷ xs) ys zero x h = h
among_first (y ∷ xs) ys (suc i) x h = among_first xs ys i x h

among_second : {A B : Type 0} → (f : B → A) (xs : List B) (ys : List A) (i : ℕ) → slice_get (map f xs ++ ys) (length xs + i) ≡ slice_get ys i
among_second f [] ys i = let e : 0 + i ≡ i = omega arith in ap (slice_get ys) e
among_second f (x ∷ xs) ys i = let e : suc (length xs) + i ≡ suc (length xs + i) = omega arith in ap (slice_get (f x ∷ (map f xs ++ ys))) e ∙ among_second f xs ys i

mapped : {A B : Type 0} → (f : B → A) (xs : List B) (i : ℕ) (x : B) → slice_get xs i ≡ Some x → slice_get (map f xs) i ≡ Some (f x)
mapped f [] i x h = cc h
mapped f (y ∷ xs) zero x h = let e : y ≡ x = cc h in ap (λ x. Some (f x)) e
mapped f (y ∷ xs) (suc i) x h = mapped f xs i x h

module _ (m : Module) (i : ℕ) (name : List ℕ) where
  pub stands : (ts : List Table) (at n base : ℕ) (t : Table) → slice_get ts n ≡ Some t → slice_get (bases_from at ts) n ≡ Some base → slice_get t.members i ≡ Some name
      → (k : ℕ) × (base ≡ at + k) × (slice_get (entries_from m ts) (k + i) ≡ Some (function_number m.functions name))
  stands [] at n base t is b h = cc is
  stands (t' ∷ ts) at zero base t is b h =
      let e : t ≡ t' = cc is in
      let start : at ≡ base = cc b in
      let none : 0 + i ≡ i = omega arith in
      let here : slice_get t'.members i ≡ Some name = ap (λ (t : Table). slice_get t.members i) (sym e) ∙ h in
      (0, omega (arith, start), ap (slice_get (members_of m t' ++ entries_from m ts)) none ∙ among_first (members_of m t') (entries_from m ts) i (function_number m.functions name) (mapped (function_number m.functions) t'.members i name here))
  stands (t' ∷ ts) at (suc n) base t is b h =
      let (k, e, there) = stands ts (at + length t'.members) n base t is b h in
      let moved : length t'.members + k + i ≡ length t'.members + (k + i) = omega arith in
      (length t'.members + k, omega (arith, e), ap (slice_get (members_of m t' ++ entries_from m ts)) moved ∙ among_second (function_number m.functions) t'.members (entries_from m ts) (k + i) ∙ there)
