-- Passes over lists, one item after another.
use Rattle.std.proofs.Common.{◌≡◌, ℕ, ◌+◌, ◌<◌, ◌≤◌, List, [], ◌∷◌, ◌++◌, length, drop, get_or, Result, Ok, Err, refl, sym, ap, ◌∙◌}
use Rattle.std.proofs.lemmas.List.{at_drop_more, at_drop_all}
use Rattle.asm_lang_valid.specs.LimitRows.{Mark}
use Rattle.asm_validate_names.specs.declared.refusal.AsmRefusal.{AsmRefusal}
use Rattle.asm_validate_limits.specs.declared.tally.Tally.{Tally}
use Rattle.asm_validate_limits.specs.Passes.{calls_of, Passed, IsFault, Tallied}
use Rattle.asm_validate_limits.proofs.Passes.{stop, then_at, same, nothing}

-- what passes these marks from here passes all of them
abbrev pub Completes : List Mark → ℕ → Tally → List Mark → ℕ → Tally → Type 0
Completes all n a ms k b = (c : Tally) (r : Result (Unit {0}) AsmRefusal) → Tallied ms k b c r → Tallied all n a c r

-- an item, and the others
pub one_more : (all here : List Mark) (rest : ℕ → List Mark) (n k m : ℕ) (a b : Tally) → all ≡ here ++ rest (a.at + n) → m ≡ n + k → Passed here n a b → Completes all m a (rest b.at) k b
one_more all here rest n k m a b e d p c r h = same all (here ++ rest (a.at + n)) m (n + k) a c r e d (then_at here rest n k a b c r p h)

pub fault_here : (all here : List Mark) (rest : ℕ → List Mark) (n m : ℕ) (a c : Tally) (x : AsmRefusal) → all ≡ here ++ rest (a.at + n) → IsFault here (calls_of a) x → Tallied all m a c (Err x)
fault_here all here rest n m a c x e h = same all (here ++ rest (a.at + n)) m m a c (Err x) e refl (stop here (rest (a.at + n)) (calls_of a) x h)

-- how many nodes are left
pub count_left : {X : Type 0} (h : List X → ℕ) (n : X → ℕ) → ((x : X) (xs : List X) → h (x ∷ xs) ≡ n x + h xs) → (xs : List X) (i : ℕ) (x : X) → i < length xs → x ≡ get_or xs i x → h (drop i xs) ≡ n x + h (drop (i + 1) xs)
count_left h n counts xs i x lt is = at_drop_more h xs i x lt ∙ counts (get_or xs i x) (drop (i + 1) xs) ∙ ap (λ y. n y + h (drop (i + 1) xs)) (sym is)

pub none_left : {X : Type 0} (f : List X → ℕ → List Mark) (h : List X → ℕ) → ((at : ℕ) → f [] at ≡ []) → h [] ≡ 0 → (xs : List X) (i : ℕ) (a : Tally) → length xs ≤ i → Tallied (f (drop i xs) a.at) (h (drop i xs)) a a (Ok tt)
none_left f h marks counts xs i a ge = same (f (drop i xs) a.at) [] (h (drop i xs)) 0 a a (Ok tt) (at_drop_all (λ l. f l a.at) xs i ge ∙ marks a.at) (at_drop_all h xs i ge ∙ counts) (nothing a)

module _ {X : Type 0} (f : List X → ℕ → List Mark) (h : List X → ℕ) (g : X → ℕ → List Mark) (n : X → ℕ) (marks : (x : X) (xs : List X) (at : ℕ) → f (x ∷ xs) at ≡ g x at ++ f xs (at + n x)) (counts : (x : X) (xs : List X) → h (x ∷ xs) ≡ n x + h xs) where
  left : (xs : List X) (i : ℕ) (x : X) (at : ℕ) → i < length xs → x ≡ get_or xs i x → f (drop i xs) at ≡ g x at ++ f (drop (i + 1) xs) (at + n x)
  left xs i x at lt is =
      at_drop_more (λ l. f l at) xs i x lt ∙ marks (get_or xs i x) (drop (i + 1) xs) at
      ∙ ap (λ y. g y at ++ f (drop (i + 1) xs) (at + n y)) (sym is)

  pub next : (xs : List X) (i : ℕ) (x : X) (a b : Tally) → i < length xs → x ≡ get_or xs i x → Passed (g x a.at) (n x) a b → Completes (f (drop i xs) a.at) (h (drop i xs)) a (f (drop (i + 1) xs) b.at) (h (drop (i + 1) xs)) b
  next xs i x a b lt is p = one_more (f (drop i xs) a.at) (g x a.at) (f (drop (i + 1) xs)) (n x) (h (drop (i + 1) xs)) (h (drop i xs)) a b (left xs i x a.at lt is) (count_left h n counts xs i x lt is) p

  pub ends : (xs : List X) (i : ℕ) (x : X) (a c : Tally) (y : AsmRefusal) → i < length xs → x ≡ get_or xs i x → IsFault (g x a.at) (calls_of a) y → Tallied (f (drop i xs) a.at) (h (drop i xs)) a c (Err y)
  ends xs i x a c y lt is p = fault_here (f (drop i xs) a.at) (g x a.at) (f (drop (i + 1) xs)) (n x) (h (drop i xs)) a c y (left xs i x a.at lt is) p
