-- How marks grow.
use Rattle.std.specs.Prelude.{◌≡◌, ◌≤◌, ◌<◌, ◌+◌, ℕ, ◌⊎◌, Bool, true, false, List, [], ◌∷◌, length, get_or, Contains, if◌then◌else◌}
use Rattle.graph_reach.specs.declared.marks.Marks.{Marks}

abbrev pub is_marked : List Bool → ℕ → Bool
is_marked marks i = get_or marks i false

-- a node that isn't marked may wait once, and be marked
abbrev pub unmarked : List Bool → ℕ
unmarked [] = 0
unmarked (b ∷ bs) = if b then unmarked bs else 2 + unmarked bs

abbrev pub weight : Marks → ℕ
weight m = unmarked m.marked.items + length m.waiting.items

-- these nodes were marked, and no others; those that weren't marked before wait
pub record IsGrown (old new : Marks) (nodes : List ℕ) : Type 0 where
  pub size : length new.marked.items ≡ length old.marked.items
  pub kept : (i : ℕ) → is_marked old.marked.items i ≡ true → is_marked new.marked.items i ≡ true
  pub added : (i : ℕ) → Contains nodes i → i < length old.marked.items → is_marked new.marked.items i ≡ true
  pub only : (i : ℕ) → is_marked new.marked.items i ≡ true → (is_marked old.marked.items i ≡ true) ⊎ Contains nodes i
  pub waits : (i : ℕ) → is_marked new.marked.items i ≡ true → (is_marked old.marked.items i ≡ true) ⊎ Contains new.waiting.items i
  pub held : (i : ℕ) → Contains new.waiting.items i → Contains old.waiting.items i ⊎ (is_marked new.marked.items i ≡ true)
  pub waiting : (i : ℕ) → Contains old.waiting.items i → Contains new.waiting.items i
  pub lighter : weight new ≤ weight old
