-- The levels of a body, instruction by instruction.
use Rattle.std.proofs.Common.{◌≡◌, ℕ, ◌+◌, ◌≤◌, max, List, [], ◌∷◌, refl, arith}
use Rattle.wasm_lang.specs.Instructions.{Instruction, block, loop, if_block, end_mark}
use Rattle.wasm_lang.specs.Limits.{levels_from}
use Rattle.wasm_validate_bodies.specs.Counts.{depth_after}

-- those that are open count
at_least : (n : ℕ) (is : List Instruction) → n ≤ levels_from n is
at_least n [] = omega arith
at_least n (block r ∷ is) = let h = at_least (n + 1) is in omega (arith, h)
at_least n (loop r ∷ is) = let h = at_least (n + 1) is in omega (arith, h)
at_least n (if_block r ∷ is) = let h = at_least (n + 1) is in omega (arith, h)
at_least n (end_mark ∷ is) = omega arith
at_least n (i ∷ is) = at_least n is

larger_is : (n m : ℕ) → n ≤ m → m ≡ max n m
larger_is n m h = omega (arith, h)

one_on : (n : ℕ) (i : Instruction) (is : List Instruction) → levels_from n (i ∷ is) ≡ max n (levels_from (depth_after n i) is)
one_on n (block r) is = let h = at_least (n + 1) is in omega (arith, h)
one_on n (loop r) is = let h = at_least (n + 1) is in omega (arith, h)
one_on n (if_block r) is = let h = at_least (n + 1) is in omega (arith, h)
one_on n end_mark is = refl
one_on n i is = larger_is n (levels_from n is) (at_least n is)

pub levels_on : (most n : ℕ) (i : Instruction) (is : List Instruction) → max most (levels_from n (i ∷ is)) ≡ max (max most n) (levels_from (depth_after n i) is)
levels_on most n i is = let h = one_on n i is in omega (arith, h)

pub one_more_at_most : (n : ℕ) (i : Instruction) → depth_after n i ≤ n + 1
one_more_at_most n (block r) = omega arith
one_more_at_most n (loop r) = omega arith
one_more_at_most n (if_block r) = omega arith
one_more_at_most n end_mark = omega arith
one_more_at_most n i = omega arith
