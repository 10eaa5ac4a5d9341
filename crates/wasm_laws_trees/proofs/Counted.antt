-- What is counted of a spelling.
use Rattle.std.proofs.Common.{◌≡◌, ℕ, ◌+◌, ◌-◌, ◌≤◌, max, List, [], ◌∷◌, ◌++◌, length, ap, ◌∙◌, arith, length-append}
use Rattle.std.proofs.lemmas.List.{append_assoc}
use Rattle.wasm_lang.specs.Instructions as instructions
use Rattle.wasm_lang.specs.Instructions.{Instruction, else_mark, end_mark}
use Rattle.wasm_lang.specs.Limits.{levels_from}
use Rattle.wasm_lang_exec.specs.Code.{unreachable, block, loop, if_block, br, br_if, br_table, return, call, call_indirect, plain, Trees, ε, ◌▹◌}
use Rattle.wasm_laws_trees.specs.Spelled.{after_else, flat, else_size, size, tree_levels}
use Rattle.wasm_laws_trees.specs.Laws.{SizeBoundsLength, LevelsAreKept}

arm_length : (second : Trees) → length (flat second) ≤ size second → length (after_else second (flat second)) ≤ else_size second (size second)
arm_length ε h = omega arith
arm_length (x ▹ xs) h = omega (arith, h)

pub size_bounds_length : SizeBoundsLength
size_bounds_length ε = omega arith
size_bounds_length (block r body ▹ a) =
    let joined = length-append (flat body) (end_mark ∷ flat a) in
    let inner = size_bounds_length body in
    let further = size_bounds_length a in
    omega (arith, joined, inner, further)
size_bounds_length (loop r body ▹ a) =
    let joined = length-append (flat body) (end_mark ∷ flat a) in
    let inner = size_bounds_length body in
    let further = size_bounds_length a in
    omega (arith, joined, inner, further)
size_bounds_length (if_block r first second ▹ a) =
    let arm = after_else second (flat second) in
    let joined = length-append (flat first) (arm ++ end_mark ∷ flat a) in
    let joined_arm = length-append arm (end_mark ∷ flat a) in
    let one = size_bounds_length first in
    let other = arm_length second (size_bounds_length second) in
    let further = size_bounds_length a in
    omega (arith, joined, joined_arm, one, other, further)
size_bounds_length (unreachable ▹ a) = let further = size_bounds_length a in omega (arith, further)
size_bounds_length (br l ▹ a) = let further = size_bounds_length a in omega (arith, further)
size_bounds_length (br_if l ▹ a) = let further = size_bounds_length a in omega (arith, further)
size_bounds_length (br_table ls d ▹ a) = let further = size_bounds_length a in omega (arith, further)
size_bounds_length (return ▹ a) = let further = size_bounds_length a in omega (arith, further)
size_bounds_length (call f ▹ a) = let further = size_bounds_length a in omega (arith, further)
size_bounds_length (call_indirect t ▹ a) = let further = size_bounds_length a in omega (arith, further)
size_bounds_length (plain p ▹ a) = let further = size_bounds_length a in omega (arith, further)

at_least : (n : ℕ) (is : List Instruction) → n ≤ levels_from n is
at_least n [] = omega arith
at_least n (instructions.block r ∷ is) = let h = at_least (n + 1) is in omega (arith, h)
at_least n (instructions.loop r ∷ is) = let h = at_least (n + 1) is in omega (arith, h)
at_least n (instructions.if_block r ∷ is) = let h = at_least (n + 1) is in omega (arith, h)
at_least n (end_mark ∷ is) = omega arith
at_least n (else_mark ∷ is) = at_least n is
at_least n (instructions.unreachable ∷ is) = at_least n is
at_least n (instructions.br l ∷ is) = at_least n is
at_least n (instructions.br_if l ∷ is) = at_least n is
at_least n (instructions.br_table ls d ∷ is) = at_least n is
at_least n (instructions.return ∷ is) = at_least n is
at_least n (instructions.call f ∷ is) = at_least n is
at_least n (instructions.call_indirect t ∷ is) = at_least n is
at_least n (instructions.plain p ∷ is) = at_least n is

-- after the end of a block that is one more
at_end : (n : ℕ) (is : List Instruction) → levels_from (n + 1) (end_mark ∷ is) ≡ max (n + 1) (levels_from n is)
at_end n is = let e : n + 1 - 1 ≡ n = omega arith in ap (λ k. max (n + 1) (levels_from k is)) e

arm_levels : (n : ℕ) (second : Trees) (is : List Instruction)
    → ((rest : List Instruction) → levels_from (n + 1) (flat second ++ rest) ≡ max (n + 1 + tree_levels second) (levels_from (n + 1) rest))
    → levels_from (n + 1) (after_else second (flat second) ++ end_mark ∷ is) ≡ max (n + 1 + tree_levels second) (max (n + 1) (levels_from n is))
arm_levels n ε is ih = at_end n is ∙ omega arith
arm_levels n (x ▹ xs) is ih = let h = ih (end_mark ∷ is) in let e = at_end n is in h ∙ ap (max (n + 1 + tree_levels (x ▹ xs))) e

counted : (code : Trees) (n : ℕ) (rest : List Instruction) → levels_from n (flat code ++ rest) ≡ max (n + tree_levels code) (levels_from n rest)
counted ε n rest = let h = at_least n rest in omega (arith, h)
counted (block r body ▹ a) n rest =
    let moved = ap (levels_from (n + 1)) (append_assoc (flat body) (end_mark ∷ flat a) rest) in
    let inner = counted body (n + 1) (end_mark ∷ (flat a ++ rest)) in
    let end = at_end n (flat a ++ rest) in
    let further = counted a n rest in
    let least = at_least n rest in
    omega (arith, moved, inner, end, further, least)
counted (loop r body ▹ a) n rest =
    let moved = ap (levels_from (n + 1)) (append_assoc (flat body) (end_mark ∷ flat a) rest) in
    let inner = counted body (n + 1) (end_mark ∷ (flat a ++ rest)) in
    let end = at_end n (flat a ++ rest) in
    let further = counted a n rest in
    let least = at_least n rest in
    omega (arith, moved, inner, end, further, least)
counted (if_block r first second ▹ a) n rest =
    let arm = after_else second (flat second) in
    let moved = ap (levels_from (n + 1)) (append_assoc (flat first) (arm ++ end_mark ∷ flat a) rest) in
    let one = counted first (n + 1) ((arm ++ end_mark ∷ flat a) ++ rest) in
    let moved_arm = ap (levels_from (n + 1)) (append_assoc arm (end_mark ∷ flat a) rest) in
    let other = arm_levels n second (flat a ++ rest) (λ rest. counted second (n + 1) rest) in
    let further = counted a n rest in
    let least = at_least n rest in
    omega (arith, moved, one, moved_arm, other, further, least)
counted (unreachable ▹ a) n rest = counted a n rest
counted (br l ▹ a) n rest = counted a n rest
counted (br_if l ▹ a) n rest = counted a n rest
counted (br_table ls d ▹ a) n rest = counted a n rest
counted (return ▹ a) n rest = counted a n rest
counted (call f ▹ a) n rest = counted a n rest
counted (call_indirect t ▹ a) n rest = counted a n rest
counted (plain p ▹ a) n rest = counted a n rest

pub levels_are_kept : LevelsAreKept
levels_are_kept code = let e = counted code 0 (end_mark ∷ []) in omega (arith, e)
