-- How far code reaches is how far its spelling does.
use Rattle.std.proofs.Common.{◌≡◌, max, List, [], ◌∷◌, ◌++◌, refl, arith}
use Rattle.wasm_lang.specs.Instructions.{Instruction, end_mark}
use Rattle.wasm_lang_exec.specs.Code.{unreachable, block, loop, if_block, br, br_if, br_table, return, call, call_indirect, plain, Trees, ε, ◌▹◌}
use Rattle.wasm_laws_trees.specs.Spelled.{flat, after_else}
use Rattle.asm2wasm_emit_switches.specs.Reach.{farthest, ReachIsFarthest}

pub farthest_joins : (xs ys : List Instruction) → farthest (xs ++ ys) ≡ max (farthest xs) (farthest ys)
farthest_joins [] ys = omega arith
farthest_joins (x ∷ xs) ys = let e = farthest_joins xs ys in omega arith

arm_reach : (second : Trees) → farthest (after_else second (flat second)) ≡ farthest (flat second)
arm_reach ε = refl
arm_reach (x ▹ xs) = omega arith

pub flat_reach : ReachIsFarthest
flat_reach ε = refl
flat_reach (block r body ▹ code) = let e = farthest_joins (flat body) (end_mark ∷ flat code) in let b = flat_reach body in let k = flat_reach code in omega arith
flat_reach (loop r body ▹ code) = let e = farthest_joins (flat body) (end_mark ∷ flat code) in let b = flat_reach body in let k = flat_reach code in omega arith
flat_reach (if_block r first second ▹ code) =
    let arm = after_else second (flat second) in
    let e = farthest_joins (flat first) (arm ++ end_mark ∷ flat code) in
    let f = farthest_joins arm (end_mark ∷ flat code) in
    let a = arm_reach second in
    let b = flat_reach first in
    let s = flat_reach second in
    let k = flat_reach code in
    omega arith
flat_reach (unreachable ▹ code) = let k = flat_reach code in omega arith
flat_reach (br l ▹ code) = let k = flat_reach code in omega arith
flat_reach (br_if l ▹ code) = let k = flat_reach code in omega arith
flat_reach (br_table ls d ▹ code) = let k = flat_reach code in omega arith
flat_reach (return ▹ code) = let k = flat_reach code in omega arith
flat_reach (call f ▹ code) = let k = flat_reach code in omega arith
flat_reach (call_indirect t ▹ code) = let k = flat_reach code in omega arith
flat_reach (plain p ▹ code) = let k = flat_reach code in omega arith
