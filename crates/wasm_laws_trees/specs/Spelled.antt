-- Trees of code as they are spelled, and what is counted of them.
use Rattle.std.specs.Prelude.{ℕ, ◌+◌, max, List, [], ◌∷◌, ◌++◌, length}
use Rattle.wasm_lang.specs.Instructions as instructions
use Rattle.wasm_lang.specs.Instructions.{Instruction, Plain, local_get, local_set, local_tee, else_mark, end_mark}
use Rattle.wasm_lang_exec.specs.Code.{unreachable, block, loop, if_block, br, br_if, br_table, return, call, call_indirect, plain, Trees, ε, ◌▹◌}

-- ---- instructions, from left to right

-- the second arm of an if with its mark; an arm without code has none
abbrev pub after_else : Trees → List Instruction → List Instruction
after_else ε is = []
after_else (x ▹ xs) is = else_mark ∷ is

abbrev pub flat : Trees → List Instruction
flat ε = []
flat (block r body ▹ code) = instructions.block r ∷ (flat body ++ end_mark ∷ flat code)
flat (loop r body ▹ code) = instructions.loop r ∷ (flat body ++ end_mark ∷ flat code)
flat (if_block r first second ▹ code) = instructions.if_block r ∷ (flat first ++ (after_else second (flat second) ++ end_mark ∷ flat code))
flat (unreachable ▹ code) = instructions.unreachable ∷ flat code
flat (br l ▹ code) = instructions.br l ∷ flat code
flat (br_if l ▹ code) = instructions.br_if l ∷ flat code
flat (br_table ls d ▹ code) = instructions.br_table ls d ∷ flat code
flat (return ▹ code) = instructions.return ∷ flat code
flat (call f ▹ code) = instructions.call f ∷ flat code
flat (call_indirect t ▹ code) = instructions.call_indirect t ∷ flat code
flat (plain p ▹ code) = instructions.plain p ∷ flat code

-- the expression of a body
abbrev pub closed : Trees → List Instruction
closed code = flat code ++ end_mark ∷ []

-- ---- how many: instructions with the marks of else and end, where a label of a table counts as one more

abbrev pub else_size : Trees → ℕ → ℕ
else_size ε n = 0
else_size (x ▹ xs) n = 1 + n

abbrev pub size : Trees → ℕ
size ε = 0
size (block r body ▹ code) = 2 + (size body + size code)
size (loop r body ▹ code) = 2 + (size body + size code)
size (if_block r first second ▹ code) = 2 + (size first + (else_size second (size second) + size code))
size (unreachable ▹ code) = 1 + size code
size (br l ▹ code) = 1 + size code
size (br_if l ▹ code) = 1 + size code
size (br_table ls d ▹ code) = 1 + (length ls + size code)
size (return ▹ code) = 1 + size code
size (call f ▹ code) = 1 + size code
size (call_indirect t ▹ code) = 1 + size code
size (plain p ▹ code) = 1 + size code

-- ---- how deep: blocks that stand open at once

abbrev pub tree_levels : Trees → ℕ
tree_levels ε = 0
tree_levels (block r body ▹ code) = max (1 + tree_levels body) (tree_levels code)
tree_levels (loop r body ▹ code) = max (1 + tree_levels body) (tree_levels code)
tree_levels (if_block r first second ▹ code) = max (1 + max (tree_levels first) (tree_levels second)) (tree_levels code)
tree_levels (unreachable ▹ code) = tree_levels code
tree_levels (br l ▹ code) = tree_levels code
tree_levels (br_if l ▹ code) = tree_levels code
tree_levels (br_table ls d ▹ code) = tree_levels code
tree_levels (return ▹ code) = tree_levels code
tree_levels (call f ▹ code) = tree_levels code
tree_levels (call_indirect t ▹ code) = tree_levels code
tree_levels (plain p ▹ code) = tree_levels code

-- ---- how far: one more than the greatest local that is named; 0 where none is

abbrev pub plain_reach : Plain → ℕ
plain_reach (local_get x) = 1 + x
plain_reach (local_set x) = 1 + x
plain_reach (local_tee x) = 1 + x
plain_reach p = 0

abbrev pub reach : Trees → ℕ
reach ε = 0
reach (block r body ▹ code) = max (reach body) (reach code)
reach (loop r body ▹ code) = max (reach body) (reach code)
reach (if_block r first second ▹ code) = max (max (reach first) (reach second)) (reach code)
reach (unreachable ▹ code) = reach code
reach (br l ▹ code) = reach code
reach (br_if l ▹ code) = reach code
reach (br_table ls d ▹ code) = reach code
reach (return ▹ code) = reach code
reach (call f ▹ code) = reach code
reach (call_indirect t ▹ code) = reach code
reach (plain p ▹ code) = max (plain_reach p) (reach code)
