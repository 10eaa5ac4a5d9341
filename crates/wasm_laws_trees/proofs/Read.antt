-- The tree of a spelling, and that the spelling is an expression.
use Rattle.std.proofs.Common.{◌≡◌, List, [], ◌∷◌, ◌++◌, Option, refl, sym, ap, ◌∙◌}
use Rattle.std.proofs.lemmas.List.{append_assoc}
use Rattle.wasm_lang.specs.declared.types.ValType.{ValType}
use Rattle.wasm_lang.specs.Instructions as instructions
use Rattle.wasm_lang.specs.Instructions.{Instruction, Nested, empty, simple, in_block, in_loop, in_if, in_arms, end_mark}
use Rattle.wasm_lang_exec.specs.Code.{Tree, unreachable, block, loop, if_block, br, br_if, br_table, return, call, call_indirect, plain, Trees, ε, ◌▹◌, ◌⊕◌, one, Open, a_block, a_loop, an_if, an_else, nest}
use Rattle.wasm_laws_trees.specs.Spelled.{after_else, flat}
use Rattle.wasm_laws_trees.specs.Laws.{IsReadAgain, IsWellNested}

join_assoc : (a b d : Trees) → (a ⊕ b) ⊕ d ≡ a ⊕ (b ⊕ d)
join_assoc ε b d = refl
join_assoc (x ▹ a) b d = ap (λ t. x ▹ t) (join_assoc a b d)

join_none : (a : Trees) → a ⊕ ε ≡ a
join_none ε = refl
join_none (x ▹ a) = ap (λ t. x ▹ t) (join_none a)

module _ (inside : Trees) (around : List Open) where
  -- the second arm of an if, and its end
  arm_nests : (r : Option ValType) (first second : Trees) (is : List Instruction)
      → ((rest : List Instruction) → nest ε (an_else inside r first ∷ around) (flat second ++ rest) ≡ nest second (an_else inside r first ∷ around) rest)
      → nest first (an_if inside r ∷ around) (after_else second (flat second) ++ end_mark ∷ is) ≡ nest (inside ⊕ one (if_block r first second)) around is
  arm_nests r first ε is ih = refl
  arm_nests r first (x ▹ xs) is ih = ih (end_mark ∷ is)

  -- on from a tree that is read
  on : (x : Tree) (a : Trees) (rest : List Instruction) → nest (inside ⊕ one x) around (flat a ++ rest) ≡ nest ((inside ⊕ one x) ⊕ a) around rest
      → nest (inside ⊕ one x) around (flat a ++ rest) ≡ nest (inside ⊕ (x ▹ a)) around rest
  on x a rest ih = ih ∙ ap (λ t. nest t around rest) (join_assoc inside (one x) a)

nests : (code inside : Trees) (around : List Open) (rest : List Instruction) → nest inside around (flat code ++ rest) ≡ nest (inside ⊕ code) around rest
nests ε inside around rest = ap (λ t. nest t around rest) (sym (join_none inside))
nests (block r body ▹ a) inside around rest =
    ap (nest ε (a_block inside r ∷ around)) (append_assoc (flat body) (end_mark ∷ flat a) rest)
    ∙ nests body ε (a_block inside r ∷ around) (end_mark ∷ (flat a ++ rest))
    ∙ on inside around (block r body) a rest (nests a (inside ⊕ one (block r body)) around rest)
nests (loop r body ▹ a) inside around rest =
    ap (nest ε (a_loop inside r ∷ around)) (append_assoc (flat body) (end_mark ∷ flat a) rest)
    ∙ nests body ε (a_loop inside r ∷ around) (end_mark ∷ (flat a ++ rest))
    ∙ on inside around (loop r body) a rest (nests a (inside ⊕ one (loop r body)) around rest)
nests (if_block r first second ▹ a) inside around rest =
    let arm = after_else second (flat second) in
    ap (nest ε (an_if inside r ∷ around)) (append_assoc (flat first) (arm ++ end_mark ∷ flat a) rest)
    ∙ nests first ε (an_if inside r ∷ around) ((arm ++ end_mark ∷ flat a) ++ rest)
    ∙ ap (nest first (an_if inside r ∷ around)) (append_assoc arm (end_mark ∷ flat a) rest)
    ∙ arm_nests inside around r first second (flat a ++ rest) (λ rest. nests second ε (an_else inside r first ∷ around) rest)
    ∙ on inside around (if_block r first second) a rest (nests a (inside ⊕ one (if_block r first second)) around rest)
nests (unreachable ▹ a) inside around rest = on inside around unreachable a rest (nests a (inside ⊕ one unreachable) around rest)
nests (br l ▹ a) inside around rest = on inside around (br l) a rest (nests a (inside ⊕ one (br l)) around rest)
nests (br_if l ▹ a) inside around rest = on inside around (br_if l) a rest (nests a (inside ⊕ one (br_if l)) around rest)
nests (br_table ls d ▹ a) inside around rest = on inside around (br_table ls d) a rest (nests a (inside ⊕ one (br_table ls d)) around rest)
nests (return ▹ a) inside around rest = on inside around return a rest (nests a (inside ⊕ one return) around rest)
nests (call f ▹ a) inside around rest = on inside around (call f) a rest (nests a (inside ⊕ one (call f)) around rest)
nests (call_indirect t ▹ a) inside around rest = on inside around (call_indirect t) a rest (nests a (inside ⊕ one (call_indirect t)) around rest)
nests (plain p ▹ a) inside around rest = on inside around (plain p) a rest (nests a (inside ⊕ one (plain p)) around rest)

pub is_read_again : IsReadAgain
is_read_again code = nests code ε [] (end_mark ∷ [])

arm_nested : {r : Option ValType} {first rest : List Instruction} (second : Trees) → Nested first → Nested (flat second) → Nested rest
    → Nested (instructions.if_block r ∷ (first ++ (after_else second (flat second) ++ end_mark ∷ rest)))
arm_nested ε f s rest = in_if f rest
arm_nested (x ▹ xs) f s rest = in_arms f s rest

nested : (code : Trees) → Nested (flat code)
nested ε = empty
nested (block r body ▹ a) = in_block (nested body) (nested a)
nested (loop r body ▹ a) = in_loop (nested body) (nested a)
nested (if_block r first second ▹ a) = arm_nested second (nested first) (nested second) (nested a)
nested (unreachable ▹ a) = simple refl (nested a)
nested (br l ▹ a) = simple refl (nested a)
nested (br_if l ▹ a) = simple refl (nested a)
nested (br_table ls d ▹ a) = simple refl (nested a)
nested (return ▹ a) = simple refl (nested a)
nested (call f ▹ a) = simple refl (nested a)
nested (call_indirect t ▹ a) = simple refl (nested a)
nested (plain p ▹ a) = simple refl (nested a)

pub is_well_nested : IsWellNested
is_well_nested code = (flat code, refl, nested code)
