-- From the instructions of a tree to those of its spelling.
use Rattle.std.proofs.Common.{◌≡◌, ◌+◌, List, [], ◌∷◌, ◌++◌, refl, arith}
use Rattle.std.specs.List.{AllByRecursion}
use Rattle.std.proofs.lemmas.List.Elements.{All-from_recursion}
use Rattle.wasm_lang.specs.Instructions.{Instruction, else_mark, end_mark}
use Rattle.wasm_lang.specs.Opcodes.{form_at}
use Rattle.wasm_lang.specs.Shape.{HasOpcode}
use Rattle.wasm_lang_exec.specs.Code.{unreachable, block, loop, if_block, br, br_if, br_table, return, call, call_indirect, plain, Trees, ε, ◌▹◌}
use Rattle.wasm_laws_trees.specs.Spelled.{after_else, flat, closed, else_size, size}
use Rattle.wasm_laws_trees.specs.Laws.{IsWellNested}
use Rattle.wasm_laws_write.specs.Fits.{InstructionFits}
use Rattle.wasm_laws_write.specs.Lengths.{code_size, IsNarrow}
use Rattle.wasm_laws_write.proofs.Short.{code_is_short, narrow_fit}
use Rattle.wasm_laws_write.specs.Each.{EachIn}
use Rattle.wasm_laws_write.specs.TreesLaws.{SizesAgree, TreesAreShort, TreesAreShaped, NarrowTreesFit, EachJoins}

-- ---- sizes

sizes_add : (xs ys : List Instruction) → code_size (xs ++ ys) ≡ code_size xs + code_size ys
sizes_add [] ys = omega arith
sizes_add (x ∷ xs) ys = omega (arith, sizes_add xs ys)

arm_agrees : (second : Trees) → code_size (flat second) ≡ size second → code_size (after_else second (flat second)) ≡ else_size second (size second)
arm_agrees ε h = refl
arm_agrees (x ▹ xs) h = omega (arith, h)

pub sizes_agree : SizesAgree
sizes_agree ε = refl
sizes_agree (block r body ▹ code) = omega (arith, sizes_add (flat body) (end_mark ∷ flat code), sizes_agree body, sizes_agree code)
sizes_agree (loop r body ▹ code) = omega (arith, sizes_add (flat body) (end_mark ∷ flat code), sizes_agree body, sizes_agree code)
sizes_agree (if_block r first second ▹ code) =
    let arm = after_else second (flat second) in
    omega (arith, sizes_add (flat first) (arm ++ end_mark ∷ flat code), sizes_add arm (end_mark ∷ flat code), sizes_agree first, arm_agrees second (sizes_agree second), sizes_agree code)
sizes_agree (unreachable ▹ code) = omega (arith, sizes_agree code)
sizes_agree (br l ▹ code) = omega (arith, sizes_agree code)
sizes_agree (br_if l ▹ code) = omega (arith, sizes_agree code)
sizes_agree (br_table ls d ▹ code) = omega (arith, sizes_agree code)
sizes_agree (return ▹ code) = omega (arith, sizes_agree code)
sizes_agree (call f ▹ code) = omega (arith, sizes_agree code)
sizes_agree (call_indirect t ▹ code) = omega (arith, sizes_agree code)
sizes_agree (plain p ▹ code) = omega (arith, sizes_agree code)

-- ---- each instruction

module _ (P : Instruction → Type 0) where
  pub each_joins : EachJoins P
  each_joins ε b p q = q
  each_joins (block r body ▹ code) b p q = (p.0, p.1, each_joins code b p.2 q)
  each_joins (loop r body ▹ code) b p q = (p.0, p.1, each_joins code b p.2 q)
  each_joins (if_block r first second ▹ code) b p q = (p.0, p.1, p.2, each_joins code b p.3 q)
  each_joins (unreachable ▹ code) b p q = (p.0, each_joins code b p.1 q)
  each_joins (br l ▹ code) b p q = (p.0, each_joins code b p.1 q)
  each_joins (br_if l ▹ code) b p q = (p.0, each_joins code b p.1 q)
  each_joins (br_table ls d ▹ code) b p q = (p.0, each_joins code b p.1 q)
  each_joins (return ▹ code) b p q = (p.0, each_joins code b p.1 q)
  each_joins (call f ▹ code) b p q = (p.0, each_joins code b p.1 q)
  each_joins (call_indirect t ▹ code) b p q = (p.0, each_joins code b p.1 q)
  each_joins (plain x ▹ code) b p q = (p.0, each_joins code b p.1 q)

  joined : (xs ys : List Instruction) → AllByRecursion P xs → AllByRecursion P ys → AllByRecursion P (xs ++ ys)
  joined [] ys a b = b
  joined (x ∷ xs) ys a b = (a.0, joined xs ys a.1 b)

  module _ (of_else : P else_mark) (of_end : P end_mark) where
    each_arm : (second : Trees) → AllByRecursion P (flat second) → AllByRecursion P (after_else second (flat second))
    each_arm ε h = tt
    each_arm (x ▹ xs) h = (of_else, h)

    each_flat : (code : Trees) → EachIn P code → AllByRecursion P (flat code)
    each_flat ε p = tt
    each_flat (block r body ▹ code) p = (p.0, joined (flat body) (end_mark ∷ flat code) (each_flat body p.1) (of_end, each_flat code p.2))
    each_flat (loop r body ▹ code) p = (p.0, joined (flat body) (end_mark ∷ flat code) (each_flat body p.1) (of_end, each_flat code p.2))
    each_flat (if_block r first second ▹ code) p =
        let arm = after_else second (flat second) in
        (p.0, joined (flat first) (arm ++ end_mark ∷ flat code) (each_flat first p.1) (joined arm (end_mark ∷ flat code) (each_arm second (each_flat second p.2)) (of_end, each_flat code p.3)))
    each_flat (unreachable ▹ code) p = (p.0, each_flat code p.1)
    each_flat (br l ▹ code) p = (p.0, each_flat code p.1)
    each_flat (br_if l ▹ code) p = (p.0, each_flat code p.1)
    each_flat (br_table ls d ▹ code) p = (p.0, each_flat code p.1)
    each_flat (return ▹ code) p = (p.0, each_flat code p.1)
    each_flat (call f ▹ code) p = (p.0, each_flat code p.1)
    each_flat (call_indirect t ▹ code) p = (p.0, each_flat code p.1)
    each_flat (plain x ▹ code) p = (p.0, each_flat code p.1)

    pub each_closed : (code : Trees) → EachIn P code → AllByRecursion P (closed code)
    each_closed code p = joined (flat code) (end_mark ∷ []) (each_flat code p) (of_end, tt)

-- ---- what follows of a body

pub trees_are_short : TreesAreShort
trees_are_short code p =
    let short = code_is_short (closed code) (All-from_recursion IsNarrow (closed code) (each_closed IsNarrow tt tt code p)) in
    omega (arith, short, sizes_add (flat code) (end_mark ∷ []), sizes_agree code)

else_opcode : HasOpcode else_mark
unfolding form_at
else_opcode = (0x05, refl)

end_opcode : HasOpcode end_mark
unfolding form_at
end_opcode = (0x0b, refl)

pub trees_are_shaped : IsWellNested → TreesAreShaped
trees_are_shaped nested code p = record { expression = nested code; opcodes = All-from_recursion HasOpcode (closed code) (each_closed HasOpcode else_opcode end_opcode code p) }

fit_each : (code : List Instruction) → AllByRecursion IsNarrow code → AllByRecursion InstructionFits code
fit_each [] a = tt
fit_each (i ∷ is) a = (narrow_fit i a.0, fit_each is a.1)

pub narrow_trees_fit : NarrowTreesFit
narrow_trees_fit code p = All-from_recursion InstructionFits (closed code) (fit_each (closed code) (each_closed IsNarrow tt tt code p))
