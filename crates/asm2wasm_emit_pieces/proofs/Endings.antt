-- Code never ends with the mark of an else.
use Rattle.std.proofs.Common.{◌≡◌, false, List, [], ◌∷◌, ◌++◌, Option, refl, sym, ap, ◌∙◌, append_assoc}
use Rattle.wasm_lang.specs.declared.types.ValType.{ValType}
use Rattle.wasm_lang.specs.Instructions as instructions
use Rattle.wasm_lang.specs.Instructions.{Instruction, else_mark, end_mark}
use Rattle.wasm_lang_exec.specs.Code.{unreachable, block, loop, if_block, br, br_if, br_table, return, call, call_indirect, plain, Trees, ε, ◌▹◌}
use Rattle.wasm_laws_trees.specs.Spelled.{flat, after_else}
use Rattle.asm2wasm_emit_pieces.specs.Endings.{is_else, without_else}
use Rattle.asm2wasm_emit_pieces.proofs.Joined.{then_}

-- only the end counts
pub ends_later : (xs : List Instruction) (i : Instruction) (is : List Instruction) → without_else (xs ++ i ∷ is) ≡ xs ++ without_else (i ∷ is)
ends_later [] i is = refl
ends_later (x ∷ []) i is = refl
ends_later (x ∷ y ∷ xs) i is = ap (λ l. x ∷ l) (ends_later (y ∷ xs) i is)

-- an instruction that is no such mark, and then none at the end
after : (i : Instruction) (is : List Instruction) → is_else i ≡ false → without_else is ≡ is → without_else (i ∷ is) ≡ i ∷ is
after i [] h k = rw h
after i (j ∷ js) h k = ap (λ l. i ∷ l) k

closed_part : (xs : List Instruction) (code : Trees) → without_else (flat code) ≡ flat code → without_else (xs ++ end_mark ∷ flat code) ≡ xs ++ end_mark ∷ flat code
closed_part xs code k = ends_later xs end_mark (flat code) ∙ ap (λ l. xs ++ l) (after end_mark (flat code) refl k)

pub code_ends : (code : Trees) → without_else (flat code) ≡ flat code
code_ends ε = refl
code_ends (block r body ▹ code) = closed_part (instructions.block r ∷ flat body) code (code_ends code)
code_ends (loop r body ▹ code) = closed_part (instructions.loop r ∷ flat body) code (code_ends code)
code_ends (if_block r first second ▹ code) =
    let before : List Instruction = instructions.if_block r ∷ flat first in
    let arm = after_else second (flat second) in
    ap without_else (sym (append_assoc before arm (end_mark ∷ flat code)))
    ∙ closed_part (before ++ arm) code (code_ends code)
    ∙ append_assoc before arm (end_mark ∷ flat code)
code_ends (unreachable ▹ code) = after instructions.unreachable (flat code) refl (code_ends code)
code_ends (br l ▹ code) = after (instructions.br l) (flat code) refl (code_ends code)
code_ends (br_if l ▹ code) = after (instructions.br_if l) (flat code) refl (code_ends code)
code_ends (br_table ls d ▹ code) = after (instructions.br_table ls d) (flat code) refl (code_ends code)
code_ends (return ▹ code) = after instructions.return (flat code) refl (code_ends code)
code_ends (call f ▹ code) = after (instructions.call f) (flat code) refl (code_ends code)
code_ends (call_indirect t ▹ code) = after (instructions.call_indirect t) (flat code) refl (code_ends code)
code_ends (plain p ▹ code) = after (instructions.plain p) (flat code) refl (code_ends code)

arm : (second : Trees) → without_else (else_mark ∷ flat second) ≡ after_else second (flat second)
arm ε = refl
arm (block r body ▹ code) = ap (λ l. else_mark ∷ l) (code_ends (block r body ▹ code))
arm (loop r body ▹ code) = ap (λ l. else_mark ∷ l) (code_ends (loop r body ▹ code))
arm (if_block r first second ▹ code) = ap (λ l. else_mark ∷ l) (code_ends (if_block r first second ▹ code))
arm (unreachable ▹ code) = ap (λ l. else_mark ∷ l) (code_ends (unreachable ▹ code))
arm (br l ▹ code) = ap (λ l. else_mark ∷ l) (code_ends (br l ▹ code))
arm (br_if l ▹ code) = ap (λ l. else_mark ∷ l) (code_ends (br_if l ▹ code))
arm (br_table ls d ▹ code) = ap (λ l. else_mark ∷ l) (code_ends (br_table ls d ▹ code))
arm (return ▹ code) = ap (λ l. else_mark ∷ l) (code_ends (return ▹ code))
arm (call f ▹ code) = ap (λ l. else_mark ∷ l) (code_ends (call f ▹ code))
arm (call_indirect t ▹ code) = ap (λ l. else_mark ∷ l) (code_ends (call_indirect t ▹ code))
arm (plain p ▹ code) = ap (λ l. else_mark ∷ l) (code_ends (plain p ▹ code))

-- the second arm of an if stands with its mark, or the mark is gone
pub second_arm : (before : List Instruction) (second : Trees) → without_else (before ++ else_mark ∷ flat second) ≡ before ++ after_else second (flat second)
second_arm before second = ends_later before else_mark (flat second) ∙ ap (λ l. before ++ l) (arm second)

-- the two arms of an if, one after the other
pub arms : (o1 o2 o3 o4 o5 o6 : List Instruction) (r : Option ValType) (first second : Trees)
    → o2 ≡ o1 ++ instructions.if_block r ∷ [] → o3 ≡ o2 ++ flat first → o4 ≡ o3 ++ else_mark ∷ [] → o5 ≡ o4 ++ flat second → o6 ≡ without_else o5 ++ end_mark ∷ []
    → o6 ≡ o1 ++ flat (if_block r first second ▹ ε)
arms o1 o2 o3 o4 o5 o6 r first second opened one marked two ended =
    let both : o5 ≡ o3 ++ else_mark ∷ flat second = then_ o3 o4 o5 (else_mark ∷ []) (flat second) marked two in
    let last = ap without_else both ∙ second_arm o3 second in
    rw (ended, last, one, opened) (simp append_assoc)
