-- What holds of each instruction of a piece after another holds of each of both.
use Rattle.wasm_lang.specs.Instructions.{Instruction}
use Rattle.wasm_lang_exec.specs.Code.{unreachable, block, loop, if_block, br, br_if, br_table, return, call, call_indirect, plain, Trees, ε, ◌▹◌, ◌⊕◌}
use Rattle.wasm_laws_write.specs.Each.{EachIn}

module _ (P : Instruction → Type 0) where
  pub first_part : (a b : Trees) → EachIn P (a ⊕ b) → EachIn P a
  first_part ε b p = tt
  first_part (block r body ▹ code) b p = (p.0, p.1, first_part code b p.2)
  first_part (loop r body ▹ code) b p = (p.0, p.1, first_part code b p.2)
  first_part (if_block r first second ▹ code) b p = (p.0, p.1, p.2, first_part code b p.3)
  first_part (unreachable ▹ code) b p = (p.0, first_part code b p.1)
  first_part (br l ▹ code) b p = (p.0, first_part code b p.1)
  first_part (br_if l ▹ code) b p = (p.0, first_part code b p.1)
  first_part (br_table ls d ▹ code) b p = (p.0, first_part code b p.1)
  first_part (return ▹ code) b p = (p.0, first_part code b p.1)
  first_part (call f ▹ code) b p = (p.0, first_part code b p.1)
  first_part (call_indirect t ▹ code) b p = (p.0, first_part code b p.1)
  first_part (plain x ▹ code) b p = (p.0, first_part code b p.1)

  pub second_part : (a b : Trees) → EachIn P (a ⊕ b) → EachIn P b
  second_part ε b p = p
  second_part (block r body ▹ code) b p = second_part code b p.2
  second_part (loop r body ▹ code) b p = second_part code b p.2
  second_part (if_block r first second ▹ code) b p = second_part code b p.3
  second_part (unreachable ▹ code) b p = second_part code b p.1
  second_part (br l ▹ code) b p = second_part code b p.1
  second_part (br_if l ▹ code) b p = second_part code b p.1
  second_part (br_table ls d ▹ code) b p = second_part code b p.1
  second_part (return ▹ code) b p = second_part code b p.1
  second_part (call f ▹ code) b p = second_part code b p.1
  second_part (call_indirect t ▹ code) b p = second_part code b p.1
  second_part (plain x ▹ code) b p = second_part code b p.1
