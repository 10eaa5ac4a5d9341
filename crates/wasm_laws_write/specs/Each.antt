-- What holds of each instruction of a tree of code.
use Rattle.wasm_lang.specs.Instructions as instructions
use Rattle.wasm_lang.specs.Instructions.{Instruction}
use Rattle.wasm_lang_exec.specs.Code.{unreachable, block, loop, if_block, br, br_if, br_table, return, call, call_indirect, plain, Trees, ε, ◌▹◌}

abbrev pub EachIn : (Instruction → Type 0) → Trees → Type 0
EachIn P ε = Unit {0}
EachIn P (block r body ▹ code) = P (instructions.block r) × EachIn P body × EachIn P code
EachIn P (loop r body ▹ code) = P (instructions.loop r) × EachIn P body × EachIn P code
EachIn P (if_block r first second ▹ code) = P (instructions.if_block r) × EachIn P first × EachIn P second × EachIn P code
EachIn P (unreachable ▹ code) = P instructions.unreachable × EachIn P code
EachIn P (br l ▹ code) = P (instructions.br l) × EachIn P code
EachIn P (br_if l ▹ code) = P (instructions.br_if l) × EachIn P code
EachIn P (br_table ls d ▹ code) = P (instructions.br_table ls d) × EachIn P code
EachIn P (return ▹ code) = P instructions.return × EachIn P code
EachIn P (call f ▹ code) = P (instructions.call f) × EachIn P code
EachIn P (call_indirect t ▹ code) = P (instructions.call_indirect t) × EachIn P code
EachIn P (plain p ▹ code) = P (instructions.plain p) × EachIn P code
