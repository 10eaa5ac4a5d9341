-- What holds of each instruction of a tree of code.
use Rattle.wasm_lang.specs.Instructions as flat
use Rattle.wasm_lang.specs.Instructions.{Instruction}
use Rattle.wasm_lang_exec.specs.Code.{unreachable, block, loop, if_block, br, br_if, br_table, return, call, call_indirect, plain, Trees, ε, ◌▹◌}

abbrev pub EachIn : (Instruction → Type 0) → Trees → Type 0
EachIn P ε = Unit {0}
EachIn P (block r body ▹ code) = P (flat.block r) × EachIn P body × EachIn P code
EachIn P (loop r body ▹ code) = P (flat.loop r) × EachIn P body × EachIn P code
EachIn P (if_block r first second ▹ code) = P (flat.if_block r) × EachIn P first × EachIn P second × EachIn P code
EachIn P (unreachable ▹ code) = P flat.unreachable × EachIn P code
EachIn P (br l ▹ code) = P (flat.br l) × EachIn P code
EachIn P (br_if l ▹ code) = P (flat.br_if l) × EachIn P code
EachIn P (br_table ls d ▹ code) = P (flat.br_table ls d) × EachIn P code
EachIn P (return ▹ code) = P flat.return × EachIn P code
EachIn P (call f ▹ code) = P (flat.call f) × EachIn P code
EachIn P (call_indirect t ▹ code) = P (flat.call_indirect t) × EachIn P code
EachIn P (plain p ▹ code) = P (flat.plain p) × EachIn P code
