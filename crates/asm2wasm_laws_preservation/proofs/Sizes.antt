-- Sizes of code that is put together.
use Rattle.std.proofs.Common.{arith}
use Rattle.wasm_lang_exec.specs.Code.{unreachable, block, loop, if_block, br, br_if, br_table, return, call, call_indirect, plain, ε, ◌▹◌}
use Rattle.wasm_laws_trees.specs.Laws.{SizesAdd}

pub sizes_add : SizesAdd
sizes_add ε b = omega arith
sizes_add (block r body ▹ a) b = let e = sizes_add a b in omega (arith, e)
sizes_add (loop r body ▹ a) b = let e = sizes_add a b in omega (arith, e)
sizes_add (if_block r first second ▹ a) b = let e = sizes_add a b in omega (arith, e)
sizes_add (unreachable ▹ a) b = let e = sizes_add a b in omega (arith, e)
sizes_add (br l ▹ a) b = let e = sizes_add a b in omega (arith, e)
sizes_add (br_if l ▹ a) b = let e = sizes_add a b in omega (arith, e)
sizes_add (br_table ls d ▹ a) b = let e = sizes_add a b in omega (arith, e)
sizes_add (return ▹ a) b = let e = sizes_add a b in omega (arith, e)
sizes_add (call f ▹ a) b = let e = sizes_add a b in omega (arith, e)
sizes_add (call_indirect t ▹ a) b = let e = sizes_add a b in omega (arith, e)
sizes_add (plain p ▹ a) b = let e = sizes_add a b in omega (arith, e)
