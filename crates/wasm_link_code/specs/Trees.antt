-- The code of the linked module as trees.
use Rattle.std.specs.Prelude.{ℕ, zero, suc, nat_lt, if◌then◌else◌, length}
use Rattle.sem_words.specs.declared.word.Bin.TheVariants.{Add}
use Rattle.sem_words.specs.declared.word.Rel.TheVariants.{LtU}
use Rattle.wasm_lang.specs.Instructions.{Plain, local_get, local_tee, global_get, global_set, const32, bin32, rel32, select}
use Rattle.wasm_lang_exec.specs.Code.{unreachable, block, loop, if_block, br, br_if, br_table, return, call, call_indirect, plain, Trees, ε, ◌▹◌}
use Rattle.wasm_link_lang.specs.Pairs.{Pair}
use Rattle.wasm_link_lang.specs.Reductions.{entries}
use Rattle.wasm_link_code.specs.Numbers.{number, global_number}
use Rattle.wasm_link_code.specs.Code.{outside}

abbrev pub bounded_tree : (k length : ℕ) → Trees → Trees
bounded_tree k n code = plain (const32 outside) ▹ plain (local_get k) ▹ plain (const32 n) ▹ plain (rel32 LtU) ▹ plain select ▹ code

-- .. and then more code
abbrev pub entry_tree : (other k base length type : ℕ) → Trees → Trees
entry_tree zero k base n t code = call_indirect t ▹ code
entry_tree (suc other) k zero n t code = plain (local_tee k) ▹ bounded_tree k n (call_indirect t ▹ code)
entry_tree (suc other) k (suc base) n t code = plain (local_tee k) ▹ plain (const32 (suc base)) ▹ plain (bin32 Add) ▹ bounded_tree k n (call_indirect t ▹ code)

abbrev pub indirect_tree : Pair → (k type : ℕ) → Trees → Trees
indirect_tree w k t code =
    if nat_lt t (length w.first.types) then entry_tree (entries w.second) k 0 (entries w.first) t code
    else entry_tree (entries w.first) k (entries w.first) (entries w.second) t code

abbrev pub moved_plain : Pair → Plain → Plain
moved_plain w (global_get g) = global_get (global_number w g)
moved_plain w (global_set g) = global_set (global_number w g)
moved_plain w p = p

abbrev pub moved_tree : Pair → (k : ℕ) → Trees → Trees
moved_tree w k ε = ε
moved_tree w k (block r body ▹ code) = block r (moved_tree w k body) ▹ moved_tree w k code
moved_tree w k (loop r body ▹ code) = loop r (moved_tree w k body) ▹ moved_tree w k code
moved_tree w k (if_block r first second ▹ code) = if_block r (moved_tree w k first) (moved_tree w k second) ▹ moved_tree w k code
moved_tree w k (unreachable ▹ code) = unreachable ▹ moved_tree w k code
moved_tree w k (br l ▹ code) = br l ▹ moved_tree w k code
moved_tree w k (br_if l ▹ code) = br_if l ▹ moved_tree w k code
moved_tree w k (br_table ls d ▹ code) = br_table ls d ▹ moved_tree w k code
moved_tree w k (return ▹ code) = return ▹ moved_tree w k code
moved_tree w k (call a ▹ code) = call (number w a) ▹ moved_tree w k code
moved_tree w k (call_indirect t ▹ code) = indirect_tree w k t (moved_tree w k code)
moved_tree w k (plain p ▹ code) = plain (moved_plain w p) ▹ moved_tree w k code
