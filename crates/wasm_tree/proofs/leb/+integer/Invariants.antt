use Rattle.wasm_tree.proofs.leb.+integer.Given as goal

abbrev pub decreases-integer : goal.decreases-integer
decreases-integer l = l.bits
