use Rattle.wasm_tree.proofs.leb.+unsigned.Given as goal

abbrev pub decreases-unsigned : goal.decreases-unsigned
decreases-unsigned l = l.bits
