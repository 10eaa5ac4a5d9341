use Rattle.wasm_tree.proofs.Slices.{stands_trans}
use Rattle.wasm_tree.proofs.read.read_br_table.Goals as goal

pub returns-clause-follows : goal.returns-clause-follows
returns-clause-follows c = stands_trans c.in_ok-default.ensures.follows c.in_ok-labels.ensures.follows
