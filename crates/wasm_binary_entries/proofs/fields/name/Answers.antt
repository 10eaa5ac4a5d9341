use Rattle.wasm_tree.proofs.Slices.{stands_trans}
use Rattle.wasm_binary_entries.proofs.fields.name.Goals as goal

pub returns-then-is_text-clause-follows : goal.returns-then-is_text-clause-follows
returns-then-is_text-clause-follows c = stands_trans c.split.ensures.follows c.in_ok-n.ensures.follows
