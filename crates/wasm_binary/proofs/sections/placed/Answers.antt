use Rattle.wasm_tree.proofs.Slices.{stands_trans}
use Rattle.wasm_binary.proofs.sections.placed.Goals as goal

pub returns-in_ok-content-in-Some-clause-follows : goal.returns-in_ok-content-in-Some-clause-follows
returns-in_ok-content-in-Some-clause-follows c =
    let before = stands_trans c.in-Some.ensures.follows c.in_ok-input.ensures.follows in
    (stands_trans c.in_ok-content-in-Some.ensures.content before, stands_trans c.in_ok-content-in-Some.ensures.follows before)
