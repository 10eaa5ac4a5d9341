use Rattle.wasm_tree.proofs.Table.{no_load, not_two, not_three, not_four}
use Rattle.wasm_tree.proofs.opcodes.load_opcode.Goals as goal

pub returns-in_default : goal.returns-in_default
returns-in_default c =
    let n = c.in_default.is-2 in
    no_load c.args.op (rw (c.in_default.is-0, c.in_default.is-1) (not_three 1 2 4 c.args.op.size n.0.0.1 n.0.1 n.1))

pub returns-in_default-2 : goal.returns-in_default-2
returns-in_default-2 c =
    let n = c.in_default.is-2 in
    no_load c.args.op (rw (c.in_default.is-0, c.in_default.is-1) (not_four 1 2 4 8 c.args.op.size n.0.0.1 n.0.1 n.1 n.0.0.0.1))

pub returns-in_default-3 : goal.returns-in_default-3
returns-in_default-3 c =
    let n = c.in_default.is-2 in
    no_load c.args.op (rw (c.in_default.is-0, c.in_default.is-1) (not_two 1 2 c.args.op.size n.0.1 n.1))

pub returns-in_default-4 : goal.returns-in_default-4
returns-in_default-4 c =
    let n = c.in_default.is-2 in
    no_load c.args.op (rw (c.in_default.is-0, c.in_default.is-1) (not_three 1 2 4 c.args.op.size n.0.1 n.1 n.0.0.1))
