use Rattle.wasm_tree.proofs.Table.{no_extension, not_two, not_three}
use Rattle.wasm_tree.proofs.opcodes.extension_opcode.Goals as goal

pub returns-in_default : goal.returns-in_default
returns-in_default c =
    let n = c.in_default.is-1 in
    no_extension c.args.wide c.args.bits (rw c.in_default.is-0 (not_three 8 16 32 c.args.bits n.0.0.1 n.0.1 n.1))

pub returns-in_default-2 : goal.returns-in_default-2
returns-in_default-2 c =
    let n = c.in_default.is-1 in
    no_extension c.args.wide c.args.bits (rw c.in_default.is-0 (not_two 8 16 c.args.bits n.0.1 n.1))
