use Rattle.std.proofs.Common.{arith}
use Rattle.wasm_tree.proofs.Table.{bare_rel32, bare_rel64}
use Rattle.wasm_tree.proofs.opcodes.operator_instr.Goals as goal

pub returns-then-byte-le79 : goal.returns-then-byte-le79
returns-then-byte-le79 c = bare_rel32 c.args.byte c.rel_at.result (omega arith) c.rel_at.ensures

pub returns-then-byte-le90 : goal.returns-then-byte-le90
returns-then-byte-le90 c = bare_rel64 c.args.byte c.rel_at-then-byte-le90.result (omega arith) c.rel_at-then-byte-le90.ensures
