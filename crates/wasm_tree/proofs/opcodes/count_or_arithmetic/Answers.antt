use Rattle.std.proofs.Common.{arith}
use Rattle.wasm_tree.proofs.Table.{bare_un32, bare_un64, bare_bin32, bare_bin64}
use Rattle.wasm_tree.proofs.opcodes.count_or_arithmetic.Goals as goal

pub returns-then-byte-le105 : goal.returns-then-byte-le105
returns-then-byte-le105 c = bare_un32 c.args.byte c.un_at.result (omega arith) c.un_at.ensures

pub returns-then-byte-le120 : goal.returns-then-byte-le120
returns-then-byte-le120 c = bare_bin32 c.args.byte c.bin_at.result (omega arith) c.bin_at.ensures

pub returns-then-byte-le123 : goal.returns-then-byte-le123
returns-then-byte-le123 c = bare_un64 c.args.byte c.un_at-then-byte-le123.result (omega arith) c.un_at-then-byte-le123.ensures

pub returns-then-byte-le138 : goal.returns-then-byte-le138
returns-then-byte-le138 c = bare_bin64 c.args.byte c.bin_at-then-byte-le138.result (omega arith) c.bin_at-then-byte-le138.ensures
