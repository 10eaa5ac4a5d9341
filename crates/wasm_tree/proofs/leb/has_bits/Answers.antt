use Rattle.std.proofs.Common.{refl}
use Rattle.wasm_tree.proofs.Powers.{low_bits}
use Rattle.wasm_tree.proofs.leb.has_bits.Goals as goal

pub returns-then-bits-ge7 : goal.returns-then-bits-ge7
returns-then-bits-ge7 c = (λ _. low_bits c.args.bits c.args.byte c.if-bits-ge7.true c.requires.small, λ _. refl)
