use Rattle.std.proofs.Common.{refl}
use Rattle.wasm_tree.proofs.Powers.{negative_bits}
use Rattle.wasm_tree.proofs.leb.is_negative.Goals as goal

pub returns-then-bits-ge7 : goal.returns-then-bits-ge7
returns-then-bits-ge7 c = (λ _. negative_bits c.args.bits c.args.byte c.if-bits-ge7.true c.requires.small.0, λ _. refl)
