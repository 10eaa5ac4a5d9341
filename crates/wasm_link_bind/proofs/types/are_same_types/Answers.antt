use Rattle.std.proofs.Common.{sym}
use Rattle.wasm_link_bind.proofs.SameTypes.{unequal}
use Rattle.wasm_link_bind.proofs.types.are_same_types.Goals as goal

pub returns-then-first-second : goal.returns-then-first-second
returns-then-first-second c = sym (unequal c.args.first.now c.args.second.now c.if-first-second.true)
