use Rattle.std.proofs.Common.{◌+◌, ◌-◌, ◌*◌, arith}
use Rattle.wasm_tree.proofs.Powers.{joined_below, fits_64}
use Rattle.wasm_tree.proofs.leb.joined.Goals as goal

pub overflow_mul-result : goal.overflow_mul-result
overflow_mul-result c =
    let a = joined_below c.args.bits c.args.high c.args.byte c.requires.bits.0 c.requires.high c.requires.byte.1 in
    let b = fits_64 c.args.bits (128 * c.args.high + (c.args.byte - 128)) c.requires.bits.1 a in
    omega arith

pub overflow_add-result : goal.overflow_add-result
overflow_add-result c =
    let a = joined_below c.args.bits c.args.high c.args.byte c.requires.bits.0 c.requires.high c.requires.byte.1 in
    let b = fits_64 c.args.bits (128 * c.args.high + (c.args.byte - 128)) c.requires.bits.1 a in
    omega arith

pub returns-clause-bound : goal.returns-clause-bound
returns-clause-bound c = joined_below c.args.bits c.args.high c.args.byte c.requires.bits.0 c.requires.high c.requires.byte.1
