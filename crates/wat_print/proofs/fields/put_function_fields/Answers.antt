use Rattle.std.proofs.Common.{arith}
use Rattle.wat_print.specs.Put.{written}
use Rattle.wat_print.proofs.Lists.{all_done}
use Rattle.wat_print.proofs.fields.put_function_fields.Goals as goal

pub returns : goal.returns
returns c =
    all_done (written c.loop-index.out) _ c.args.functions.now c.args.bodies.now c.loop-index.index
    (omega (arith, c.min-index-end.ensures, c.loop-index-test.false)) c.loop-index.invariant
