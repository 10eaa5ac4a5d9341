use Rattle.std.proofs.Common.{rules}
use Rattle.wat_lang.specs.Printing.{type_piece}
use Rattle.wat_print.specs.Put.{written}
use Rattle.wat_print.proofs.Puts.{next_piece}
use Rattle.wat_print.proofs.parts.put_types.Goals as goal

pub loop-kind-preserved : goal.loop-kind-preserved
loop-kind-preserved c =
    next_piece type_piece (written c.args.out.now) (written c.loop-kind.out) (written c.put_type.new.out) c.args.types.now c.loop-kind.kind-index _
    c.loop-kind-test.true (search rules) c.loop-kind.invariant c.in_ok-put_type.ensures
