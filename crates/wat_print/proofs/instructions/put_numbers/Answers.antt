use Rattle.std.proofs.Common.{rules}
use Rattle.wat_lang.specs.Printing.{number}
use Rattle.wat_print.specs.Put.{written}
use Rattle.wat_print.proofs.Puts.{next_piece}
use Rattle.wat_print.proofs.instructions.put_numbers.Goals as goal

pub loop-n-preserved : goal.loop-n-preserved
loop-n-preserved c =
    next_piece number (written c.args.out.now) (written c.loop-n.out) (written c.number.new.self) c.args.list.now c.loop-n.n-index _
    c.loop-n-test.true (search rules) c.loop-n.invariant c.in_ok-number.ensures
