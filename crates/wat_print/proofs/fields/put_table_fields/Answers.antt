use Rattle.std.proofs.Common.{rules}
use Rattle.wat_lang.specs.Printing.{table_group}
use Rattle.wat_print.specs.Put.{written}
use Rattle.wat_print.proofs.Puts.{next_ended}
use Rattle.wat_print.proofs.fields.put_table_fields.Goals as goal

pub loop-limits-preserved : goal.loop-limits-preserved
loop-limits-preserved c =
    next_ended table_group (written c.args.out.now) (written c.loop-limits.out) (written c.put_table.new.out) (written c.line_end.new.self) c.args.tables.now c.loop-limits.limits-index _
    c.loop-limits-test.true (search rules) c.loop-limits.invariant c.in_ok-put_table.ensures c.in_ok-line_end.ensures
