use Rattle.std.proofs.Common.{rules, Ok, Err}
use Rattle.asm_validate_limits.proofs.Passes.{from_err}
use Rattle.asm_validate_limits.proofs.Items.{table_ends, no_tables}
use Rattle.asm_validate_limits.proofs.tables.tables_limits.Goals as goal

pub returns-in_err-table_limits : goal.returns-in_err-table_limits
returns-in_err-table_limits c =
    from_err _ _ c.args.tally.now _ _ c.in_err-table_limits.field-0.0 (search rules)
    (c.loop-table.invariant.rest c.loop-table.tally (Err c.in_err-table_limits.field-0.0) (table_ends c.loop-table.before c.args.tables.now c.loop-table.table-index c.table-item.result c.loop-table-test.true c.table-item.is c.loop-table.tally c.loop-table.tally c.in_err-table_limits.field-0.0 (c.in_err-table_limits.ensures.tallied c.loop-table.tally)))

pub returns : goal.returns
returns c = c.loop-table.invariant.rest c.loop-table.tally (Ok tt) (no_tables c.loop-table.before c.args.tables.now c.loop-table.table-index c.loop-table.tally c.loop-table-test.false)
