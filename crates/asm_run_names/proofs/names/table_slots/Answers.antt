use Rattle.std.proofs.Common.{◌+◌, ◌++◌, map, drop, ap, ◌∙◌, arith}
use Rattle.asm_tree.specs.Views.{table_view}
use Rattle.name_slots.specs.Names.{names_in}
use Rattle.asm_run_names.specs.Names.{table_names}
use Rattle.asm_run_names.proofs.Declarations.{table_more, no_table, slots_are}
use Rattle.asm_run_names.proofs.names.table_slots.Goals as goal

pub loop-table-preserved : goal.loop-table-preserved
loop-table-preserved c =
    let one = table_more c.loop-table.names.items c.as_bytes.result c.args.tables.now c.loop-table.table-index c.table-item.result c.loop-table-test.true c.table-item.is c.as_bytes.ensures in
    ap (λ bs. names_in bs ++ table_names (map table_view (drop (c.loop-table.table-index + 1) c.args.tables.now))) c.in_ok-push.ensures.items ∙ one ∙ c.loop-table.invariant

pub returns : goal.returns
returns c = slots_are c.new.result _ _ (no_table (names_in c.loop-table.names.items) c.args.tables.now c.loop-table.table-index _ (omega arith) c.loop-table.invariant) c.new.ensures
