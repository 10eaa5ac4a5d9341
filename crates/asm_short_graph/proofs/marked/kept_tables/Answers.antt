use Rattle.std.proofs.Common.{map, ap, arith}
use Rattle.asm_tree.specs.Views.{table_view}
use Rattle.asm_short_graph.specs.Picked.{picked, tables_in}
use Rattle.asm_short_graph.proofs.Gathered.{none_picked, one_kept, all_picked}
use Rattle.asm_short_graph.proofs.marked.kept_tables.Goals as goal

pub loop-i-init : goal.loop-i-init
loop-i-init c = none_picked _ (picked c.args.marks.now (map table_view c.args.tables.now)) (ap tables_in c.new-kept.ensures.items)

pub loop-i-preserved : goal.loop-i-preserved
loop-i-preserved c =
    let l = c.loop-i in
    one_kept table_view c.args.marks.now c.args.tables.now l.i c.index-tables-i.result c.is_marked-mark.result (tables_in l.kept.items) _ _ (omega arith) c.index-tables-i.is c.is_marked-mark.ensures c.in_ok-keep_table.ensures l.invariant

pub returns : goal.returns
returns c = all_picked table_view c.args.marks.now c.args.tables.now c.loop-i.i _ _ (omega arith) c.loop-i.invariant
