use Rattle.std.proofs.Common.{◌≡◌, ◌++◌, map, drop}
use Rattle.asm_tree.specs.Views.{table_view}
use Rattle.asm_short_graph.specs.Picked.{picked, tables_in}
use Rattle.asm_short_graph.proofs.marked.kept_tables.Given as goal

abbrev pub invariant-loop-i : goal.invariant-loop-i
invariant-loop-i l = tables_in l.kept.items ++ picked (drop l.i l.marks) (map table_view (drop l.i l.tables)) ≡ picked l.marks (map table_view l.tables)
