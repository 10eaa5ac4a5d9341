use Rattle.std.proofs.Common.{◌≡◌, ◌++◌, map, take}
use Rattle.asm_lang.specs.Modules as plain
use Rattle.asm_tree.specs.Views.{table_view}
use Rattle.asm_short_graph.specs.Graphs.{names_in}
use Rattle.asm_short_graph.proofs.numbering.push_tables.Given as goal

abbrev pub invariant-loop-table : goal.invariant-loop-table
invariant-loop-table l = names_in l.names.items ≡ names_in l.initial.names.items ++ map (λ (x : plain.Table). x.name) (map table_view (take l.table-index l.tables))
