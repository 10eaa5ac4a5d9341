use Rattle.std.proofs.Common.{◌≡◌, ◌++◌, map, take}
use Rattle.asm_tree.specs.Views.{module_view, table_view}
use Rattle.graph_reach.specs.Graph.{links_in}
use Rattle.asm_short_graph.specs.Graphs.{table_links}
use Rattle.asm_short_graph.proofs.links.push_tables.Given as goal

abbrev pub invariant-loop-table : goal.invariant-loop-table
invariant-loop-table l = links_in l.links.items ≡ links_in l.initial.links.items ++ map (table_links (module_view l.environment.home.now)) (map table_view (take l.table-index l.tables))
