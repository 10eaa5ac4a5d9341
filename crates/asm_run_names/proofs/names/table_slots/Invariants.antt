use Rattle.std.proofs.Common.{◌≡◌, ◌++◌, map, drop}
use Rattle.asm_tree.specs.Views.{table_view}
use Rattle.name_slots.specs.Names.{names_in}
use Rattle.asm_run_names.specs.Names.{table_names}
use Rattle.asm_run_names.proofs.names.table_slots.Given as goal

abbrev pub invariant-loop-table : goal.invariant-loop-table
invariant-loop-table l = names_in l.names.items ++ table_names (map table_view (drop l.table-index l.tables)) ≡ table_names (map table_view l.tables)
