use Rattle.std.proofs.Common.{◌≡◌, ◌++◌, length, map, drop}
use Rattle.asm_tree.specs.Views.{table_view}
use Rattle.asm2wasm_lang.specs.Tables.{bases_from}
use Rattle.asm2wasm_tables.specs.Names.{entries_in}
use Rattle.asm2wasm_tables.proofs.plan.laid.Given as goal

abbrev pub invariant-loop-table : goal.invariant-loop-table
invariant-loop-table l = record {
  bases : l.bases.items ++ bases_from (length l.entries.items) (map table_view (drop l.table-index l.tables)) ≡ bases_from 0 (map table_view l.tables);
  entries : l.entries.items ++ entries_in l.functions (map table_view (drop l.table-index l.tables)) ≡ entries_in l.functions (map table_view l.tables);
}
