use Rattle.std.proofs.Common.{◌≡◌, ◌+◌, map, drop}
use Rattle.asm_tree.specs.Views.{module_view, table_view}
use Rattle.asm_lang_valid.specs.Rows.{first}
use Rattle.asm_lang_valid.specs.TypeRows as rows
use Rattle.asm_validate_stmts.proofs.tables.tables_typed.Given as goal

abbrev pub invariant-loop-table : goal.invariant-loop-table
invariant-loop-table l = record {
  rest : first (rows.tables_rows (module_view l.environment.home.now) l.initial.node (map table_view l.tables)) ≡ first (rows.tables_rows (module_view l.environment.home.now) l.node (map table_view (drop l.table-index l.tables)));
  counted : l.node ≡ l.initial.node + l.table-index;
}
