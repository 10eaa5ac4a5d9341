use Rattle.std.proofs.Common.{◌≡◌, ◌+◌, map, drop}
use Rattle.asm_tree.specs.Views.{module_view, table_view}
use Rattle.asm_lang_valid.specs.Rows.{first}
use Rattle.asm_lang_valid.specs.NameRows as rows
use Rattle.asm_validate_names.specs.Seen.{names}
use Rattle.asm_validate_names.proofs.tables.tables_names.Given as goal

abbrev pub invariant-loop-table : goal.invariant-loop-table
invariant-loop-table l = record {
  rest : first (rows.tables_names (module_view l.environment.home.now) (names l.initial.seen) (map table_view l.tables) l.initial.at) ≡ first (rows.tables_names (module_view l.environment.home.now) (names l.seen) (map table_view (drop l.table-index l.tables)) l.at);
  counted : l.at ≡ l.initial.at + l.table-index;
}
