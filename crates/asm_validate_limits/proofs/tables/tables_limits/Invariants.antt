use Rattle.std.proofs.Common.{◌≡◌, ◌+◌, ◌≤◌, length, map, drop}
use Rattle.asm_tree.specs.Views.{table_view}
use Rattle.asm_lang_valid.specs.LimitRows.{tables_marks, most_entries}
use Rattle.asm_validate_limits.proofs.Lists.{Completes}
use Rattle.asm_validate_limits.proofs.tables.tables_limits.Given as goal

abbrev pub invariant-loop-table : goal.invariant-loop-table
invariant-loop-table l = record {
  rest : Completes (tables_marks 0 l.initial.tally.at (map table_view l.tables)) (length l.tables) l.initial.tally (tables_marks l.before l.tally.at (map table_view (drop l.table-index l.tables))) (length (drop l.table-index l.tables)) l.tally;
  within : l.before ≤ most_entries;
  counted : l.tally.at ≡ l.initial.tally.at + l.table-index;
}
