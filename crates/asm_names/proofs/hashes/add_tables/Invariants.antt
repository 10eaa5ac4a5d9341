use Rattle.std.proofs.Common.{◌≡◌, drop}
use Rattle.std.specs.List.{fold}
use Rattle.asm_names.specs.Hashed.{with_table}
use Rattle.asm_names.proofs.hashes.add_tables.Given as goal

abbrev pub invariant-loop-table : goal.invariant-loop-table
invariant-loop-table l = fold with_table l.fn.seed l.tables ≡ fold with_table l.seed (drop l.table-index l.tables)
