-- The rows of pairs that aren't linked, as they are numbered in print.
use Rattle.std.specs.Prelude.{ℕ}
use Rattle.wasm_link_lang.specs.declared.rows.LinkRow.{LinkRow}
use Rattle.wasm_link_lang.specs.declared.rows.LinkRow.TheVariants as rows

abbrev pub row_number : LinkRow → ℕ
row_number rows.Profile = 1
row_number rows.MemoryName = 2
row_number rows.MemoryLimits = 3
row_number rows.ExportTaken = 4
row_number rows.OtherType = 5
row_number rows.Cycle = 6
row_number rows.Limit = 7
