-- The rows of what can't be read, as they are numbered in print.
use Rattle.std.specs.Prelude.{ℕ}
use Rattle.wasm_lang.specs.declared.fault.Row.{Row}
use Rattle.wasm_lang.specs.declared.fault.Row.TheVariants as rows

abbrev pub row_number : Row → ℕ
row_number rows.Magic = 1
row_number rows.Version = 2
row_number rows.Truncated = 3
row_number rows.Leb = 4
row_number rows.SectionOrder = 5
row_number rows.SectionSize = 6
row_number rows.UnknownByte = 7
row_number rows.Utf8 = 8
row_number rows.Counts = 9
row_number rows.Float = 10
row_number rows.MemoryGrow = 11
row_number rows.Limit = 12
