-- Why bytes, a text, a valid module or a pair of modules of WebAssembly aren't taken, by number and name, as it is printed.
use Rattle.std.specs.Prelude.{ℕ, Bool, true, false, List, codes}
use Rattle.wasm_lang.specs.declared.fault.Row.{Row}
use Rattle.wasm_lang.specs.declared.fault.Row.TheVariants as binary
use Rattle.wat_lang.specs.declared.fault.Row.{Row as WatRow}
use Rattle.wat_lang.specs.declared.fault.Row.TheVariants as wat
use Rattle.wasm_lang_valid.specs.declared.profile.Beyond.{Beyond}
use Rattle.wasm_lang_valid.specs.declared.profile.Beyond.TheVariants as beyond
use Rattle.wasm_link_lang.specs.declared.rows.LinkRow.{LinkRow}
use Rattle.wasm_link_lang.specs.declared.rows.LinkRow.TheVariants as links

-- ---- bytes that aren't of the binary format

unfoldable pub binary_row_name : Row → List ℕ
binary_row_name binary.Magic = codes "B1 Magic"
binary_row_name binary.Version = codes "B2 Version"
binary_row_name binary.Truncated = codes "B3 Truncated"
binary_row_name binary.Leb = codes "B4 Leb"
binary_row_name binary.SectionOrder = codes "B5 SectionOrder"
binary_row_name binary.SectionSize = codes "B6 SectionSize"
binary_row_name binary.UnknownByte = codes "B7 UnknownByte"
binary_row_name binary.Utf8 = codes "B8 Utf8"
binary_row_name binary.Counts = codes "B9 Counts"
binary_row_name binary.Float = codes "B10 Float"
binary_row_name binary.MemoryGrow = codes "B11 MemoryGrow"
binary_row_name binary.Limit = codes "B12 Limit"

-- ---- a text that says no module

unfoldable pub wat_row_name : WatRow → List ℕ
wat_row_name wat.Token = codes "C1 Token"
wat_row_name wat.Grammar = codes "C2 Grammar"
wat_row_name wat.Number = codes "C3 Number"
wat_row_name wat.IdTaken = codes "C4 IdTaken"
wat_row_name wat.IdUnknown = codes "C5 IdUnknown"
wat_row_name wat.TypeUse = codes "C6 TypeUse"
wat_row_name wat.Order = codes "C7 Order"
wat_row_name wat.Limit = codes "C8 Limit"
wat_row_name wat.OutsideInteger = codes "C9 OutsideInteger"
wat_row_name wat.Utf8 = codes "C10 Utf8"

-- ---- a valid module that isn't run or translated

unfoldable pub beyond_name : Beyond → List ℕ
beyond_name beyond.ImportedTable = codes "B14 ImportedTable"
beyond_name beyond.MutableImport = codes "B15 MutableImport"
beyond_name beyond.WideImport = codes "B16 WideImport"
beyond_name beyond.OffsetFromImport = codes "B17 OffsetFromImport"
beyond_name beyond.SegmentOutside = codes "B18 SegmentOutside"
beyond_name beyond.MemoryLarge = codes "B19 MemoryLarge"
beyond_name beyond.Levels = codes "B20 Levels"
beyond_name beyond.MixedImport = codes "B22 MixedImport"
beyond_name beyond.Size = codes "B23 Size"
beyond_name beyond.WideMulDiv = codes "B24 WideMulDiv"

-- ---- two modules that aren't linked, and for which one's sake

unfoldable pub link_row_name : LinkRow → List ℕ
link_row_name links.Profile = codes "L1 Profile"
link_row_name links.MemoryName = codes "L2 MemoryName"
link_row_name links.MemoryLimits = codes "L3 MemoryLimits"
link_row_name links.ExportTaken = codes "L4 ExportTaken"
link_row_name links.OtherType = codes "L5 OtherType"
link_row_name links.Cycle = codes "L6 Cycle"
link_row_name links.Limit = codes "L7 Limit"

abbrev pub side_name : (second : Bool) → List ℕ
side_name false = codes " first "
side_name true = codes " second "
