-- The rows of valid modules that aren't taken, as they are numbered in print.
use Rattle.std.specs.Prelude.{ℕ}
use Rattle.wasm_lang_valid.specs.declared.profile.Beyond.{Beyond}
use Rattle.wasm_lang_valid.specs.declared.profile.Beyond.TheVariants as rows

abbrev pub beyond_number : Beyond → ℕ
beyond_number rows.ImportedTable = 14
beyond_number rows.MutableImport = 15
beyond_number rows.WideImport = 16
beyond_number rows.OffsetFromImport = 17
beyond_number rows.SegmentOutside = 18
beyond_number rows.MemoryLarge = 19
beyond_number rows.Levels = 20
beyond_number rows.MixedImport = 22
beyond_number rows.Size = 23
beyond_number rows.WideMulDiv = 24
