-- The rows from that of segments on.
use Rattle.std.specs.Prelude.{Option, Some, None}
use Rattle.wasm_lang.specs.Modules.{WasmModule}
use Rattle.wasm_lang_valid.specs.declared.profile.Beyond.TheVariants.{SegmentOutside, MemoryLarge, Levels, Size, WideMulDiv}
use Rattle.wasm_lang_valid.specs.declared.profile.Outside.{Outside}
use Rattle.wasm_lang_valid.specs.Measures.{measures_of}
use Rattle.wasm_lang_valid.specs.Runnable.{row_or, above, pages, most_pages_to_run}
use Rattle.wasm_lang_valid.specs.Profile.{segment_outside, table_length, memory_bytes, most_levels, size_past}

abbrev pub last_rows : WasmModule → Option Outside
last_rows m =
    row_or SegmentOutside (segment_outside (table_length m) (memory_bytes m) 0 m.elements m.segments)
    (row_or MemoryLarge (above most_pages_to_run (pages m))
    (row_or Levels (above most_levels (Some (measures_of m).levels))
    (row_or Size (size_past m) (row_or WideMulDiv (measures_of m).mul_div None))))
