-- What the values of this crate stand for.
use Rattle.std.specs.Prelude.{map}
use Rattle.sem_words.specs.Lists.{list_items}
use Rattle.wasm2js_lang.specs.Tables as plain
use Rattle.wasm2js_tables.specs.declared.cells.Cell.{Cell}
use Rattle.wasm2js_tables.specs.declared.cells.Cell.TheVariants as cells
use Rattle.wasm2js_tables.specs.declared.cells.MaskedTable.{MaskedTable}

abbrev pub cell_view : Cell → plain.Cell
cell_view (cells.Function f) = plain.a_function f
cell_view cells.Empty = plain.empty
cell_view cells.Other = plain.other

abbrev pub masked_view : MaskedTable → plain.MaskedTable
masked_view t = record { function_type = t.function_type; cells = map cell_view (list_items t.cells) }
