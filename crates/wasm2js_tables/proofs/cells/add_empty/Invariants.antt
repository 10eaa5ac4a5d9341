use Rattle.std.proofs.Common.{◌≡◌, ◌++◌, map, replicate}
use Rattle.sem_words.specs.Lists.{list_items}
use Rattle.wasm2js_lang.specs.Tables as plain
use Rattle.wasm2js_tables.specs.Views.{cell_view}
use Rattle.wasm2js_tables.proofs.cells.add_empty.Given as goal

abbrev pub invariant-loop-cell : goal.invariant-loop-cell
invariant-loop-cell l = map cell_view (list_items l.cells) ≡ map cell_view (list_items l.fn.cells) ++ replicate l._cell plain.empty
