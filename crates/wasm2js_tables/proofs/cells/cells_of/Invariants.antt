use Rattle.std.proofs.Common.{◌≡◌, map, take}
use Rattle.sem_words.specs.Lists.{list_items}
use Rattle.wasm_tree.specs.Views.{type_of}
use Rattle.wasm2js_lang.specs.Tables as plain
use Rattle.wasm2js_tables.specs.Views.{cell_view}
use Rattle.wasm2js_tables.proofs.cells.cells_of.Given as goal

abbrev pub invariant-loop-entry : goal.invariant-loop-entry
invariant-loop-entry l = map cell_view (list_items l.cells) ≡ map (plain.cell l.valid (type_of l.function_type)) (take l.entry-index l.entries)
