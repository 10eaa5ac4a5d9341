use Rattle.std.proofs.Common.{◌≡◌, ◌++◌, drop, map}
use Rattle.sem_words.specs.Lists.{list_items, text_bytes}
use Rattle.wasm2js_translation.specs.Names.{spelled}
use Rattle.wasm2js_translation.specs.Tables
use Rattle.wasm2js_tables.specs.Views.{cell_view}
use Rattle.wasm2js_stubs.proofs.members.members_of.Given as goal

abbrev pub invariant-loop-cell : goal.invariant-loop-cell
invariant-loop-cell l =
    map text_bytes (list_items l.members) ++ map (λ x. spelled (Tables.cell_name l.stub x)) (map cell_view (drop l.cell-index l.cells)) ≡ map (λ x. spelled (Tables.cell_name l.stub x)) (map cell_view l.cells)
