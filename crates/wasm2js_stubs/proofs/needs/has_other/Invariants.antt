use Rattle.std.proofs.Common.{◌≡◌, drop, map}
use Rattle.std.specs.List.{list_any}
use Rattle.wasm2js_translation.specs.Tables
use Rattle.wasm2js_tables.specs.Views.{cell_view}
use Rattle.wasm2js_stubs.proofs.needs.has_other.Given as goal

abbrev pub invariant-loop-cell : goal.invariant-loop-cell
invariant-loop-cell l = list_any Tables.is_other (map cell_view (drop l.cell-index l.cells)) ≡ list_any Tables.is_other (map cell_view l.cells)
