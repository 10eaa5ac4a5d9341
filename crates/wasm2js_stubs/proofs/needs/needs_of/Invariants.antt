use Rattle.std.proofs.Common.{map, take}
use Rattle.wasm_tree.specs.Views.{type_of}
use Rattle.wasm2js_tables.specs.Views.{masked_view}
use Rattle.wasm2js_stubs.specs.Needs.{AreNeeds}
use Rattle.wasm2js_stubs.proofs.needs.needs_of.Given as goal

abbrev pub invariant-loop-table : goal.invariant-loop-table
invariant-loop-table l = AreNeeds l.count (map type_of l.types) (map masked_view (take l.table-index l.tables)) l.needs.items
