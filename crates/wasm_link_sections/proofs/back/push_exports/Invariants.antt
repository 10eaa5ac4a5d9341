use Rattle.std.proofs.Common.{◌≡◌, ◌++◌, drop, map}
use Rattle.wasm_tree.specs.Views.{export_of}
use Rattle.wasm_link_code.specs.Linked as linked
use Rattle.wasm_link_move.specs.Moved.{side_of}
use Rattle.wasm_link_sections.specs.Made as made
use Rattle.wasm_link_sections.proofs.back.push_exports.Given as goal

abbrev pub invariant-loop-export : goal.invariant-loop-export
invariant-loop-export l =
    map export_of l.fn.exports.items ++ linked.moved_exports (made.function_in l.numbers (side_of l.side)) (map export_of l.own)
    ≡ map export_of l.exports.items ++ linked.moved_exports (made.function_in l.numbers (side_of l.side)) (map export_of (drop l.export-index l.own))
