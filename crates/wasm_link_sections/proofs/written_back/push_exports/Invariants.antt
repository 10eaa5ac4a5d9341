use Rattle.std.proofs.Common.{◌≡◌, ◌++◌, drop, map}
use Rattle.wasm_tree.specs.Views.{export_of}
use Rattle.wasm_binary_write.specs.Spelling.{exported, items}
use Rattle.wasm_link_code.specs.Linked as linked
use Rattle.wasm_link_move.specs.Moved.{side_of}
use Rattle.wasm_link_sections.specs.Made as made
use Rattle.wasm_link_sections.proofs.written_back.push_exports.Given as goal

abbrev pub invariant-loop-export : goal.invariant-loop-export
invariant-loop-export l =
    l.fn.out.items ++ items exported (linked.moved_exports (made.function_in l.numbers (side_of l.side)) (map export_of l.own))
    ≡ l.out.items ++ items exported (linked.moved_exports (made.function_in l.numbers (side_of l.side)) (map export_of (drop l.export-index l.own)))
