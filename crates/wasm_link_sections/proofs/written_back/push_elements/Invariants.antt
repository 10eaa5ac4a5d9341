use Rattle.std.proofs.Common.{◌≡◌, ◌++◌, drop, map}
use Rattle.wasm_tree.specs.Views.{element_of}
use Rattle.wasm_binary_write.specs.Spelling as spelling
use Rattle.wasm_binary_write.specs.Spelling.{items}
use Rattle.wasm_link_move.specs.Moved.{side_of}
use Rattle.wasm_link_sections.specs.Made as made
use Rattle.wasm_link_sections.proofs.written_back.push_elements.Given as goal

abbrev pub invariant-loop-element : goal.invariant-loop-element
invariant-loop-element l =
    l.fn.out.items ++ items spelling.element (map (made.element_made (made.function_in l.numbers (side_of l.side)) l.entries) (map element_of l.own))
    ≡ l.out.items ++ items spelling.element (map (made.element_made (made.function_in l.numbers (side_of l.side)) l.entries) (map element_of (drop l.element-index l.own)))
