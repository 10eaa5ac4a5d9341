use Rattle.std.proofs.Common.{◌≡◌, ◌++◌, drop, map}
use Rattle.wasm_tree.specs.Views.{element_of}
use Rattle.wasm_link_move.specs.Moved.{side_of}
use Rattle.wasm_link_sections.specs.Made as made
use Rattle.wasm_link_sections.proofs.back.push_elements.Given as goal

abbrev pub invariant-loop-element : goal.invariant-loop-element
invariant-loop-element l =
    map element_of l.fn.elements.items ++ map (made.element_made (made.function_in l.numbers (side_of l.side)) l.entries) (map element_of l.own)
    ≡ map element_of l.elements.items ++ map (made.element_made (made.function_in l.numbers (side_of l.side)) l.entries) (map element_of (drop l.element-index l.own))
