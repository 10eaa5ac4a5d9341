use Rattle.std.proofs.Common.{◌≡◌, ◌++◌, drop, map}
use Rattle.wasm_tree.specs.Views.{body_of, module_of}
use Rattle.wasm_binary_write.specs.Spelling as spelling
use Rattle.wasm_binary_write.specs.Spelling.{items, sized}
use Rattle.wasm_link_move.specs.Moved.{side_of}
use Rattle.wasm_link_sections.specs.Made as made
use Rattle.wasm_link_sections.proofs.written_bodies.push_side.Given as goal

abbrev pub invariant-loop-i : goal.invariant-loop-i
invariant-loop-i l =
    l.fn.out.items ++ items (λ b. sized (spelling.body b)) (made.bodies_made l.numbers (side_of l.side) (module_of l.own) l.other 0 (module_of l.own).bodies)
    ≡ l.out.items ++ items (λ b. sized (spelling.body b)) (made.bodies_made l.numbers (side_of l.side) (module_of l.own) l.other l.i (map body_of (drop l.i l.body-items)))
