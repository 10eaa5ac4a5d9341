use Rattle.std.proofs.Common.{◌≡◌, ◌++◌, drop, map}
use Rattle.wasm_tree.specs.Views.{global_of}
use Rattle.wasm_link_move.specs.Moved.{side_of}
use Rattle.wasm_link_sections.specs.Made as made
use Rattle.wasm_link_sections.proofs.back.push_globals.Given as goal

abbrev pub invariant-loop-global : goal.invariant-loop-global
invariant-loop-global l =
    map global_of l.fn.globals.items ++ map (made.global_made (made.global_in l.numbers (side_of l.side))) (map global_of l.own)
    ≡ map global_of l.globals.items ++ map (made.global_made (made.global_in l.numbers (side_of l.side))) (map global_of (drop l.global-index l.own))
