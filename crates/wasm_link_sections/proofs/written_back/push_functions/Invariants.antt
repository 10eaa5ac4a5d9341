use Rattle.std.proofs.Common.{◌≡◌, ◌++◌, drop, length, map}
use Rattle.wasm_binary_write.specs.Spelling.{items, unsigned}
use Rattle.wasm_link_move.specs.Moved.{side_of}
use Rattle.wasm_link_sections.specs.Made as made
use Rattle.wasm_link_sections.proofs.written_back.push_functions.Given as goal

abbrev pub invariant-loop-function : goal.invariant-loop-function
invariant-loop-function l =
    l.fn.out.items ++ (unsigned (length l.functions) ++ items unsigned (map (made.function_in l.numbers (side_of l.side)) l.functions))
    ≡ l.out.items ++ items unsigned (map (made.function_in l.numbers (side_of l.side)) (drop l.function-index l.functions))
