use Rattle.wasm_tree.specs.Inputs.{input_of}
use Rattle.wasm_link_move.specs.Moved.{side_of}
use Rattle.wasm_link_move.proofs.Turns.{IsTurn}
use Rattle.wasm_link_move.proofs.spelling.push_lent.Given as goal

abbrev pub invariant-loop-turn : goal.invariant-loop-turn
invariant-loop-turn l = IsTurn l.numbers (side_of l.side) l.scratch l.bytes l._turn (input_of l.rest) l.fn.out.items l.out.items l.indirect
