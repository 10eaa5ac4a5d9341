use Rattle.std.proofs.Common.{map, take}
use Rattle.wasm_tree.specs.Views.{instr_of}
use Rattle.wasm_link_move.specs.Moved.{side_of}
use Rattle.wasm_link_move.proofs.Turns.{IsDone}
use Rattle.wasm_link_move.proofs.spelling.push_listed.Given as goal

abbrev pub invariant-loop-instr : goal.invariant-loop-instr
invariant-loop-instr l = IsDone l.numbers (side_of l.side) l.scratch (map instr_of (take l.instr-index l.code)) l.fn.out.items l.out.items l.indirect
