use Rattle.std.proofs.Common.{◌≡◌, map}
use Rattle.std.specs.List.{flat_map}
use Rattle.wasm_tree.specs.Views.{instr_of}
use Rattle.wasm_link_move.specs.Moved.{side_of, pushed}
use Rattle.wasm_link_move.proofs.code.pushed_all.Given as goal

abbrev pub invariant-loop-instr : goal.invariant-loop-instr
invariant-loop-instr l = map instr_of l.moved.items ≡ flat_map (pushed l.numbers (side_of l.side) l.scratch) (map instr_of l.yielded)
