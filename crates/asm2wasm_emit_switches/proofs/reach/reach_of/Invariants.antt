use Rattle.std.proofs.Common.{◌≡◌, max, map, drop}
use Rattle.wasm_tree.specs.Views.{instr_of}
use Rattle.asm2wasm_emit_switches.specs.Reach.{farthest}
use Rattle.asm2wasm_emit_switches.proofs.reach.reach_of.Given as goal

abbrev pub invariant-loop-instr : goal.invariant-loop-instr
invariant-loop-instr l = farthest (map instr_of l.code) ≡ max l.reach (farthest (map instr_of (drop l.instr-index l.code)))
