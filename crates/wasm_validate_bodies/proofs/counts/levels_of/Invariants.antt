use Rattle.std.proofs.Common.{◌≡◌, ◌≤◌, max, drop, map}
use Rattle.wasm_lang.specs.Limits.{levels, levels_from}
use Rattle.wasm_tree.specs.Views.{instr_of}
use Rattle.wasm_validate_bodies.proofs.counts.levels_of.Given as goal

abbrev pub invariant-loop-instr : goal.invariant-loop-instr
invariant-loop-instr l = record {
  rest : levels (map instr_of l.code) ≡ max l.most (levels_from l.depth (map instr_of (drop l.instr-index l.code)));
  within : l.depth ≤ l.instr-index;
}
