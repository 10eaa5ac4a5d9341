use Rattle.std.proofs.Common.{◌≡◌, drop, map}
use Rattle.wasm_tree.specs.Views.{instr_of}
use Rattle.wasm_link_lang.specs.Refusal as plain
use Rattle.wasm_link_rows.proofs.crowded.is_indirect_among.Given as goal

abbrev pub invariant-loop-instr : goal.invariant-loop-instr
invariant-loop-instr l = plain.has_indirect (map instr_of l.code) ≡ plain.has_indirect (map instr_of (drop l.instr-index l.code))
