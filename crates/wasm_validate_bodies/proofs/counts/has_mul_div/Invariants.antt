use Rattle.std.proofs.Common.{◌≡◌, drop, map}
use Rattle.wasm_tree.specs.Views.{instr_of}
use Rattle.wasm_lang_valid.specs.Measures as counts
use Rattle.wasm_validate_bodies.proofs.counts.has_mul_div.Given as goal

abbrev pub invariant-loop-instr : goal.invariant-loop-instr
invariant-loop-instr l = counts.has_mul_div (map instr_of l.code) ≡ counts.has_mul_div (map instr_of (drop l.instr-index l.code))
