use Rattle.std.proofs.Common.{◌≡◌, ◌-◌, length}
use Rattle.wasm_lang.specs.ReadingModule.{customs_field, customs_within}
use Rattle.wasm_tree.specs.Inputs.{input_of, Continues}
use Rattle.wasm_binary.proofs.sections.customs.Given as goal

abbrev pub invariant-loop-turn : goal.invariant-loop-turn
invariant-loop-turn l = record {
  value : customs_field (input_of l.input) ≡ customs_within (length l.input.bytes.now - l._turn) (input_of l.rest);
  follows : Continues l.rest l.input;
}
