use Rattle.std.proofs.Common.{◌≡◌, ◌-◌, length}
use Rattle.wasm_lang.specs.ReadingCode.{code_field, code_from}
use Rattle.wasm_tree.specs.Inputs.{input_of, Continues}
use Rattle.wasm_binary_entries.specs.Openings.{openings_of}
use Rattle.wasm_binary_entries.specs.Views.{instrs_of}
use Rattle.wasm_binary_entries.proofs.ItemsInRow.{with_front}
use Rattle.wasm_binary_entries.proofs.code.instrs.Given as goal

abbrev pub invariant-loop-turn : goal.invariant-loop-turn
invariant-loop-turn l = record {
  value : code_field (input_of l.input) ≡ with_front (instrs_of l.list) (code_from (length l.input.bytes.now - l._turn) (openings_of l.openings.items) (input_of l.rest));
  follows : Continues l.rest l.input;
}
