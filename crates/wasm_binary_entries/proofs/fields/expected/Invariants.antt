use Rattle.std.proofs.Common.{◌≡◌, drop}
use Rattle.wasm_lang.specs.ReadingModule.{header_field}
use Rattle.wasm_tree.specs.Inputs.{input_of, Continues}
use Rattle.wasm_binary_entries.proofs.fields.expected.Given as goal

abbrev pub invariant-loop-byte : goal.invariant-loop-byte
invariant-loop-byte l = record {
  value : header_field l.row l.bytes (input_of l.input) ≡ header_field l.row (drop l.byte-index l.bytes) (input_of l.rest);
  follows : Continues l.rest l.input;
}
