use Rattle.std.proofs.Common.{◌≡◌, ◌-◌}
use Rattle.sem_words.specs.Lists.{list_items}
use Rattle.wasm_lang.specs.Reading.{u32, vec_field, items_field}
use Rattle.wasm_tree.specs.Inputs.{input_of, Continues}
use Rattle.wasm_tree.proofs.Items.{with_front}
use Rattle.wasm_tree.proofs.read.read_numbers.Given as goal

abbrev pub invariant-loop-i : goal.invariant-loop-i
invariant-loop-i l = record {
  value : vec_field u32 (input_of l.input) ≡ with_front (list_items l.numbers) (items_field u32 (l.count - l._i) (input_of l.rest));
  follows : Continues l.rest l.input;
}
