use Rattle.std.proofs.Common.{◌≡◌, ◌-◌}
use Rattle.sem_words.specs.Lists.{list_items}
use Rattle.wasm_lang.specs.ReadingModule.{runs_field}
use Rattle.wasm_tree.specs.Inputs.{input_of, Continues}
use Rattle.wasm_tree.specs.Views.{locals_in}
use Rattle.wasm_binary_entries.proofs.ItemsInRow.{with_front}
use Rattle.wasm_binary_entries.proofs.bodies.runs.Given as goal

abbrev pub invariant-loop-i : goal.invariant-loop-i
invariant-loop-i l = record {
  value : runs_field l.params l.n (input_of l.input) ≡ with_front (locals_in (list_items l.list)) (runs_field l.used (l.n - l._i) (input_of l.rest));
  follows : Continues l.rest l.input;
}
