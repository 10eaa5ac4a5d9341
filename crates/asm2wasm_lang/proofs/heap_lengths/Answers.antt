use Rattle.asm2wasm_lang.proofs.Lengths.{is_of_heap, are_few}
use Rattle.asm2wasm_lang.proofs.heap_lengths.Goals as goal

pub returns-clause-of_a_heap : goal.returns-clause-of_a_heap
returns-clause-of_a_heap c = is_of_heap

pub returns-clause-few : goal.returns-clause-few
returns-clause-few c = are_few
