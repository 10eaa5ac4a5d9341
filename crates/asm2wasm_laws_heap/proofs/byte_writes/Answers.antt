use Rattle.asm2wasm_laws_heap.proofs.Writes.{writes_stay_in_front, writes_have_two_parts}
use Rattle.asm2wasm_laws_heap.proofs.byte_writes.Goals as goal

pub returns-clause-in_front : goal.returns-clause-in_front
returns-clause-in_front c = writes_stay_in_front

pub returns-clause-anywhere : goal.returns-clause-anywhere
returns-clause-anywhere c = writes_have_two_parts
