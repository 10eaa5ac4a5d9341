use Rattle.wasm_laws_drive.proofs.Instructions.{call_enters, call_indirect_enters}
use Rattle.wasm_laws_drive.proofs.laws.calls.Goals as goal

pub returns-clause-call : goal.returns-clause-call
returns-clause-call c = call_enters

pub returns-clause-call_indirect : goal.returns-clause-call_indirect
returns-clause-call_indirect c = call_indirect_enters
