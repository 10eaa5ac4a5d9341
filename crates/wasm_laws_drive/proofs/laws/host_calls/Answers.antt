use Rattle.wasm_laws_drive.proofs.Counting.{run_is_driven, host_call}
use Rattle.wasm_laws_drive.proofs.laws.host_calls.Goals as goal

pub returns-clause-run : goal.returns-clause-run
returns-clause-run c = run_is_driven

pub returns-clause-call : goal.returns-clause-call
returns-clause-call c = host_call
