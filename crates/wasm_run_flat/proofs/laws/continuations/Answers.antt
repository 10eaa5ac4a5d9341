use Rattle.wasm_run_flat.proofs.Standing.{block_goes_on, loop_goes_on}
use Rattle.wasm_run_flat.proofs.laws.continuations.Goals as goal

pub returns-clause-block : goal.returns-clause-block
returns-clause-block c = block_goes_on

pub returns-clause-loop_start : goal.returns-clause-loop_start
returns-clause-loop_start c = loop_goes_on
