use Rattle.wasm_run_flat.proofs.Past.{past_block, past_loop, past_if}
use Rattle.wasm_run_flat.proofs.past_laws.past_blocks.Goals as goal

pub returns-clause-block : goal.returns-clause-block
returns-clause-block c = past_block

pub returns-clause-loop_end : goal.returns-clause-loop_end
returns-clause-loop_end c = past_loop

pub returns-clause-arms : goal.returns-clause-arms
returns-clause-arms c = past_if
