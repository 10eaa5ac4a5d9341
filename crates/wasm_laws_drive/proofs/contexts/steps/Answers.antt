use Rattle.wasm_laws_drive.proofs.Stepping.{plain_step, unreachable_step, block_step, loop_step, if_step, br_step, br_if_step, br_table_step, return_step, call_step, call_indirect_step}
use Rattle.wasm_laws_drive.proofs.contexts.steps.Goals as goal

pub returns-clause-plain_instruction : goal.returns-clause-plain_instruction
returns-clause-plain_instruction c = plain_step

pub returns-clause-unreachable : goal.returns-clause-unreachable
returns-clause-unreachable c = unreachable_step

pub returns-clause-block : goal.returns-clause-block
returns-clause-block c = block_step

pub returns-clause-loop_start : goal.returns-clause-loop_start
returns-clause-loop_start c = loop_step

pub returns-clause-if_block : goal.returns-clause-if_block
returns-clause-if_block c = if_step

pub returns-clause-br : goal.returns-clause-br
returns-clause-br c = br_step

pub returns-clause-br_if : goal.returns-clause-br_if
returns-clause-br_if c = br_if_step

pub returns-clause-br_table : goal.returns-clause-br_table
returns-clause-br_table c = br_table_step

pub returns-clause-return_leaves : goal.returns-clause-return_leaves
returns-clause-return_leaves c = return_step

pub returns-clause-call : goal.returns-clause-call
returns-clause-call c = call_step

pub returns-clause-call_indirect : goal.returns-clause-call_indirect
returns-clause-call_indirect c = call_indirect_step
