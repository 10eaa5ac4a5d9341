use Rattle.wasm_run_flat.proofs.Standing.{single_goes_on, block_opens, loop_opens, first_arm_opens, second_arm_opens}
use Rattle.wasm_run_flat.proofs.laws.going_on.Goals as goal

pub returns-clause-single : goal.returns-clause-single
returns-clause-single c = single_goes_on

pub returns-clause-block : goal.returns-clause-block
returns-clause-block c = block_opens

pub returns-clause-loop_start : goal.returns-clause-loop_start
returns-clause-loop_start c = loop_opens

pub returns-clause-first_arm : goal.returns-clause-first_arm
returns-clause-first_arm c = first_arm_opens

pub returns-clause-second_arm : goal.returns-clause-second_arm
returns-clause-second_arm c = second_arm_opens
