use Rattle.wasm_laws_drive.proofs.Instructions.{unreachable_traps, block_enters, loop_enters, loop_turns, if_chooses, br_branches, br_if_chooses, br_table_chooses, return_leaves}
use Rattle.wasm_laws_drive.proofs.laws.control.Goals as goal

pub returns-clause-unreachable : goal.returns-clause-unreachable
returns-clause-unreachable c = unreachable_traps

pub returns-clause-block : goal.returns-clause-block
returns-clause-block c = block_enters

pub returns-clause-loop_start : goal.returns-clause-loop_start
returns-clause-loop_start c = loop_enters

pub returns-clause-loop_turn : goal.returns-clause-loop_turn
returns-clause-loop_turn c = loop_turns

pub returns-clause-if_block : goal.returns-clause-if_block
returns-clause-if_block c = if_chooses

pub returns-clause-br : goal.returns-clause-br
returns-clause-br c = br_branches

pub returns-clause-br_if : goal.returns-clause-br_if
returns-clause-br_if c = br_if_chooses

pub returns-clause-br_table : goal.returns-clause-br_table
returns-clause-br_table c = br_table_chooses

pub returns-clause-return_leaves : goal.returns-clause-return_leaves
returns-clause-return_leaves c = return_leaves
