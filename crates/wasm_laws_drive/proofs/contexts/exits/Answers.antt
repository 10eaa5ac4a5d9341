use Rattle.wasm_laws_drive.proofs.Stepping.{end_of_label, end_of_frame, branch_past_label, branch_to_label, branch_out_of_frame, return_past_label, return_out_of_frame}
use Rattle.wasm_laws_drive.proofs.contexts.exits.Goals as goal

pub returns-clause-end_of_label : goal.returns-clause-end_of_label
returns-clause-end_of_label c = end_of_label

pub returns-clause-end_of_frame : goal.returns-clause-end_of_frame
returns-clause-end_of_frame c = end_of_frame

pub returns-clause-branch_past_label : goal.returns-clause-branch_past_label
returns-clause-branch_past_label c = branch_past_label

pub returns-clause-branch_to_label : goal.returns-clause-branch_to_label
returns-clause-branch_to_label c = branch_to_label

pub returns-clause-branch_out_of_frame : goal.returns-clause-branch_out_of_frame
returns-clause-branch_out_of_frame c = branch_out_of_frame

pub returns-clause-return_past_label : goal.returns-clause-return_past_label
returns-clause-return_past_label c = return_past_label

pub returns-clause-return_out_of_frame : goal.returns-clause-return_out_of_frame
returns-clause-return_out_of_frame c = return_out_of_frame
