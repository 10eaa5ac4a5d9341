use Rattle.wasm_laws_drive.proofs.Driving.{through_label, through_frame}
use Rattle.wasm_laws_drive.proofs.laws.contexts.Goals as goal

pub returns-clause-label : goal.returns-clause-label
returns-clause-label c = through_label

pub returns-clause-frame : goal.returns-clause-frame
returns-clause-frame c = through_frame
