use Rattle.wasm_laws_widths.proofs.Pass.{typed_code_passes, peak_is_kept, peak_is_above}
use Rattle.wasm_laws_widths.proofs.Known.{operands_stay_known}
use Rattle.wasm_laws_widths.proofs.passing.Goals as goal

pub returns-clause-typed : goal.returns-clause-typed
returns-clause-typed c = typed_code_passes

pub returns-clause-kept : goal.returns-clause-kept
returns-clause-kept c = peak_is_kept

pub returns-clause-above : goal.returns-clause-above
returns-clause-above c = peak_is_above

pub returns-clause-known : goal.returns-clause-known
returns-clause-known c = operands_stay_known
