use Rattle.wasm_worked.proofs.Plays.{too_few, unknown, no_number}
use Rattle.wasm_worked.proofs.rows.refused_scripts.Goals as goal

pub returns-clause-too_few : goal.returns-clause-too_few
returns-clause-too_few c = too_few

pub returns-clause-unknown : goal.returns-clause-unknown
returns-clause-unknown c = unknown

pub returns-clause-no_number : goal.returns-clause-no_number
returns-clause-no_number c = no_number
