use Rattle.wasm_laws_sound.proofs.Outcomes.{reducts_are_typed, outcomes_are_typed}
use Rattle.wasm_laws_sound.proofs.laws.reductions_go_on.Goals as goal

pub returns-clause-one : goal.returns-clause-one
returns-clause-one c = reducts_are_typed

pub returns-clause-many : goal.returns-clause-many
returns-clause-many c = outcomes_are_typed
