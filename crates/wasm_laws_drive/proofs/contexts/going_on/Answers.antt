use Rattle.wasm_laws_drive.proofs.Closing.{paid_inside, number_inside, values_inside, effect_inside, choice_inside}
use Rattle.wasm_laws_drive.proofs.contexts.going_on.Goals as goal

pub returns-clause-paid : goal.returns-clause-paid
returns-clause-paid c = paid_inside

pub returns-clause-number : goal.returns-clause-number
returns-clause-number c = number_inside

pub returns-clause-values : goal.returns-clause-values
returns-clause-values c = values_inside

pub returns-clause-effect : goal.returns-clause-effect
returns-clause-effect c = effect_inside

pub returns-clause-choice : goal.returns-clause-choice
returns-clause-choice c = choice_inside
