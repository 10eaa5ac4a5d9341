use Rattle.wasm_laws_drive.proofs.Closing.{through_surroundings, ends_stay, stuck_stays, spent_stays}
use Rattle.wasm_laws_drive.proofs.contexts.surroundings.Goals as goal

pub returns-clause-through : goal.returns-clause-through
returns-clause-through c = through_surroundings

pub returns-clause-ends : goal.returns-clause-ends
returns-clause-ends c = ends_stay

pub returns-clause-stuck : goal.returns-clause-stuck
returns-clause-stuck c = stuck_stays

pub returns-clause-spent : goal.returns-clause-spent
returns-clause-spent c = spent_stays
