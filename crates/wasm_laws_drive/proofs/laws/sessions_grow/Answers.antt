use Rattle.wasm_laws_drive.proofs.Sessions.{sessions_grow, sessions_are_monotone, ended_sessions_stay}
use Rattle.wasm_laws_drive.proofs.laws.sessions_grow.Goals as goal

pub returns-clause-any : goal.returns-clause-any
returns-clause-any c = sessions_grow

pub returns-clause-monotone : goal.returns-clause-monotone
returns-clause-monotone c = sessions_are_monotone

pub returns-clause-ended : goal.returns-clause-ended
returns-clause-ended c = ended_sessions_stay
