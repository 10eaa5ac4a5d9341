use Rattle.wasm2js_laws_simulation.proofs.SessionsWhole.{sessions_are_followed, sessions_simulate, sessions_are_bounded}
use Rattle.wasm2js_laws_simulation.proofs.sessions_laws.sessions.Goals as goal

pub returns-clause-followed : goal.returns-clause-followed
returns-clause-followed c = sessions_are_followed c.stores.ensures.held

pub returns-clause-simulate : goal.returns-clause-simulate
returns-clause-simulate c = sessions_simulate c.stores.ensures.held

pub returns-clause-bounded : goal.returns-clause-bounded
returns-clause-bounded c = sessions_are_bounded c.stores.ensures.held
