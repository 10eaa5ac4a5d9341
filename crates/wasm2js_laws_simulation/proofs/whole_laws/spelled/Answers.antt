use Rattle.wasm2js_laws_simulation.proofs.WholeWhole.{spelled_are_allowed, traps_of_spelled_are_calls}
use Rattle.wasm2js_laws_simulation.proofs.whole_laws.spelled.Goals as goal

pub returns-clause-allowed : goal.returns-clause-allowed
returns-clause-allowed c = spelled_are_allowed c.translations.ensures.allowed

pub returns-clause-traps : goal.returns-clause-traps
returns-clause-traps c = traps_of_spelled_are_calls c.translations.ensures.allowed c.traps_of_the_allowed.ensures
