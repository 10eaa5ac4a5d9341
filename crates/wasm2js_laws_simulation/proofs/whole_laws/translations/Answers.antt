use Rattle.wasm2js_laws_simulation.proofs.WholeWhole.{sources_are_ready, sources_are_allowed, traps_of_sources_are_calls}
use Rattle.wasm2js_laws_simulation.proofs.whole_laws.translations.Goals as goal

pub returns-clause-ready : goal.returns-clause-ready
returns-clause-ready c = sources_are_ready

pub returns-clause-allowed : goal.returns-clause-allowed
returns-clause-allowed c = sources_are_allowed c.translations.ensures.allowed

pub returns-clause-traps : goal.returns-clause-traps
returns-clause-traps c = traps_of_sources_are_calls c.translations.ensures.allowed c.traps_of_the_allowed.ensures
