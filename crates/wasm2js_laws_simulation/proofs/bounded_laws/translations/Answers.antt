use Rattle.wasm2js_laws_simulation.proofs.BoundedWhole.{sources_are_ready, sources_are_bounded}
use Rattle.wasm2js_laws_simulation.proofs.bounded_laws.translations.Goals as goal

pub returns-clause-ready : goal.returns-clause-ready
returns-clause-ready c = sources_are_ready

pub returns-clause-bounded : goal.returns-clause-bounded
returns-clause-bounded c = sources_are_bounded c.translations.ensures.bounded
