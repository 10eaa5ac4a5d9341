use Rattle.wasm2js_laws_simulation.proofs.SessionsWhole.{translations_are_allowed, translations_are_bounded}
use Rattle.wasm2js_laws_simulation.proofs.sessions_laws.translations.Goals as goal

pub returns-clause-allowed : goal.returns-clause-allowed
returns-clause-allowed c = translations_are_allowed c.stores.ensures.held

pub returns-clause-bounded : goal.returns-clause-bounded
returns-clause-bounded c = translations_are_bounded c.stores.ensures.held
