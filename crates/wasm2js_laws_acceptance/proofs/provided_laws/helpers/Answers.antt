use Rattle.wasm2js_laws_acceptance.proofs.ProvidedHelpers.{helpers_are_provided, memory_helpers_are_provided}
use Rattle.wasm2js_laws_acceptance.proofs.provided_laws.helpers.Goals as goal

pub returns-clause-on_words : goal.returns-clause-on_words
returns-clause-on_words c = helpers_are_provided

pub returns-clause-on_memory : goal.returns-clause-on_memory
returns-clause-on_memory c = memory_helpers_are_provided
