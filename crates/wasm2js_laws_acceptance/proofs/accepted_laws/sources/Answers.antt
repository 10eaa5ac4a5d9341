use Rattle.wasm2js_laws_acceptance.proofs.AcceptedSpelled.{spelled_are_sources}
use Rattle.wasm2js_laws_acceptance.proofs.accepted_laws.sources.Goals as goal

pub returns : goal.returns
returns c = spelled_are_sources
