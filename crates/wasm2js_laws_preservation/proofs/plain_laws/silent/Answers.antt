use Rattle.wasm2js_laws_preservation.proofs.PlainCodeless.{nothing_is, dropped_is, wrapped_is}
use Rattle.wasm2js_laws_preservation.proofs.plain_laws.silent.Goals as goal

pub returns-clause-nothing : goal.returns-clause-nothing
returns-clause-nothing c = nothing_is

pub returns-clause-dropped : goal.returns-clause-dropped
returns-clause-dropped c = dropped_is

pub returns-clause-wrapped : goal.returns-clause-wrapped
returns-clause-wrapped c = wrapped_is
