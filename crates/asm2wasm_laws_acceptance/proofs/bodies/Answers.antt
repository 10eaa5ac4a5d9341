use Rattle.asm2wasm_laws_acceptance.proofs.Contexts.{contexts_are_known, bodies_are_valid}
use Rattle.asm2wasm_laws_acceptance.proofs.bodies.Goals as goal

pub returns-clause-contexts : goal.returns-clause-contexts
returns-clause-contexts c = contexts_are_known

pub returns-clause-valid : goal.returns-clause-valid
returns-clause-valid c = bodies_are_valid
