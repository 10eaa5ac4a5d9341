use Rattle.asm2wasm_laws_simulation.proofs.Bodies.Whole.{bodies_are_kept, locals_are_set}
use Rattle.asm2wasm_laws_simulation.proofs.bodies_laws.bodies.Goals as goal

pub returns-clause-kept : goal.returns-clause-kept
returns-clause-kept c = bodies_are_kept

pub returns-clause-locals : goal.returns-clause-locals
returns-clause-locals c = locals_are_set
