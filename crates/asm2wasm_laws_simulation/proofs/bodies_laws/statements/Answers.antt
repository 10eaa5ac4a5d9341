use Rattle.asm2wasm_laws_simulation.proofs.Bodies.Whole.{statements_are_kept, lists_are_kept}
use Rattle.asm2wasm_laws_simulation.proofs.bodies_laws.statements.Goals as goal

pub returns-clause-each : goal.returns-clause-each
returns-clause-each c = statements_are_kept

pub returns-clause-lists : goal.returns-clause-lists
returns-clause-lists c = lists_are_kept
