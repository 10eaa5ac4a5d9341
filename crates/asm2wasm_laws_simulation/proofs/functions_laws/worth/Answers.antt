use Rattle.asm2wasm_laws_simulation.proofs.Functions.Paid.{nodes_pay}
use Rattle.asm2wasm_laws_simulation.proofs.functions_laws.worth.Goals as goal

pub returns : goal.returns
returns c = nodes_pay
