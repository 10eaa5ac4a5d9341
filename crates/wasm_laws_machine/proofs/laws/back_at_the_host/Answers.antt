use Rattle.wasm_laws_machine.proofs.Branching.{shows_finished}
use Rattle.wasm_laws_machine.proofs.laws.back_at_the_host.Goals as goal

pub returns : goal.returns
returns c = shows_finished
