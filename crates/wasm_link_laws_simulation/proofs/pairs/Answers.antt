use Rattle.wasm_link_laws_simulation.proofs.Shown.{pairs_are_linked}
use Rattle.wasm_link_laws_simulation.proofs.pairs.Goals as goal

pub returns : goal.returns
returns c = record { linked = pairs_are_linked }
