use Rattle.wasm_link_laws_alone.proofs.Sessions.{pairs_are_alone}
use Rattle.wasm_link_laws_alone.proofs.empty_second.Goals as goal

pub returns : goal.returns
returns c = record { alone = pairs_are_alone }
