use Rattle.wasm_link.proofs.Whole.{module_is}
use Rattle.wasm_link.proofs.standing.made_is_linked.Goals as goal

pub returns : goal.returns
returns c = module_is
