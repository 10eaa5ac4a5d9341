use Rattle.asm2wasm_laws_run.proofs.Guarded.{stores_guarded}
use Rattle.asm2wasm_laws_run.proofs.guarded_stores.Goals as goal

pub returns : goal.returns
returns c = stores_guarded
