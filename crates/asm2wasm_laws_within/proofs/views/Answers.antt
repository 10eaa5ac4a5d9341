use Rattle.asm2wasm_laws_within.proofs.Names.{views_mean_a_heap}
use Rattle.asm2wasm_laws_within.proofs.views.Goals as goal

pub returns : goal.returns
returns c = views_mean_a_heap
