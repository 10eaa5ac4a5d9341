use Rattle.asm2wasm_laws_writable.proofs.Counts.Places.{module_at}
use Rattle.asm2wasm_laws_writable.proofs.counts_laws.places_of_nodes.Goals as goal

pub returns : goal.returns
returns c = λ tree xs. module_at
