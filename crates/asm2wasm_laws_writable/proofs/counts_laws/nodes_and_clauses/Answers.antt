use Rattle.asm2wasm_laws_writable.proofs.Counts.Modules.{module_size}
use Rattle.asm2wasm_laws_writable.proofs.counts_laws.nodes_and_clauses.Goals as goal

pub returns : goal.returns
returns c = λ tree xs. module_size
