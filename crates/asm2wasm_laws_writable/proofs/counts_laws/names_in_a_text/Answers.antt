use Rattle.asm2wasm_laws_writable.proofs.Counts.Names.{names_within}
use Rattle.asm2wasm_laws_writable.proofs.counts_laws.names_in_a_text.Goals as goal

pub returns : goal.returns
returns c = names_within
