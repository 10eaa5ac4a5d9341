use Rattle.asm2wasm_laws_within.proofs.Signatures.{few_signatures}
use Rattle.asm2wasm_laws_within.proofs.types.Goals as goal

pub returns : goal.returns
returns c = few_signatures
