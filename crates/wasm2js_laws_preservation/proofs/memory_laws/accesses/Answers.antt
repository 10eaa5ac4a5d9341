use Rattle.wasm2js_laws_preservation.proofs.MemoryAccessed.{accesses_are_kept}
use Rattle.wasm2js_laws_preservation.proofs.memory_laws.accesses.Goals as goal

pub returns : goal.returns
returns c = accesses_are_kept
