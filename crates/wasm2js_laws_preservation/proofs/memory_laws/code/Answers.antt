use Rattle.wasm2js_laws_preservation.proofs.MemoryAccessed.{all_code_is_kept}
use Rattle.wasm2js_laws_preservation.proofs.memory_laws.code.Goals as goal

pub returns : goal.returns
returns c = all_code_is_kept
