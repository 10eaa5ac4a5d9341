use Rattle.asm2wasm_laws_preservation.proofs.Entries.{all_calls_are_kept}
use Rattle.asm2wasm_laws_preservation.proofs.calls.Goals as goal

pub returns : goal.returns
returns c = all_calls_are_kept
