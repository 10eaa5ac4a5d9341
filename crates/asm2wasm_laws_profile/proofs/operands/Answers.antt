use Rattle.asm2wasm_laws_profile.proofs.Peak.{peak_is_below_length}
use Rattle.asm2wasm_laws_profile.proofs.operands.Goals as goal

pub returns : goal.returns
returns c = peak_is_below_length
