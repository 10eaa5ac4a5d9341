use Rattle.asm2wasm_emit_switches.proofs.Spelling.{flat_reach}
use Rattle.asm2wasm_emit_switches.proofs.reach.reaches.Goals as goal

pub returns : goal.returns
returns c = flat_reach
