use Rattle.std.proofs.Common.{◌≡◌, ◌++◌, None, replicate}
use Rattle.wasm_lang.specs.Instructions as instructions
use Rattle.asm2wasm_emit_bodies.proofs.blocks.open_blocks.Given as goal

abbrev pub invariant-loop-left : goal.invariant-loop-left
invariant-loop-left l = l.initial.output ++ replicate l.count (instructions.block None) ≡ l.output ++ replicate l.left (instructions.block None)

abbrev pub decreases-loop-left : goal.decreases-loop-left
decreases-loop-left l = l.left
