use Rattle.std.proofs.Common.{◌≡◌, ◌-◌, ◌++◌, suc, None, replicate, ap, sym, ◌∙◌, arith, append-nil}
use Rattle.wasm_lang.specs.Instructions as instructions
use Rattle.asm2wasm_emit_bodies.proofs.Spelled.{one_of}
use Rattle.asm2wasm_emit_bodies.proofs.blocks.open_blocks.Goals as goal

pub loop-left-preserved : goal.loop-left-preserved
loop-left-preserved c =
    let n : c.loop-left.left ≡ suc (c.loop-left.left - 1) = omega arith in
    c.loop-left.invariant ∙ one_of (instructions.block None) c.loop-left.output c.push.new.self c.loop-left.left (c.loop-left.left - 1) n c.in_ok-push.ensures

pub returns : goal.returns
returns c =
    let z : c.loop-left.left ≡ 0 = omega arith in
    sym (c.loop-left.invariant ∙ ap (λ n. c.loop-left.output ++ replicate n (instructions.block None)) z ∙ append-nil c.loop-left.output)
