use Rattle.std.proofs.Common.{◌∙◌, arith}
use Rattle.wasm_validate_bodies.proofs.Views.{replaced}
use Rattle.wasm_validate_bodies.proofs.frames.replace.Goals as goal

pub returns : goal.returns
returns c =
    let e = c.len-last.ensures ∙ c.args.frames.now.ok.0 in
    rw e (replaced c.args.frames.now.items c.args.frame (omega (arith, c.args.frames.now.ok.0)))
