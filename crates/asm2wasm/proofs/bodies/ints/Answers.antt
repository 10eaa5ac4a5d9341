use Rattle.std.proofs.Common.{◌≤◌, arith}
use Rattle.asm2wasm.proofs.LocalRuns.{ints_step}
use Rattle.asm2wasm.proofs.bodies.ints.Goals as goal

pub loop-rest-preserved : goal.loop-rest-preserved
loop-rest-preserved c =
    let fits : c.min-part.result ≤ c.loop-rest.rest = omega (arith, c.min-part.ensures) in
    ints_step c.loop-rest.ints.items c.push.new.self.items c.min-part.result c.loop-rest.rest c.args.count fits c.in_ok-push.ensures.items c.loop-rest.invariant
