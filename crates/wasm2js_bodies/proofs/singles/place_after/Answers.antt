use Rattle.std.proofs.Common.{arith}
use Rattle.wasm_run_flat.proofs.Standing.{stands_inside}
use Rattle.wasm2js_bodies.proofs.singles.place_after.Goals as goal

pub overflow_add-result : goal.overflow_add-result
overflow_add-result c =
    let h = stands_inside c.args.body.now c.args.at c.requires.targets c.requires.stands in
    omega (arith, h)
