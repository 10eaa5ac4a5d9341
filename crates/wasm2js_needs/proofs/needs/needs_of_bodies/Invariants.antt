use Rattle.std.proofs.Common.{◌≡◌, drop}
use Rattle.wasm2js_needs.proofs.Joined.{left_of_bodies}
use Rattle.wasm2js_needs.proofs.needs.needs_of_bodies.Given as goal

abbrev pub invariant-loop-body : goal.invariant-loop-body
invariant-loop-body l = left_of_bodies l.needs (drop l.body-index l.bodies) ≡ left_of_bodies l.fn.before l.bodies
