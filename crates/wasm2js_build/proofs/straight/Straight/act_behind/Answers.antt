use Rattle.std.proofs.Common.{refl, ap}
use Rattle.wasm2js_terms.specs.Waits.{delays_view}
use Rattle.wasm2js_build.specs.Blocks.{statements_of}
use Rattle.wasm2js_build.specs.Steps.{step_view}
use Rattle.wasm2js_build.specs.Growing.{lights_of, lights_known}
use Rattle.wasm2js_build.proofs.Holding.{step_behind}
use Rattle.wasm2js_build.proofs.straight.Straight.act_behind.Goals as goal

pub returns-clause-state : goal.returns-clause-state
returns-clause-state c =
    let old = c.args.self.now in
    let mid = c.write_held.new.self in
    step_behind (statements_of old.text.block) (statements_of mid.block) (lights_known old.text) (lights_known mid)
    old.text.waits.items old.held old.held (lights_of mid) (step_view c.args.step.now) _ c.requires refl
    c.in_ok-write_held.ensures.statements c.in_ok-write_held.ensures.known (ap (λ ws. delays_view ws.items) c.write_held.ensures.waits) c.in_ok-self.ensures
