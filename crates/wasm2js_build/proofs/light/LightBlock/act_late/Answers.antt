use Rattle.std.proofs.Common.{ap}
use Rattle.wasm2js_terms.specs.Waits.{delays_view}
use Rattle.wasm2js_build.specs.declared.steps.Change.TheVariants.{One}
use Rattle.wasm2js_build.specs.Blocks.{statements_of}
use Rattle.wasm2js_build.specs.Steps.{step_view, is_spoiled}
use Rattle.wasm2js_build.specs.Growing.{lights_of, lights_known}
use Rattle.wasm2js_build.proofs.Growing.{late_simply}
use Rattle.wasm2js_build.proofs.light.LightBlock.act_late.Goals as goal

pub returns-clause-statements : goal.returns-clause-statements
returns-clause-statements c =
    (late_simply (statements_of c.args.self.now.block) (statements_of c.write_spoiled.new.self.block) (statements_of c.put_lean.new.self.block)
    (lights_known c.args.self.now) (lights_known c.write_spoiled.new.self) (lights_known c.put_lean.new.self) (lights_of c.args.self.now) (lights_of c.write_spoiled.new.self)
    (is_spoiled (One c.args.step)) (step_view c.args.step.now) (ap (λ ws. delays_view ws.items) c.write_spoiled.ensures.waits)
    c.in_ok-write_spoiled.ensures.statements c.in_ok-write_spoiled.ensures.known c.in_ok-put_lean.ensures.statements c.in_ok-put_lean.ensures.known).0

pub returns-clause-known : goal.returns-clause-known
returns-clause-known c =
    (late_simply (statements_of c.args.self.now.block) (statements_of c.write_spoiled.new.self.block) (statements_of c.put_lean.new.self.block)
    (lights_known c.args.self.now) (lights_known c.write_spoiled.new.self) (lights_known c.put_lean.new.self) (lights_of c.args.self.now) (lights_of c.write_spoiled.new.self)
    (is_spoiled (One c.args.step)) (step_view c.args.step.now) (ap (λ ws. delays_view ws.items) c.write_spoiled.ensures.waits)
    c.in_ok-write_spoiled.ensures.statements c.in_ok-write_spoiled.ensures.known c.in_ok-put_lean.ensures.statements c.in_ok-put_lean.ensures.known).1
