use Rattle.std.proofs.Common.{ap}
use Rattle.wasm2js_terms.specs.Views.{term_view}
use Rattle.wasm2js_terms.specs.Waits.{delays_view}
use Rattle.wasm2js_build.specs.declared.steps.Change.TheVariants.{Either}
use Rattle.wasm2js_build.specs.Blocks.{statements_of}
use Rattle.wasm2js_build.specs.Steps.{steps_view, is_spoiled}
use Rattle.wasm2js_build.specs.Growing.{lights_of, lights_known}
use Rattle.wasm2js_build.proofs.Growing.{late_choice}
use Rattle.wasm2js_build.proofs.light.LightBlock.either_late.Goals as goal

pub returns-clause-statements : goal.returns-clause-statements
returns-clause-statements c =
    (late_choice (statements_of c.args.self.now.block) (statements_of c.write_spoiled.new.self.block) (statements_of c.put_lean_choice.new.self.block)
    (lights_known c.args.self.now) (lights_known c.write_spoiled.new.self) (lights_known c.put_lean_choice.new.self) (lights_of c.args.self.now) (lights_of c.write_spoiled.new.self)
    (is_spoiled (Either c.args.first c.args.second)) (term_view c.args.test.now) (steps_view c.args.first.now) (steps_view c.args.second.now) (ap (λ ws. delays_view ws.items) c.write_spoiled.ensures.waits)
    c.in_ok-write_spoiled.ensures.statements c.in_ok-write_spoiled.ensures.known c.in_ok-put_lean_choice.ensures.statements c.in_ok-put_lean_choice.ensures.known).0

pub returns-clause-known : goal.returns-clause-known
returns-clause-known c =
    (late_choice (statements_of c.args.self.now.block) (statements_of c.write_spoiled.new.self.block) (statements_of c.put_lean_choice.new.self.block)
    (lights_known c.args.self.now) (lights_known c.write_spoiled.new.self) (lights_known c.put_lean_choice.new.self) (lights_of c.args.self.now) (lights_of c.write_spoiled.new.self)
    (is_spoiled (Either c.args.first c.args.second)) (term_view c.args.test.now) (steps_view c.args.first.now) (steps_view c.args.second.now) (ap (λ ws. delays_view ws.items) c.write_spoiled.ensures.waits)
    c.in_ok-write_spoiled.ensures.statements c.in_ok-write_spoiled.ensures.known c.in_ok-put_lean_choice.ensures.statements c.in_ok-put_lean_choice.ensures.known).1
