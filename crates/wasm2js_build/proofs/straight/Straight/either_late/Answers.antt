use Rattle.std.proofs.Common.{refl, ap}
use Rattle.wasm2js_terms.specs.Views.{term_view}
use Rattle.wasm2js_terms.specs.Waits.{delays_view}
use Rattle.wasm2js_build.specs.Blocks.{statements_of}
use Rattle.wasm2js_build.specs.Steps.{steps_view}
use Rattle.wasm2js_build.specs.Growing.{lights_of, lights_known}
use Rattle.wasm2js_build.proofs.Growing.{all_ok}
use Rattle.wasm2js_build.proofs.Holding.{choice_behind}
use Rattle.wasm2js_build.proofs.straight.Straight.either_late.Goals as goal

pub returns-clause-state : goal.returns-clause-state
returns-clause-state c =
    let old = c.args.self.now in
    let mid = c.write_held.new.self in
    let new = c.either_late.new.self in
    all_ok c.either_late.result _ _ _ _ (λ _ h k l.
    choice_behind (statements_of old.text.block) (statements_of mid.block) (statements_of new.block) (lights_known old.text) (lights_known mid) (lights_known new)
    old.text.waits.items old.held old.held (lights_of mid) (lights_of new) (term_view c.args.test.now) (steps_view c.args.first.now) (steps_view c.args.second.now) refl
    c.in_ok-write_held.ensures.statements c.in_ok-write_held.ensures.known (ap (λ ws. delays_view ws.items) c.write_held.ensures.waits)
    h k l)
    c.either_late.ensures.statements c.either_late.ensures.waits c.either_late.ensures.known
