use Rattle.std.proofs.Common.{ap}
use Rattle.std.proofs.lemmas.Result.{IfOk-weaker}
use Rattle.wasm2js_translation.specs.Words as words
use Rattle.wasm2js_terms.specs.Views.{term_view}
use Rattle.wasm2js_terms.specs.Waits.{delays_view}
use Rattle.wasm2js_terms.specs.Held.{with_held}
use Rattle.wasm2js_terms.specs.Facts.{knowns_view}
use Rattle.wasm2js_build.specs.Blocks.{statements_of}
use Rattle.wasm2js_build.specs.Steps.{steps_view}
use Rattle.wasm2js_build.specs.Growing.{lights_of, lights_known}
use Rattle.wasm2js_build.proofs.Growing.{act_late, act_at_once}
use Rattle.wasm2js_build.proofs.straight.Straight.either.Goals as goal

pub returns-then-self : goal.returns-then-self
returns-then-self c =
    let old = c.args.self.now in
    let new = c.either_late.new.self in
    IfOk-weaker c.either_late.result _ _ (λ _ h.
    act_late old.is_late (statements_of old.text.block) (statements_of new.text.block) (with_held (lights_of old.text) old.held) (with_held (lights_of new.text) new.held)
    (lights_known old.text) (lights_known new.text) (words.either (term_view c.args.test.now) (steps_view c.args.first.now) (steps_view c.args.second.now)) new.is_late c.if-self.true c.either_late.ensures.late h)
    c.either_late.ensures.state

pub returns-else-self : goal.returns-else-self
returns-else-self c =
    let old = c.args.self.now in
    let new = c.either_at_once.new.self in
    IfOk-weaker c.either_at_once.result _ _ (λ _ h.
    act_at_once old.is_late (statements_of old.text.block) (statements_of new.block) (with_held (lights_of old.text) old.held) (with_held (lights_of new) old.held)
    (lights_known old.text) (lights_known new) (words.either (term_view c.args.test.now) (steps_view c.args.first.now) (steps_view c.args.second.now)) c.if-self.false h
    (ap (λ ws. with_held (delays_view ws.items) old.held) c.either_at_once.ensures.waits) (ap (λ ks. knowns_view ks.items) c.either_at_once.ensures.known))
    c.either_at_once.ensures.statements
