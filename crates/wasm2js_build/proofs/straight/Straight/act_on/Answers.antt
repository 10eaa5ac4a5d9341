use Rattle.std.proofs.Common.{[], ◌∷◌, sym, ap, ◌∙◌}
use Rattle.wasm2js_nodes.specs.Names.{name_view}
use Rattle.wasm2js_terms.specs.Waits.{delays_view}
use Rattle.wasm2js_terms.specs.Held.{held_view, all_held}
use Rattle.wasm2js_build.specs.Blocks.{statements_of}
use Rattle.wasm2js_build.specs.Steps.{step_view}
use Rattle.wasm2js_build.specs.Growing.{lights_of, lights_known, taking}
use Rattle.wasm2js_build.proofs.Growing.{all_ok}
use Rattle.wasm2js_build.proofs.Holding.{taker_beside, step_takes}
use Rattle.wasm2js_build.proofs.straight.Straight.act_on.Goals as goal

pub take-requires : goal.take-requires
take-requires c =
    taker_beside (delays_view c.deref.result.now) (step_view c.args.step.now) (held_view c.args.held) (held_view c.args.held) (name_view c.in-Some.to) (sym c.in-Some.ensures)

pub returns-in-Some-clause-state : goal.returns-in-Some-clause-state
returns-in-Some-clause-state c =
    let old = c.args.self.now in
    let new = c.take.new.self in
    let s = step_view c.args.step.now in
    let took =
    ap (λ o. taking (all_held o) (lights_of old.text) s) c.requires
    ∙ ap (λ ws. taking (held_view c.args.held ∷ []) (delays_view ws) s) (sym c.deref.ensures.value)
    ∙ sym c.in-Some.ensures in
    all_ok c.take.result _ _ _ _ (λ _ h k l.
    step_takes (statements_of old.text.block) (statements_of new.block) (lights_known old.text) (lights_known new)
    old.text.waits.items old.held (lights_of new) s (name_view c.in-Some.to) (held_view c.args.held) took h k l)
    c.take.ensures.statements c.take.ensures.waits c.take.ensures.known
