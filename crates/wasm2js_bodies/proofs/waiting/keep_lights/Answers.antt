use Rattle.std.proofs.Common.{rules, ap, ◌∙◌}
use Rattle.std.proofs.lemmas.Fn.{filter_same}
use Rattle.wasm2js_translation.specs.Delays as delays
use Rattle.wasm2js_terms.specs.Waits.{delayed_view, delays_view}
use Rattle.wasm2js_terms.proofs.Waiting.{those_filtered}
use Rattle.wasm2js_operands.specs.Operands.{over}
use Rattle.wasm2js_bodies.proofs.waiting.keep_lights.Goals as goal

pub returns : goal.returns
returns c =
    let p = λ (d : delays.Delayed). delays.stands c.args.base (over c.args.base c.args.types.now.items) d.name in
    ap delays_view (filter_same _ (λ d. p (delayed_view d)) _ (λ x b f' k. search rules) _ _ c.retain.ensures.filtered)
    ∙ those_filtered p c.args.waits.now.items
