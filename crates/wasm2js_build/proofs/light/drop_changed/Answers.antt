use Rattle.std.proofs.Common.{rules, ap, ◌∙◌}
use Rattle.std.proofs.lemmas.Fn.{filter_same}
use Rattle.std.specs.Prelude.{not, ◌||◌}
use Rattle.wasm2js_translation.specs.Delays as delays
use Rattle.wasm2js_terms.specs.Waits.{delayed_view, delays_view}
use Rattle.wasm2js_build.specs.Steps.{is_spoiled, is_put}
use Rattle.wasm2js_terms.proofs.Waiting.{those_filtered}
use Rattle.wasm2js_build.proofs.light.drop_changed.Goals as goal

pub returns : goal.returns
returns c =
    let p = λ (d : delays.Delayed). not (is_spoiled c.args.change d || is_put c.args.change d.name) in
    ap delays_view (filter_same _ (λ d. p (delayed_view d)) _ (λ x b f' k. search rules) _ _ c.retain.ensures.filtered)
    ∙ those_filtered p c.args.waits.now.items
