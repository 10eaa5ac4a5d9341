use Rattle.std.proofs.Common.{rules, ap, ◌∙◌}
use Rattle.std.proofs.lemmas.Fn.{filter_same}
use Rattle.wasm2js_terms.specs.Waits.{delayed_view, delays_view}
use Rattle.wasm2js_build.specs.Steps.{is_left_in_arms}
use Rattle.wasm2js_terms.proofs.Waiting.{those_filtered}
use Rattle.wasm2js_build.proofs.light.drop_spoiled.Goals as goal

pub returns : goal.returns
returns c =
    ap delays_view (filter_same _ (λ d. is_left_in_arms c.args.change (delayed_view d)) _ (λ x b f' k. search rules) _ _ c.retain.ensures.filtered)
    ∙ those_filtered (is_left_in_arms c.args.change) c.args.waits.now.items
