use Rattle.std.proofs.Common.{rules, ap, ◌∙◌}
use Rattle.std.proofs.lemmas.Fn.{filter_same}
use Rattle.std.specs.Prelude.{not}
use Rattle.wasm2js_translation.specs.Delays.{changes}
use Rattle.wasm2js_nodes.specs.Names.{name_view}
use Rattle.wasm2js_terms.specs.Facts.{knowns_view}
use Rattle.wasm2js_terms.proofs.Knowing.{unchanged_filtered}
use Rattle.wasm2js_build.specs.Steps.{step_view}
use Rattle.wasm2js_build.proofs.learning.forget_changed.Goals as goal

pub returns : goal.returns
returns c =
    ap knowns_view (filter_same _ (λ k. not (changes (step_view c.args.step.now) (name_view k.name))) _ (λ x b f' k. search rules) _ _ c.retain.ensures.filtered)
    ∙ unchanged_filtered (changes (step_view c.args.step.now)) c.args.known.now.items
