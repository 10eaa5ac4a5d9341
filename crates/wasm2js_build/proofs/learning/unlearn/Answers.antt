use Rattle.std.proofs.Common.{rules, ap, ◌∙◌}
use Rattle.std.proofs.lemmas.Fn.{filter_same}
use Rattle.std.specs.Prelude.{not, ◌||◌}
use Rattle.wasm2js_translation.specs.Names.{Name}
use Rattle.wasm2js_translation.specs.Delays.{one_changes}
use Rattle.wasm2js_nodes.specs.Names.{name_view}
use Rattle.wasm2js_terms.specs.Facts.{knowns_view}
use Rattle.wasm2js_terms.proofs.Knowing.{unchanged_filtered}
use Rattle.wasm2js_build.specs.Steps.{steps_view}
use Rattle.wasm2js_build.proofs.learning.unlearn.Goals as goal

pub returns : goal.returns
returns c =
    let p = λ (n : Name). one_changes (steps_view c.args.first.now) n || one_changes (steps_view c.args.second.now) n in
    ap knowns_view (filter_same _ (λ k. not (p (name_view k.name))) _ (λ x b f' k. search rules) _ _ c.retain.ensures.filtered)
    ∙ unchanged_filtered p c.args.known.now.items
