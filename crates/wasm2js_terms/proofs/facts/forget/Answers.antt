use Rattle.std.proofs.Common.{rules, ap, ◌∙◌}
use Rattle.std.proofs.lemmas.Fn.{filter_same}
use Rattle.std.specs.Prelude.{not}
use Rattle.wasm2js_translation.specs.Names.{same_name}
use Rattle.wasm2js_nodes.specs.Names.{name_view}
use Rattle.wasm2js_terms.specs.Facts.{knowns_view}
use Rattle.wasm2js_terms.proofs.Knowing.{unchanged_filtered}
use Rattle.wasm2js_terms.proofs.facts.forget.Goals as goal

pub returns : goal.returns
returns c =
    ap knowns_view (filter_same _ (λ k. not (same_name (name_view c.args.name) (name_view k.name))) _ (λ x b f' k. search rules) _ _ c.retain.ensures.filtered)
    ∙ unchanged_filtered (same_name (name_view c.args.name)) c.args.known.now.items
