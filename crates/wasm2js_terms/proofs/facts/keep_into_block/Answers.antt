use Rattle.std.proofs.Common.{rules, ap, ◌∙◌}
use Rattle.std.proofs.lemmas.Fn.{filter_same}
use Rattle.std.specs.Prelude.{not}
use Rattle.wasm2js_translation.specs.Delays.{is_operand}
use Rattle.wasm2js_nodes.specs.Names.{name_view}
use Rattle.wasm2js_terms.specs.Facts.{knowns_view}
use Rattle.wasm2js_terms.proofs.Knowing.{unchanged_filtered}
use Rattle.wasm2js_terms.proofs.facts.keep_into_block.Goals as goal

pub returns : goal.returns
returns c =
    ap knowns_view (filter_same _ (λ k. not (is_operand (name_view k.name))) _ (λ x b f' k. search rules) _ _ c.retain.ensures.filtered)
    ∙ unchanged_filtered is_operand c.args.known.now.items
