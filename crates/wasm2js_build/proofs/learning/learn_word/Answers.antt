use Rattle.std.proofs.Common.{List, ap, ◌∙◌}
use Rattle.std.proofs.lemmas.Result.{IfOk-weaker}
use Rattle.wasm2js_translation.specs.Names.{same_name}
use Rattle.wasm2js_translation.specs.Known as plain
use Rattle.wasm2js_translation.specs.Known.{Fact, noted, unchanged, term_fact}
use Rattle.wasm2js_nodes.specs.Names.{name_view}
use Rattle.wasm2js_terms.specs.Waits.{late_term}
use Rattle.wasm2js_terms.specs.Facts.{knowns_view}
use Rattle.wasm2js_build.proofs.learning.learn_word.Goals as goal

pub returns : goal.returns
returns c =
    let noted_as = λ (f : Fact). noted (name_view c.args.to) f (unchanged (same_name (name_view c.args.to)) (knowns_view c.args.known.now.items)) in
    IfOk-weaker c.note.result _ _ (λ _ h.
    h ∙ ap noted_as c.term_fact-fact.ensures
    ∙ ap (λ (ks : List plain.Known). noted_as (term_fact ks (late_term c.args.waits.now c.args.value.now))) (ap knowns_view c.deref.ensures.value))
    c.note.ensures
