use Rattle.std.proofs.Common.{rules, w64, FitsSigned, option_map, sym, ap, ◌∙◌}
use Rattle.std.proofs.lemmas.Int.{to_z-of_z}
use Rattle.wasm2js_translation.specs.Words.{Term}
use Rattle.wasm2js_translation.specs.Delays.{replaced}
use Rattle.wasm2js_translation.specs.Known.{term_fact}
use Rattle.wasm2js_terms.specs.Views.{bit_view, term_view}
use Rattle.wasm2js_terms.specs.Atoms.{atom_view}
use Rattle.wasm2js_terms.specs.Waits.{delays_view, late_term}
use Rattle.wasm2js_terms.specs.Facts.{fact_view, knowns_view}
use Rattle.wasm2js_terms.proofs.Views.{term_view-BothNumber, term_view-Choose}
use Rattle.wasm2js_terms.proofs.Parts.{bits_of_number, late_number, bits_are, two_are, three_are, four_are}
use Rattle.wasm2js_terms.proofs.facts.+facts.Goals as goal

pub both-returns : goal.both-returns
both-returns t c =
    bits_are (knowns_view c.args.known.now) (delays_view c.args.waits.now) (bit_view c.args.operator) (late_term c.args.waits.now c.args.a.now) (term_view c.args.b.now)
    (fact_view c.term_fact-a.result) (fact_view c.term_fact-b.result) (fact_view c.bits.result) (option_map atom_view c.atom_of-second.result)
    c.term_fact-a.ensures c.term_fact-b.ensures c.atom_of-second.ensures c.bits.ensures

pub two-returns : goal.two-returns
two-returns t c =
    two_are (knowns_view c.args.known.now) (late_term c.args.waits.now c.args.a.now) c.args.minus (late_term c.args.waits.now c.args.b.now)
    (fact_view c.term_fact-a.result) (fact_view c.term_fact-b.result) (fact_view c.added.result) c.term_fact-a.ensures c.term_fact-b.ensures c.added.ensures

pub three-returns : goal.three-returns
three-returns t c =
    three_are (knowns_view c.args.known.now) (late_term c.args.waits.now c.args.a.now) c.args.first (late_term c.args.waits.now c.args.b.now) c.args.second (late_term c.args.waits.now c.args.c.now)
    (fact_view c.term_fact-a.result) (fact_view c.term_fact-b.result) (fact_view c.term_fact-c.result) (fact_view c.added-part.result) (fact_view c.added.result)
    c.term_fact-a.ensures c.term_fact-b.ensures c.term_fact-c.ensures c.added-part.ensures c.added.ensures

pub four-returns : goal.four-returns
four-returns t c =
    four_are (knowns_view c.args.known.now) (late_term c.args.waits.now c.args.a.now) (late_term c.args.waits.now c.args.b.now) (late_term c.args.waits.now c.args.c.now) (late_term c.args.waits.now c.args.d.now)
    (fact_view c.term_fact-a.result) (fact_view c.term_fact-b.result) (fact_view c.term_fact-c.result) (fact_view c.term_fact-d.result) (fact_view c.added-part.result) (fact_view c.added-most.result) (fact_view c.added.result)
    c.term_fact-a.ensures c.term_fact-b.ensures c.term_fact-c.ensures c.term_fact-d.ensures c.added-part.ensures c.added-most.ensures c.added.ensures

pub with_number-returns : goal.with_number-returns
with_number-returns t c =
    let fits : FitsSigned w64 c.args.value = search rules in
    bits_of_number (knowns_view c.args.known.now) (bit_view c.args.operator) (late_term c.args.waits.now c.args.a.now) c.args.value _ (fact_view c.term_fact-a.result) (fact_view c.bits_with.result)
    c.bits_with.ensures c.term_fact-a.ensures (to_z-of_z w64 c.args.value fits)

pub term_fact-returns-in-BothNumber : goal.term_fact-returns-in-BothNumber
term_fact-returns-in-BothNumber t c =
    let z = c.in-BothNumber.value in
    let fits : FitsSigned w64 z = search rules in
    late_number (knowns_view c.args.known.now) (delays_view c.args.waits.now) (bit_view c.in-BothNumber.operator) (term_view c.in-BothNumber.a.now) (term_view c.args.term.now) z _ (fact_view c.with_number.result)
    c.with_number.ensures (ap term_view c.in-BothNumber.is ∙ term_view-BothNumber c.in-BothNumber.operator c.in-BothNumber.a z) (to_z-of_z w64 z fits)

pub term_fact-returns-in-Choose : goal.term_fact-returns-in-Choose
term_fact-returns-in-Choose t c =
    c.choice.ensures (late_term c.args.waits.now c.in-Choose.field-0.now)
    ∙ ap (λ (u : Term). term_fact (knowns_view c.args.known.now) (replaced (delays_view c.args.waits.now) u))
    (sym (ap term_view c.in-Choose.is ∙ term_view-Choose c.in-Choose.field-0 c.in-Choose.a c.in-Choose.b))
