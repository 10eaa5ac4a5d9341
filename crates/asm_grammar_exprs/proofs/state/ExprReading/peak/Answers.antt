use Rattle.std.proofs.Common.{◌≡◌, ◌+◌, ap, sym, ◌∙◌, arith}
use Rattle.asm_lang.specs.Trees.{variable, element}
use Rattle.asm_lang.specs.TreeHeights.{height}
use Rattle.asm_laws_height.specs.Peaks.{peak}
use Rattle.asm_grammar_nodes.specs.Heights.{counted}
use Rattle.asm_grammar_nodes.specs.Rises.{rise_view}
use Rattle.asm_grammar_nodes.specs.Views.{word_view}
use Rattle.asm_grammar_nodes.specs.Tall.{tall_view}
use Rattle.asm_grammar_exprs.specs.Views.{frames_view, innermost_view}
use Rattle.asm_grammar_exprs.proofs.Rising.{peak_at}
use Rattle.asm_grammar_exprs.proofs.state.ExprReading.peak.Goals as goal

pub returns-in-Name : goal.returns-in-Name
returns-in-Name c = λ k r round h.
    let n = word_view c.in-Name.field-0 in
    peak_at (rise_view c.rise-rise.result) (frames_view c.args.self.now.frames k) (variable n.at n.text) c.leaf.result.count c.risen.result.count
    (c.rise-rise.ensures k r round h) c.leaf.ensures c.risen.ensures
    ∙ ap (λ i. counted (peak (innermost_view c.args.self.now.level i (frames_view c.args.self.now.frames k)))) (sym c.in-Name.is)

pub returns-in-Element : goal.returns-in-Element
returns-in-Element c = λ k r round h.
    let n = word_view c.in-Element.field-0 in
    let i = tall_view c.in-Element.index in
    let high : c.above.result.count ≡ counted (1 + height i) = omega (arith, c.above.ensures, c.height.ensures) in
    peak_at (rise_view c.rise-rise.result) (frames_view c.args.self.now.frames k) (element n.at n.text i) c.above.result.count c.risen-in-Element.result.count
    (c.rise-rise.ensures k r round h) high c.risen-in-Element.ensures
    ∙ ap (λ x. counted (peak (innermost_view c.args.self.now.level x (frames_view c.args.self.now.frames k)))) (sym c.in-Element.is)

pub returns-in-Complete : goal.returns-in-Complete
returns-in-Complete c = λ k r round h.
    let e = tall_view c.in-Complete.expr in
    peak_at (rise_view c.rise-rise.result) (frames_view c.args.self.now.frames k) e c.height-in-Complete.result.count c.risen-in-Complete.result.count
    (c.rise-rise.ensures k r round h) c.height-in-Complete.ensures c.risen-in-Complete.ensures
    ∙ ap (λ i. counted (peak (innermost_view c.args.self.now.level i (frames_view c.args.self.now.frames k)))) (sym c.in-Complete.is)
