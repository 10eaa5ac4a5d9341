use Rattle.std.proofs.Common.{◌<◌, sym, ◌∙◌, arith, length, false-eqb}
use Rattle.std.proofs.lemmas.Bool.{eqb-true}
use Rattle.js_tokens.specs.Views.{kind_view}
use Rattle.js_tokens.proofs.GoingOn.{after_gap, at_token, at_flaw, at_the_end}
use Rattle.js_tokens.proofs.scanner.Scanner.next.Goals as goal

pub loop-rest-preserved : goal.loop-rest-preserved
loop-rest-preserved c =
    let some : 0 < length c.loop-rest.rest.now = omega (arith, false-eqb _ 0 c.loop-rest-test.ensures) in
    let next = after_gap c.args.self.now c.loop-rest.at c.in-Gap.n c.loop-rest.line_before c.loop-rest.rest.now c.loop-rest.invariant some c.in-Gap.ensures.inside.1 c.in-Gap.ensures.front in
    rw (c.has_line_end-line_before.ensures, c.split_at.ensures.front, c.split_at.ensures.back) next

pub returns-in-Token : goal.returns-in-Token
returns-in-Token c =
    let some : 0 < length c.loop-rest.rest.now = omega (arith, false-eqb _ 0 c.loop-rest-test.ensures) in
    let cut = c.split_at-in-Token.ensures in
    let token = at_token c.args.self.now c.loop-rest.at c.in-Token.n c.loop-rest.line_before (kind_view c.in-Token.kind) c.loop-rest.rest.now c.loop-rest.invariant some c.in-Token.ensures.front in
    (omega (arith, c.loop-rest.invariant.shorter, c.in-Token.ensures.inside.0, cut.back_len), λ r left. rw cut.front (token r (rw (← cut.back) left)))

pub returns-in-Flaw : goal.returns-in-Flaw
returns-in-Flaw c =
    let some : 0 < length c.loop-rest.rest.now = omega (arith, false-eqb _ 0 c.loop-rest-test.ensures) in
    at_flaw c.args.self.now c.loop-rest.at c.in-Flaw.n c.loop-rest.line_before c.in-Flaw.flaw c.loop-rest.rest.now c.fault_at.result c.loop-rest.invariant some c.in-Flaw.ensures.front c.fault_at.ensures

pub returns : goal.returns
returns c = at_the_end c.args.self.now c.loop-rest.at c.loop-rest.line_before c.loop-rest.rest.now c.loop-rest.invariant (eqb-true (length c.loop-rest.rest.now) 0 (sym c.is_empty.ensures ∙ c.loop-rest-test.false))
