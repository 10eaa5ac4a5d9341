use Rattle.std.proofs.Common.{sym, ◌∙◌, refl, arith, get_or}
use Rattle.std.proofs.lemmas.List.{get_or_default}
use Rattle.wat_read_bodies.proofs.Good.{none_before, one_before, all_before}
use Rattle.wat_read_bodies.proofs.instrs.before_instruction.Goals as goal

pub loop-n-init : goal.loop-n-init
loop-n-init c = record { within = omega arith; goes_on = refl }

pub loop-n-preserved : goal.loop-n-preserved
loop-n-preserved c =
    let ts = c.args.parts.now in
    let n = c.loop-n.n in
    let t = get_or ts n c.index-parts-n.result in
    let is = get_or_default ts n c.index-parts-n.result t c.loop-n-test.true in
    record {
      within = omega (arith, c.loop-n-test.true);
      goes_on = one_before ts n t c.loop-n-test.true is (sym c.is.ensures ∙ c.if-is.false) ∙ c.loop-n.invariant.goes_on;
    }

pub returns-then-is-clause-value : goal.returns-then-is-clause-value
returns-then-is-clause-value c =
    let ts = c.args.parts.now in
    let n = c.loop-n.n in
    let t = get_or ts n c.index-parts-n.result in
    let is = get_or_default ts n c.index-parts-n.result t c.loop-n-test.true in
    sym (none_before ts n t c.loop-n-test.true is (sym c.is.ensures ∙ c.if-is.true)) ∙ c.loop-n.invariant.goes_on

pub returns-clause-value : goal.returns-clause-value
returns-clause-value c = sym (all_before c.args.parts.now c.loop-n.n (omega (arith, c.loop-n-test.false))) ∙ c.loop-n.invariant.goes_on
