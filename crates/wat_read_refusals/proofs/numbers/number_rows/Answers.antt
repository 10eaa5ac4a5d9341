use Rattle.std.proofs.Common.{List, refl, arith}
use Rattle.wat_lang.specs.Rows as spec
use Rattle.wat_marks.specs.declared.marked.MarkedToken.{MarkedToken}
use Rattle.wat_read_tokens.specs.Marks.{marks_of}
use Rattle.wat_read_refusals.proofs.Joins.{noted, noted_all}
use Rattle.wat_read_refusals.proofs.ByToken.{fit_next, fit_all}
use Rattle.wat_read_refusals.proofs.numbers.number_rows.Goals as goal

pub loop-token-init : goal.loop-token-init
loop-token-init c = (refl, refl)

pub loop-token-preserved : goal.loop-token-preserved
loop-token-preserved c =
    let read : List MarkedToken → List spec.Refusal = λ ts. spec.number_rows (marks_of ts) in
    let ts = c.args.marks.now in
    let i = c.loop-token.token-index in
    let t = c.token-item.result in (
      noted read read ts i t c.loop-token.least _ _ _ c.loop-token-test.true c.token-item.is (λ ts. refl) c.note_number-fit.ensures.noted c.loop-token.invariant.0,
      fit_next ts i t c.loop-token.fit c.note_number-fit.result _ c.loop-token-test.true c.token-item.is c.note_number-fit.ensures.fits c.loop-token.invariant.1,
    )

pub returns-clause-noted : goal.returns-clause-noted
returns-clause-noted c =
    let read : List MarkedToken → List spec.Refusal = λ ts. spec.number_rows (marks_of ts) in
    noted_all read c.args.marks.now c.loop-token.token-index c.loop-token.least _ (omega (arith, c.loop-token-test.false)) refl c.loop-token.invariant.0

pub returns-clause-fit : goal.returns-clause-fit
returns-clause-fit c = fit_all c.args.marks.now c.loop-token.token-index c.loop-token.fit (omega (arith, c.loop-token-test.false)) c.loop-token.invariant.1
