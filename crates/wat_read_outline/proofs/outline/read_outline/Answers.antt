use Rattle.std.proofs.Common.{[], ◌∷◌, ◌++◌, Option, Ok, subst}
use Rattle.std.proofs.lemmas.Result.{err_from_is_err_and}
use Rattle.wat_marks.specs.declared.marked.MarkedToken.{MarkedToken}
use Rattle.wat_marks.specs.Readings.{IsNextMark}
use Rattle.wat_marks.specs.Views.{marked_of}
use Rattle.wat_read_outline.proofs.outline.read_outline.Goals as goal

pub loop-outline-init : goal.loop-outline-init
loop-outline-init c = ([], c.in_ok-reader.ensures, c.new-outline.ensures)

pub loop-outline-preserved : goal.loop-outline-preserved
loop-outline-preserved c =
    let w = c.loop-outline.invariant in
    let read = subst (λ (o : Option MarkedToken). IsNextMark c.args.source.now w.0 c.next.new.self (Ok o)) c.in-Some.is (c.in_ok-token.ensures.marks c.args.source.now w.0 w.1) in
    (w.0 ++ marked_of c.in-Some.token ∷ [], read, c.in_ok-add.ensures w.0 w.2)

pub returns-clause-found : goal.returns-clause-found
returns-clause-found c =
    let w = c.loop-outline.invariant in
    (w.0, subst (λ (o : Option MarkedToken). IsNextMark c.args.source.now w.0 c.next.new.self (Ok o)) c.in_default.is (c.in_ok-token.ensures.marks c.args.source.now w.0 w.1), w.2)

pub returns-in_err-token-clause-fault : goal.returns-in_err-token-clause-fault
returns-in_err-token-clause-fault c =
    let w = c.loop-outline.invariant in
    let p = err_from_is_err_and c.from_residual-in_err-token.result c.from_residual-in_err-token.ensures.1 in
    rw (p.1, p.2) (c.in_err-token.ensures.marks c.args.source.now w.0 w.1)
