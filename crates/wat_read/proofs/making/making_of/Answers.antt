use Rattle.std.proofs.Common.{[], ◌∷◌, ◌++◌, Option, Ok, subst}
use Rattle.std.proofs.lemmas.Result.{err_from_is_err_and}
use Rattle.wat_marks.specs.declared.marked.MarkedToken.{MarkedToken}
use Rattle.wat_marks.specs.Readings.{IsNextMark, HasRead}
use Rattle.wat_marks.specs.Views.{marked_of}
use Rattle.wat_read_fields.specs.Contexts.{module_names, module_types}
use Rattle.wat_read.proofs.making.making_of.Goals as goal

pub loop-making-init : goal.loop-making-init
loop-making-init c = ([], c.in_ok-reader.ensures, c.new-making.ensures (module_names c.args.context) (module_types c.args.context))

pub loop-making-preserved : goal.loop-making-preserved
loop-making-preserved c =
    let w = c.loop-making.invariant in
    let ks = w.0 ++ marked_of c.in-Some.token ∷ [] in
    let read : HasRead c.args.source.now c.next.new.self ks =
    subst (λ (o : Option MarkedToken). IsNextMark c.args.source.now w.0 c.next.new.self (Ok o)) c.in-Some.is (c.in_ok-token.ensures.marks c.args.source.now w.0 w.1) in
    (ks, read, c.in_ok-add.ensures w.0 w.2 read.leads)

pub returns-clause-found : goal.returns-clause-found
returns-clause-found c =
    let w = c.loop-making.invariant in
    (w.0, subst (λ (o : Option MarkedToken). IsNextMark c.args.source.now w.0 c.next.new.self (Ok o)) c.in_default.is (c.in_ok-token.ensures.marks c.args.source.now w.0 w.1), c.in_ok-close.ensures w.0 w.2)

pub returns-in_err-token-clause-fault : goal.returns-in_err-token-clause-fault
returns-in_err-token-clause-fault c =
    let w = c.loop-making.invariant in
    let p = err_from_is_err_and c.from_residual-in_err-token.result c.from_residual-in_err-token.ensures.1 in
    rw (p.1, p.2) (c.in_err-token.ensures.marks c.args.source.now w.0 w.1)
