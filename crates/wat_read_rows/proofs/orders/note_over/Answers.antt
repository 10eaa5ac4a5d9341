use Rattle.std.proofs.Common.{◌∙◌, ap, sym}
use Rattle.wat_lang.specs.declared.fault.Row.TheVariants as rows
use Rattle.wat_lang.specs.Rows as spec
use Rattle.wat_read_refusals.specs.Joined.{join}
use Rattle.wat_read_rows.specs.Single.{over_row}
use Rattle.wat_read_refusals.proofs.Fronts.{empty_room}
use Rattle.wat_read_refusals.proofs.Joins.{join_none}
use Rattle.wat_read_rows.proofs.orders.note_over.Goals as goal

pub returns-in-Some : goal.returns-in-Some
returns-in-Some c = λ most before e.
    c.note.ensures ∙ ap (λ b. join c.args.least.now (spec.least (spec.where_holds b rows.Limit c.in-Some.at))) (empty_room most before c.args.room e)
    ∙ sym (ap (λ o. join c.args.least.now (spec.least (over_row most before o))) c.in-Some.is)

pub returns-in-None : goal.returns-in-None
returns-in-None c = λ most before e. sym (join_none c.args.least.now) ∙ sym (ap (λ o. join c.args.least.now (spec.least (over_row most before o))) c.in-None.is)
