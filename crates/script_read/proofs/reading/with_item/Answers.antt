use Rattle.std.proofs.Common.{◌∙◌, sym, ap}
use Rattle.session_lang.specs.Views.{script_of}
use Rattle.script_read.specs.Lined.{item_view}
use Rattle.script_read.specs.Collecting.{with_item}
use Rattle.script_read.proofs.ReadingLemmas.{global_pushed, write_pushed, call_pushed, reply_pushed}
use Rattle.script_read.proofs.reading.with_item.Goals as goal

pub returns-in_ok-pushed-in-Global : goal.returns-in_ok-pushed-in-Global
returns-in_ok-pushed-in-Global c =
    global_pushed c.args.script c.in_ok-pushed-in-Global.field-0 c.in-Global.line c.in_ok-pushed-in-Global.ensures
    ∙ ap (λ i. with_item (script_of c.args.script) (item_view i)) (sym c.in-Global.is)

pub returns-in_ok-pushed-in-Write : goal.returns-in_ok-pushed-in-Write
returns-in_ok-pushed-in-Write c =
    write_pushed c.args.script c.in_ok-pushed-in-Write.field-0 c.in-Write.line c.in_ok-pushed-in-Write.ensures
    ∙ ap (λ i. with_item (script_of c.args.script) (item_view i)) (sym c.in-Write.is)

pub returns-in_ok-pushed-in-Call : goal.returns-in_ok-pushed-in-Call
returns-in_ok-pushed-in-Call c =
    call_pushed c.args.script c.in_ok-pushed-in-Call.field-0 c.in-Call.line c.in_ok-pushed-in-Call.ensures
    ∙ ap (λ i. with_item (script_of c.args.script) (item_view i)) (sym c.in-Call.is)

pub returns-in_ok-pushed-in-Reply : goal.returns-in_ok-pushed-in-Reply
returns-in_ok-pushed-in-Reply c =
    reply_pushed c.args.script c.in_ok-pushed-in-Reply.field-0 c.in-Reply.line c.in_ok-pushed-in-Reply.ensures
    ∙ ap (λ i. with_item (script_of c.args.script) (item_view i)) (sym c.in-Reply.is)
