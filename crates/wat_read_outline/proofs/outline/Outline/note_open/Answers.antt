use Rattle.std.proofs.Common.{map, ap, subst}
use Rattle.std.proofs.lemmas.Result.{on_ok_weaker}
use Rattle.wat_laws_kept.specs.Heads.{headed}
use Rattle.wat_read_tokens.specs.Marks.{marks_of}
use Rattle.wat_read_outline.specs.Outlines.{HasOpen, HasNone, HasOpened, HasClosed}
use Rattle.wat_read_outline.proofs.Outlining.{none_whole, open_whole}
use Rattle.wat_read_outline.proofs.outline.Outline.note_open.Goals as goal

pub returns-in-Some : goal.returns-in-Some
returns-in-Some c = λ ks h.
    let n = c.args.self.now in
    let b = c.in-Some.begun in
    let o : HasOpen n b ks = subst (HasOpened n ks) c.in-Some.is h.opened in
    on_ok_weaker {Q = HasClosed (record n { fields = c.note.new.self }) ks} _
    (λ f. record { tokens = h.tokens; fields = open_whole n b ks o _ _ (ap marks_of c.as_slice.ensures.value) f }) (c.note.ensures (map headed o.whole) o.fields)

pub returns-in-None : goal.returns-in-None
returns-in-None c = λ ks h.
    let n = c.args.self.now in
    let none : HasNone n ks = subst (HasOpened n ks) c.in-None.is h.opened in
    record { tokens = h.tokens; fields = none_whole n ks none }
