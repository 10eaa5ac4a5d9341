use Rattle.std.proofs.Common.{ap, ◌∙◌}
use Rattle.wat_read_refusals.specs.Joined.{join}
use Rattle.wat_read.proofs.JudgedTexts.{joined_in_turn}
use Rattle.wat_read.proofs.reading.Registers.first.Goals as goal

pub returns : goal.returns
returns c =
    let s = c.args.self in
    c.join-6.ensures
    ∙ ap (λ r. join r s.entries) (c.join-5.ensures
    ∙ ap (λ r. join r s.orders) (c.join-4.ensures
    ∙ ap (λ r. join r s.fields) (c.join-3.ensures
    ∙ ap (λ r. join r s.locals) (c.join-2.ensures
    ∙ ap (λ r. join r s.taken) c.join.ensures))))
    ∙ joined_in_turn s.numbers s.utf8 s.taken s.locals s.fields s.orders s.entries
