use Rattle.std.proofs.Common.{◌-◌, arith}
use Rattle.wat_read_labels.proofs.Opened.{closed_last}
use Rattle.wat_read_labels.proofs.labels.Labels.close.Goals as goal

pub invariant_of-self-2 : goal.invariant_of-self-2
invariant_of-self-2 c =
    let l = c.index.result.now in
    closed_last c.self.inside.levels.items c.truncate.new.self.items (c.len-count.result - 1) l l c.self.inside.known c.put_back.new.known
    c.self.invariant (omega (arith, c.self.inside.levels.ok.0)) c.index.ensures c.truncate.ensures.items c.in_ok-put_back.ensures.ok
