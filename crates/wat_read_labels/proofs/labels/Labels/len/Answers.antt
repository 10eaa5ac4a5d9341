use Rattle.std.proofs.Common.{length, ap, arith}
use Rattle.wat_read_labels.proofs.Opened.{levels_count}
use Rattle.wat_read_labels.proofs.labels.Labels.len.Goals as goal

pub returns : goal.returns
returns c = omega (arith, c.len.ensures, c.self.inside.levels.ok.0, levels_count c.self.inside.levels.items, ap length c.self.view_is)
