use Rattle.std.proofs.Common.{arith}
use Rattle.wat_read_labels.proofs.Opened.{place_found, no_place}
use Rattle.wat_read_labels.proofs.labels.Labels.place.Goals as goal

pub overflow_sub-result-in-Some : goal.overflow_sub-result-in-Some
overflow_sub-result-in-Some c = omega (arith, c.in-Some.ensures.within, c.len-count.ensures)

pub overflow_cast-result-in-Some : goal.overflow_cast-result-in-Some
overflow_cast-result-in-Some c = omega (arith, c.level.ensures.few, c.len-count.ensures)

pub returns-in-Some : goal.returns-in-Some
returns-in-Some c = place_found c.args.id.now c.args.self.now c.in-Some.level c.len-count.result _ c.in-Some.ensures.level c.len-count.ensures (omega arith)

pub returns-in-None : goal.returns-in-None
returns-in-None c = no_place c.args.id.now c.args.self.now c.in-None.ensures.level
