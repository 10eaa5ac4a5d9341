use Rattle.script_read.proofs.CutLemmas.{first_line, last_line, shorter_rest}
use Rattle.script_read.proofs.cuts.cut_line.Goals as goal

pub returns-in-Some-clause-lines : goal.returns-in-Some-clause-lines
returns-in-Some-clause-lines c = rw c.without_return.ensures (first_line c.args.text.now c.in-Some.at c.in-Some.ensures)

pub returns-in-Some-clause-shorter : goal.returns-in-Some-clause-shorter
returns-in-Some-clause-shorter c = shorter_rest c.args.text.now c.in-Some.at c.in-Some.ensures.0.high

pub returns-in-None-clause-lines : goal.returns-in-None-clause-lines
returns-in-None-clause-lines c = last_line c.args.text.now c.in-None.ensures
