use Rattle.wasm_worked.proofs.Plays.{sum_counts, sum_wraps, sum_still_runs}
use Rattle.wasm_worked.proofs.rows.sums.Goals as goal

pub returns-clause-counts : goal.returns-clause-counts
returns-clause-counts c = sum_counts

pub returns-clause-wrap : goal.returns-clause-wrap
returns-clause-wrap c = sum_wraps

pub returns-clause-still_run : goal.returns-clause-still_run
returns-clause-still_run c = sum_still_runs
