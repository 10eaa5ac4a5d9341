use Rattle.wasm_laws_drive.proofs.Counting.{no_more_are_left, more_only_add, events_stay}
use Rattle.wasm_laws_drive.proofs.laws.counts.Goals as goal

pub returns-clause-within : goal.returns-clause-within
returns-clause-within c = no_more_are_left

pub returns-clause-more : goal.returns-clause-more
returns-clause-more c = more_only_add

pub returns-clause-events : goal.returns-clause-events
returns-clause-events c = events_stay
