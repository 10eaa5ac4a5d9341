use Rattle.wasm2js_laws_places.proofs.Delayed.{late_is_alike, written_is_seen, standing_is_seen, others_are_seen}
use Rattle.wasm2js_laws_places.proofs.DelayedBeside.{some_are_seen}
use Rattle.wasm2js_laws_places.proofs.delay_laws.delaying.Goals as goal

pub returns-clause-late : goal.returns-clause-late
returns-clause-late c = late_is_alike

pub returns-clause-written : goal.returns-clause-written
returns-clause-written c = written_is_seen

pub returns-clause-standing : goal.returns-clause-standing
returns-clause-standing c = standing_is_seen

pub returns-clause-others : goal.returns-clause-others
returns-clause-others c = others_are_seen

pub returns-clause-some : goal.returns-clause-some
returns-clause-some c = some_are_seen
