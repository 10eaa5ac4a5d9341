use Rattle.bridge_cmd.proofs.RoundTrips.{written_back_simulate}
use Rattle.bridge_cmd.proofs.composed.round_trips.Goals as goal

pub returns-clause-texts : goal.returns-clause-texts
returns-clause-texts c = written_back_simulate c.round_trips.ensures
