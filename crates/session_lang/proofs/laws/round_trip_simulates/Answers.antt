use Rattle.session_lang.proofs.Forms.{round_trip_simulates}
use Rattle.session_lang.proofs.laws.round_trip_simulates.Goals as goal

pub returns : goal.returns
returns c = round_trip_simulates
