use Rattle.wasm2js_laws_scripts.proofs.Composed.{round_trips_simulate}
use Rattle.wasm2js_laws_scripts.proofs.round_trip_laws.round_trips.Goals as goal

pub returns : goal.returns
returns c = round_trips_simulate
