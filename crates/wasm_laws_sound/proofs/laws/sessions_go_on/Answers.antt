use Rattle.wasm_laws_sound.proofs.Seen.{places_are_seen}
use Rattle.wasm_laws_sound.proofs.Sessions.{sessions_go_on, places_are_typed}
use Rattle.wasm_laws_sound.proofs.laws.sessions_go_on.Goals as goal

pub returns-clause-seen : goal.returns-clause-seen
returns-clause-seen c = places_are_seen

pub returns-clause-go_on : goal.returns-clause-go_on
returns-clause-go_on c = sessions_go_on

pub returns-clause-typed : goal.returns-clause-typed
returns-clause-typed c = places_are_typed
