use Rattle.wasm2js_laws_places.proofs.Paced.{steps_are_paid, stands_still, same_is_followed, free_units, unpaid_stops, followed_from_the_start}
use Rattle.wasm2js_laws_places.proofs.pace_laws.following.Goals as goal

pub returns-clause-step : goal.returns-clause-step
returns-clause-step c = steps_are_paid

pub returns-clause-stands : goal.returns-clause-stands
returns-clause-stands c = stands_still

pub returns-clause-same : goal.returns-clause-same
returns-clause-same c = same_is_followed

pub returns-clause-free : goal.returns-clause-free
returns-clause-free c = free_units

pub returns-clause-unpaid : goal.returns-clause-unpaid
returns-clause-unpaid c = unpaid_stops

pub returns-clause-followed : goal.returns-clause-followed
returns-clause-followed c = followed_from_the_start
