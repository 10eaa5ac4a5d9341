use Rattle.wasm2js_laws_acceptance.proofs.AcceptedWhole.{translations_are_typed, translations_are_accepted, translations_are_well_formed}
use Rattle.wasm2js_laws_acceptance.proofs.accepted_laws.acceptance.Goals as goal

pub returns-clause-typed : goal.returns-clause-typed
returns-clause-typed c = translations_are_typed

pub returns-clause-accepted : goal.returns-clause-accepted
returns-clause-accepted c = translations_are_accepted

pub returns-clause-well_formed : goal.returns-clause-well_formed
returns-clause-well_formed c = translations_are_well_formed
