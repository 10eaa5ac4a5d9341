use Rattle.asm2wasm_laws_acceptance.proofs.Exports.Accepted.{exporting_is_accepted, exporting_is_well_formed}
use Rattle.asm2wasm_laws_acceptance.proofs.Exports.Translated.{exporting_is_translated}
use Rattle.asm2wasm_laws_acceptance.proofs.exports_laws.one_export.Goals as goal

pub returns-clause-accepted : goal.returns-clause-accepted
returns-clause-accepted c = exporting_is_accepted

pub returns-clause-well_formed : goal.returns-clause-well_formed
returns-clause-well_formed c = exporting_is_well_formed

pub returns-clause-translated : goal.returns-clause-translated
returns-clause-translated c = exporting_is_translated
