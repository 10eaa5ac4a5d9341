use Rattle.wasm2js_laws_simulation.proofs.HelpingStanding.{helpers_stand, helpers_support, functions_are_helped, standing_accesses_are_kept}
use Rattle.wasm2js_laws_simulation.proofs.helping_laws.functions.Goals as goal

pub returns-clause-helpers : goal.returns-clause-helpers
returns-clause-helpers c = helpers_stand

pub returns-clause-supported : goal.returns-clause-supported
returns-clause-supported c = helpers_support

pub returns-clause-helped : goal.returns-clause-helped
returns-clause-helped c = functions_are_helped

pub returns-clause-accesses : goal.returns-clause-accesses
returns-clause-accesses c = standing_accesses_are_kept
