use Rattle.wasm2js.proofs.Told.{in_profile}
use Rattle.wasm2js.proofs.translating.properties.Goals as goal

pub returns-clause-accepted : goal.returns-clause-accepted
returns-clause-accepted c = c.acceptance.ensures.accepted c.args.valid.now c.source.ensures.source c.source.ensures.first

pub returns-clause-well_formed : goal.returns-clause-well_formed
returns-clause-well_formed c = c.acceptance.ensures.well_formed c.args.valid.now c.source.ensures.source c.source.ensures.first

pub returns-clause-called : goal.returns-clause-called
returns-clause-called c = c.calling.ensures.called c.args.valid.now (in_profile c.args.valid.now c.source.ensures.source) c.source.ensures.source.shaped

pub returns-clause-fits : goal.returns-clause-fits
returns-clause-fits c = c.calling.ensures.fits c.args.valid.now (in_profile c.args.valid.now c.source.ensures.source) c.source.ensures.source.shaped

pub returns-clause-allowed : goal.returns-clause-allowed
returns-clause-allowed c = c.translations.ensures.allowed c.args.valid.now c.source.ensures.source c.source.ensures.first

pub returns-clause-traps : goal.returns-clause-traps
returns-clause-traps c = c.translations.ensures.traps c.args.valid.now c.source.ensures.source c.source.ensures.first

pub returns-clause-bounded : goal.returns-clause-bounded
returns-clause-bounded c = c.translations-2.ensures.bounded c.args.valid.now c.source.ensures.source c.source.ensures.first

pub returns-clause-functions : goal.returns-clause-functions
returns-clause-functions c = c.parts.ensures.functions c.args.valid.now (in_profile c.args.valid.now c.source.ensures.source) c.source.ensures.source.shaped

pub returns-clause-tables : goal.returns-clause-tables
returns-clause-tables c = c.parts.ensures.tables c.args.valid.now (in_profile c.args.valid.now c.source.ensures.source) c.source.ensures.source.shaped

pub returns-clause-imports : goal.returns-clause-imports
returns-clause-imports c = c.parts.ensures.imports c.args.valid.now (in_profile c.args.valid.now c.source.ensures.source)

pub returns-clause-helpers : goal.returns-clause-helpers
returns-clause-helpers c = c.wide_helpers.ensures c.args.valid.now c.source.ensures.source c.source.ensures.first
