use Rattle.asm2wasm_laws_acceptance.proofs.Fitting.{scripts_fit}
use Rattle.asm2wasm_laws_acceptance.proofs.Fitted.{scripts_fit_back}
use Rattle.asm2wasm_laws_acceptance.proofs.scripts.Goals as goal

pub returns-clause-there : goal.returns-clause-there
returns-clause-there c = scripts_fit c.heap_lengths.ensures.hold c.well_formed_modules.ensures.fits

pub returns-clause-back : goal.returns-clause-back
returns-clause-back c = scripts_fit_back c.well_formed_modules.ensures.fits
