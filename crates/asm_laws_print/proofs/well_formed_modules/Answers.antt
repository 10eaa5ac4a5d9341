use Rattle.asm_laws_print.proofs.Printed.{well_formed_fits, fits_well_formed}
use Rattle.asm_laws_print.proofs.well_formed_modules.Goals as goal

pub returns-clause-fits : goal.returns-clause-fits
returns-clause-fits c = well_formed_fits

pub returns-clause-well_formed : goal.returns-clause-well_formed
returns-clause-well_formed c = fits_well_formed
