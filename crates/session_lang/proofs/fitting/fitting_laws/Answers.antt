use Rattle.session_lang.proofs.Misfits.{no_misfit_fits, what_fits_has_no_misfit, misfit_is_first}
use Rattle.session_lang.proofs.fitting.fitting_laws.Goals as goal

pub returns-clause-none : goal.returns-clause-none
returns-clause-none c = no_misfit_fits

pub returns-clause-fits : goal.returns-clause-fits
returns-clause-fits c = what_fits_has_no_misfit

pub returns-clause-first : goal.returns-clause-first
returns-clause-first c = misfit_is_first
