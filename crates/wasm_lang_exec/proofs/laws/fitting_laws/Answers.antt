use Rattle.session_lang.proofs.Misfits.{no_misfit_fits, what_fits_has_no_misfit, misfit_is_first}
use Rattle.wasm_lang_exec.specs.Fits.{tests}
use Rattle.wasm_lang_exec.proofs.Written.{fitting_writes}
use Rattle.wasm_lang_exec.proofs.laws.fitting_laws.Goals as goal

pub returns-clause-none : goal.returns-clause-none
returns-clause-none c m = no_misfit_fits (tests m)

pub returns-clause-fits : goal.returns-clause-fits
returns-clause-fits c m = what_fits_has_no_misfit (tests m)

pub returns-clause-first : goal.returns-clause-first
returns-clause-first c m = misfit_is_first (tests m)

pub returns-clause-bytes : goal.returns-clause-bytes
returns-clause-bytes c = fitting_writes
