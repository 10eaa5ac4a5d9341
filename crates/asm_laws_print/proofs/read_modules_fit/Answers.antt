use Rattle.asm_laws_print.proofs.FitsModules.{module_fits, are_lexemes}
use Rattle.asm_laws_print.proofs.read_modules_fit.Goals as goal

pub returns : goal.returns
returns c = λ tokens tree forms is. module_fits is (are_lexemes tokens forms)
