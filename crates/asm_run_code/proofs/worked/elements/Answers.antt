use Rattle.asm_run_code.proofs.Alike.{storing_is_alike, small_elements_is_alike}
use Rattle.asm_run_code.proofs.worked.elements.Goals as goal

pub returns-clause-stores : goal.returns-clause-stores
returns-clause-stores c = storing_is_alike

pub returns-clause-small : goal.returns-clause-small
returns-clause-small c = small_elements_is_alike
