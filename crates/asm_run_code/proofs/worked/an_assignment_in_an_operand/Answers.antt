use Rattle.asm_run_code.proofs.Alike.{assigning_is_alike}
use Rattle.asm_run_code.proofs.worked.an_assignment_in_an_operand.Goals as goal

pub returns : goal.returns
returns c = assigning_is_alike
