use Rattle.asm_run_code.proofs.Alike.{dividing_is_alike}
use Rattle.asm_run_code.proofs.worked.quotients.Goals as goal

pub returns : goal.returns
returns c = dividing_is_alike
