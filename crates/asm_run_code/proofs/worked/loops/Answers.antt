use Rattle.asm_run_code.proofs.Alike.{operating_is_alike}
use Rattle.asm_run_code.proofs.worked.loops.Goals as goal

pub returns : goal.returns
returns c = operating_is_alike
