use Rattle.asm_run_code.proofs.Alike.{jumping_is_alike}
use Rattle.asm_run_code.proofs.worked.a_table_of_jumps.Goals as goal

pub returns : goal.returns
returns c = jumping_is_alike
