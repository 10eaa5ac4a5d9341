use Rattle.asm_run_code.proofs.Alike.{tabled_is_alike}
use Rattle.asm_run_code.proofs.worked.entries.Goals as goal

pub returns : goal.returns
returns c = tabled_is_alike
