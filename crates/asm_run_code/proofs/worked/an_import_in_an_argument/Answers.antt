use Rattle.asm_run_code.proofs.Alike.{waiting_is_alike}
use Rattle.asm_run_code.proofs.worked.an_import_in_an_argument.Goals as goal

pub returns : goal.returns
returns c = waiting_is_alike
