use Rattle.asm_run_code.proofs.Alike.{storing_a_value_is_alike}
use Rattle.asm_run_code.proofs.worked.a_store_as_a_value.Goals as goal

pub returns : goal.returns
returns c = storing_a_value_is_alike
