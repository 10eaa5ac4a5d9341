use Rattle.asm_validate_limits.proofs.Few.{few_functions, few_params}
use Rattle.asm_validate_limits.proofs.laws.limit_laws.Goals as goal

pub returns-clause-functions : goal.returns-clause-functions
returns-clause-functions c = few_functions

pub returns-clause-params : goal.returns-clause-params
returns-clause-params c = few_params
