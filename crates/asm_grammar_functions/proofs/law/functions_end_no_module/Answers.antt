use Rattle.asm_grammar_functions.proofs.Idle.{function_stops}
use Rattle.asm_grammar_functions.proofs.law.functions_end_no_module.Goals as goal

pub returns : goal.returns
returns c = function_stops c.bodies_end_no_module.ensures
