use Rattle.asm_grammar_stmts.proofs.Stops.{bodies_go_on}
use Rattle.asm_grammar_stmts.proofs.law.bodies_end_no_module.Goals as goal

pub returns : goal.returns
returns c = bodies_go_on c.expressions_end_no_module.ensures
