use Rattle.asm_worked.proofs.Texts.{two_shapes_says}
use Rattle.asm_worked.proofs.rows.calls_of_two_shapes.Goals as goal

pub returns-clause-text : goal.returns-clause-text
returns-clause-text c = two_shapes_says
