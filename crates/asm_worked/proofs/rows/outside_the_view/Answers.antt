use Rattle.asm_worked.proofs.Texts.{outside_says}
use Rattle.asm_worked.proofs.Sessions.{nothing_is_written, nine_is_written}
use Rattle.asm_worked.proofs.rows.outside_the_view.Goals as goal

pub returns-clause-text : goal.returns-clause-text
returns-clause-text c = outside_says

pub returns-clause-nothing : goal.returns-clause-nothing
returns-clause-nothing c = nothing_is_written

pub returns-clause-written : goal.returns-clause-written
returns-clause-written c = nine_is_written
