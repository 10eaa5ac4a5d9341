use Rattle.wasm_laws_write.proofs.Short.{numbers_are_short, parts_are_short, narrow_fit, instructions_are_short, code_is_short, bodies_are_short}
use Rattle.wasm_laws_write.proofs.lengths.Goals as goal

pub returns-clause-numbers : goal.returns-clause-numbers
returns-clause-numbers c = numbers_are_short

pub returns-clause-parts : goal.returns-clause-parts
returns-clause-parts c = parts_are_short

pub returns-clause-narrow : goal.returns-clause-narrow
returns-clause-narrow c = narrow_fit

pub returns-clause-instructions : goal.returns-clause-instructions
returns-clause-instructions c = instructions_are_short

pub returns-clause-code : goal.returns-clause-code
returns-clause-code c = code_is_short

pub returns-clause-bodies : goal.returns-clause-bodies
returns-clause-bodies c = bodies_are_short
