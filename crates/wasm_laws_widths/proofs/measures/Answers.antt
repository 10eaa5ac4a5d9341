use Rattle.wasm_laws_widths.proofs.Levels.{levels_are_within}
use Rattle.wasm_laws_widths.proofs.Slots.{bodies_are_within}
use Rattle.wasm_laws_widths.proofs.measures.Goals as goal

pub returns-clause-levels : goal.returns-clause-levels
returns-clause-levels c = levels_are_within

pub returns-clause-bodies : goal.returns-clause-bodies
returns-clause-bodies c = bodies_are_within
