use Rattle.asm_laws_height.proofs.Frames.{compose, capped, compares, capped_after}
use Rattle.asm_laws_height.proofs.rises.Goals as goal

pub returns-clause-compose : goal.returns-clause-compose
returns-clause-compose c = compose

pub returns-clause-capped : goal.returns-clause-capped
returns-clause-capped c = capped

pub returns-clause-capped_after : goal.returns-clause-capped_after
returns-clause-capped_after c = capped_after

pub returns-clause-compares : goal.returns-clause-compares
returns-clause-compares c = compares
