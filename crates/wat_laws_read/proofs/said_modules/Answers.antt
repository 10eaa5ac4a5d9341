use Rattle.wat_laws_read.proofs.Shaped.{said_is_shaped}
use Rattle.wat_laws_read.proofs.Within.{said_is_within}
use Rattle.wat_laws_read.proofs.said_modules.Goals as goal

pub returns-clause-shaped : goal.returns-clause-shaped
returns-clause-shaped c = said_is_shaped

pub returns-clause-within : goal.returns-clause-within
returns-clause-within c = said_is_within
