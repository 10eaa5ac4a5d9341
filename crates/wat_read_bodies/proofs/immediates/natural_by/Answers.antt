use Rattle.std.proofs.Common.{ap}
use Rattle.wat_lang.specs.Modules.{natural_or_0}
use Rattle.wat_read_bodies.proofs.immediates.natural_by.Goals as goal

pub returns-in-Some : goal.returns-in-Some
returns-in-Some c = ap natural_or_0 c.in-Some.ensures

pub returns-in-None : goal.returns-in-None
returns-in-None c = ap natural_or_0 c.in-None.ensures
