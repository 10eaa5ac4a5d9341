use Rattle.wat_laws_again.proofs.Again.{said_by_canonical}
use Rattle.wat_laws_again.proofs.read_again.Goals as goal

pub returns : goal.returns
returns c = said_by_canonical
