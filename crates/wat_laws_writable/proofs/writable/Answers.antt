use Rattle.wat_laws_writable.proofs.SaidModules.{said_is_writable}
use Rattle.wat_laws_writable.proofs.writable.Goals as goal

pub returns : goal.returns
returns c = said_is_writable
