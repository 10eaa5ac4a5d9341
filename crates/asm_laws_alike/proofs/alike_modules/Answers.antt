use Rattle.asm_laws_alike.proofs.Sessions.{alike_are_same}
use Rattle.asm_laws_alike.proofs.alike_modules.Goals as goal

pub returns : goal.returns
returns c = record { outside = alike_are_same }
