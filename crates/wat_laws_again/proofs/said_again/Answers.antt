use Rattle.wat_laws_again.proofs.ModulesBack.{signs_say}
use Rattle.wat_laws_again.proofs.said_again.Goals as goal

pub returns : goal.returns
returns c = signs_say
