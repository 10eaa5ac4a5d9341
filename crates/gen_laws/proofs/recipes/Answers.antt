use Rattle.gen_laws.proofs.Accepted.{recipes_are_accepted}
use Rattle.gen_laws.proofs.recipes.Goals as goal

pub returns : goal.returns
returns c = recipes_are_accepted
