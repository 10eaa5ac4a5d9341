use Rattle.session_lang.proofs.Composing.{simulations_compose}
use Rattle.session_lang.proofs.laws.simulations_compose.Goals as goal

pub returns : goal.returns
returns c = simulations_compose
