use Rattle.session_lang.proofs.Composing.{heaps_compose}
use Rattle.session_lang.proofs.laws.heaps_compose.Goals as goal

pub returns : goal.returns
returns c = heaps_compose
