use Rattle.session_lang.proofs.BelowLaws.{below_is_transitive}
use Rattle.session_lang.proofs.laws.below_is_transitive.Goals as goal

pub returns : goal.returns
returns c = below_is_transitive
