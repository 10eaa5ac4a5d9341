use Rattle.session_lang.proofs.BelowLaws.{below_is_reflexive}
use Rattle.session_lang.proofs.laws.below_is_reflexive.Goals as goal

pub returns : goal.returns
returns c = below_is_reflexive
