use Rattle.session_lang.proofs.Sides.{comparisons_go_with_below}
use Rattle.session_lang.proofs.laws.comparisons_go_with_below.Goals as goal

pub returns : goal.returns
returns c = comparisons_go_with_below
