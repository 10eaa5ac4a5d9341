use Rattle.session_lang.proofs.NameLaws.{fixed_names_are_kept}
use Rattle.session_lang.proofs.laws.fixed_names_are_kept.Goals as goal

pub returns : goal.returns
returns c = fixed_names_are_kept
