use Rattle.session_lang.proofs.NameLaws.{names_are_plain}
use Rattle.session_lang.proofs.laws.names_are_plain.Goals as goal

pub returns : goal.returns
returns c = names_are_plain
