use Rattle.session_lang.proofs.NameLaws.{different_exports_have_different_names}
use Rattle.session_lang.proofs.laws.different_exports_have_different_names.Goals as goal

pub returns : goal.returns
returns c = different_exports_have_different_names
