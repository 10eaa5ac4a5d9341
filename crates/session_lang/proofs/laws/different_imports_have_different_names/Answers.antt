use Rattle.session_lang.proofs.NameLaws.{different_imports_have_different_names}
use Rattle.session_lang.proofs.laws.different_imports_have_different_names.Goals as goal

pub returns : goal.returns
returns c = different_imports_have_different_names
