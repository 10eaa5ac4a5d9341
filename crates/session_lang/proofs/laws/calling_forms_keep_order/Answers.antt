use Rattle.session_lang.proofs.Forms.{calling_forms_keep_order}
use Rattle.session_lang.proofs.laws.calling_forms_keep_order.Goals as goal

pub returns : goal.returns
returns c = calling_forms_keep_order
