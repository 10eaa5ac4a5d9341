use Rattle.asm_grammar_erase.proofs.StmtErasing.{under_joined}
use Rattle.asm_grammar_erase.proofs.labels.under_more.Goals as goal

pub returns : goal.returns
returns c = under_joined c.args.inner c.in_ok-labels.labels c.args.labels c.args.body c.in_ok-labels.ensures
