use Rattle.asm_grammar_erase.proofs.StmtErasing.{under_boxed}
use Rattle.asm_grammar_erase.proofs.labels.under_first.Goals as goal

pub returns : goal.returns
returns c = under_boxed c.args.body c.args.labels c.in_ok-body.body c.in_ok-body.ensures
