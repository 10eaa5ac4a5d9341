use Rattle.std.proofs.Common.{refl}
use Rattle.asm_run_laws.proofs.Words.{operator_word, link_word, same_word}
use Rattle.asm_run_laws.proofs.operators.Goals as goal

pub returns-clause-binary : goal.returns-clause-binary
returns-clause-binary c op l r a b t v w y = operator_word op l r a b t _ v w y refl

pub returns-clause-links : goal.returns-clause-links
returns-clause-links c = link_word

pub returns-clause-same : goal.returns-clause-same
returns-clause-same c = same_word
