use Rattle.std.proofs.Common.{ℕ, List, subst}
use Rattle.asm_lang.specs.Printing.{canonical_text}
use Rattle.asm_lang.specs.Texts.{IsTextOf}
use Rattle.asm_laws_print.proofs.Printed.{text_of, text_fits, well_formed_fits, one_module}
use Rattle.asm_laws_print.proofs.texts_of_modules.Goals as goal

pub returns-clause-one : goal.returns-clause-one
returns-clause-one c = one_module

pub returns-clause-canonical : goal.returns-clause-canonical
returns-clause-canonical c = λ text m h. text_of m (text_fits text m h)

pub returns-clause-apart : goal.returns-clause-apart
returns-clause-apart c = λ m n h k e. one_module (canonical_text n) m n (subst (λ (text : List ℕ). IsTextOf text m) e (text_of m (well_formed_fits m h))) (text_of n (well_formed_fits n k))
