use Rattle.asm_lang.specs.Printing.{canonical_text}
use Rattle.asm_laws_print.proofs.Printed.{text_of, well_formed_fits, one_module}
use Rattle.asm_laws_print.proofs.printed_modules.Goals as goal

pub returns-clause-again : goal.returns-clause-again
returns-clause-again c = λ m h. text_of m (well_formed_fits m h)

pub returns-clause-only : goal.returns-clause-only
returns-clause-only c = λ m n h k. one_module (canonical_text m) n m k (text_of m (well_formed_fits m h))
