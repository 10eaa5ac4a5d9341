use Rattle.std.proofs.Common.{refl}
use Rattle.asm_lang.specs.Modules.{module_places}
use Rattle.asm_lang.specs.Printing.{canonical_text}
use Rattle.asm_laws_print.proofs.Printed.{text_of, well_formed_fits, one_module}
use Rattle.asm_text.proofs.laws.printed_texts_are_read.Goals as goal

pub returns-clause-again : goal.returns-clause-again
returns-clause-again c = λ m h. let t = text_of m (well_formed_fits m h) in (module_places t.tree, record { said = t; have_places = refl; within = h.within })

pub returns-clause-only : goal.returns-clause-only
returns-clause-only c = λ m n places h s. one_module (canonical_text m) n m s.said (text_of m (well_formed_fits m h))
