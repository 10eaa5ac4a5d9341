use Rattle.std.proofs.Common.{false}
use Rattle.wat_lang.specs.Printing.{module_pieces}
use Rattle.wat_laws_print.proofs.Joined.{reads}
use Rattle.wat_laws_print.proofs.Fits.{module_fit}
use Rattle.wat_laws_print.proofs.pieces_are_read.Goals as goal

pub returns-clause-pieces : goal.returns-clause-pieces
returns-clause-pieces c = λ ps f. reads 0 false ps f

pub returns-clause-canonical : goal.returns-clause-canonical
returns-clause-canonical c = λ m h. reads 0 false (module_pieces m) (module_fit m h)
