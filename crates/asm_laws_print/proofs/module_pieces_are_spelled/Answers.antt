use Rattle.asm_laws_print.proofs.Modules.{module_read}
use Rattle.asm_laws_print.proofs.module_pieces_are_spelled.Goals as goal

pub returns : goal.returns
returns c = λ m fits d xs s. module_read m fits s
