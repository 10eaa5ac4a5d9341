use Rattle.std.proofs.Common.{refl}
use Rattle.asm_grammar.proofs.All.{nothing_read}
use Rattle.asm_grammar.proofs.parsing.Parser.new.Goals as goal

pub returns : goal.returns
returns c = nothing_read _ refl refl
