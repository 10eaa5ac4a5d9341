use Rattle.asm_lang.specs.Trees.{no_expr}
use Rattle.asm_grammar_exprs.proofs.Steps.{ok_map}
use Rattle.asm_grammar_exprs.proofs.item.first_argument.Goals as goal

pub returns : goal.returns
returns c = ok_map c.itemed.result (λ r is k. is k no_expr c.new.ensures) c.itemed.ensures
