use Rattle.std.proofs.Common.{arith}
use Rattle.asm_laws_print.proofs.Exprs.{expr_read}
use Rattle.asm_laws_print.proofs.printed_expressions.Goals as goal

pub returns : goal.returns
returns c = λ e fits b d xs ys s. expr_read e fits 0 (λ h. omega (arith, h)) (omega arith) b d xs ys s
