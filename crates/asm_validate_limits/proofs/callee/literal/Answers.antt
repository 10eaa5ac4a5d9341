use Rattle.std.proofs.Common.{sym}
use Rattle.asm_validate_limits.proofs.Shapes.{no_literal}
use Rattle.asm_validate_limits.proofs.callee.literal.Goals as goal

pub returns-in_default : goal.returns-in_default
returns-in_default c = sym (no_literal c.args.expr.now c.in_default.not-Lit)
