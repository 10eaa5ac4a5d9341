use Rattle.asm_tree.specs.Views.{expr_view}
use Rattle.asm_validate_limits.proofs.Shapes.{no_literal}
use Rattle.asm2wasm_emit_values.proofs.Signs.{no_literal_no_zero}
use Rattle.asm2wasm_emit_values.proofs.forms.is_zero.Goals as goal

pub returns-in_default : goal.returns-in_default
returns-in_default c = no_literal_no_zero (expr_view c.args.expr.now) (no_literal c.args.expr.now c.in_default.not-Lit)
