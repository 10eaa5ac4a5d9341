-- An operation on one operand, before the operand's slot is known.
use Rattle.std.specs.Prelude.{ℕ}
use Rattle.asm_run_code.specs.declared.op.Op.{Op}
use Rattle.asm_run_code.specs.declared.op.Op.TheVariants as ops
use Rattle.asm_run_code.specs.Values.{prefixed}
use Rattle.asm_run_emit_values.specs.declared.operands.Single.{Single}
use Rattle.asm_run_emit_values.specs.declared.operands.Single.TheVariants.{Element, Prefix, Zeros, Unless}

abbrev pub single_op : Single → (a : ℕ) → Op
single_op (Element kind to) a = ops.ReadElement kind to a
single_op (Prefix op to) a = prefixed op to a
single_op (Zeros to) a = ops.Zeros to a
single_op (Unless at) a = ops.Unless a at
