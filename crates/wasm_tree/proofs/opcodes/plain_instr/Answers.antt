use Rattle.std.proofs.Common.{◌≡◌, false, arith}
use Rattle.wasm_tree.proofs.Table.{passed_on, is_single, not_single}
use Rattle.wasm_tree.proofs.opcodes.plain_instr.Goals as goal

pub returns-in_default : goal.returns-in_default
returns-in_default c =
    let single : is_single c.args.byte ≡ false = not_single c.args.byte (λ h. omega arith) (λ h. omega arith) (λ h. omega arith) (λ h. omega arith) (λ h. omega arith) (λ h. omega arith) (λ h. omega arith) (λ h. omega arith) (λ h. omega arith) (λ h. omega arith) (λ h. omega arith) (λ h. omega arith) (λ h. omega arith) (λ h. omega arith) (λ h. omega arith) (λ h. omega arith) (λ h. omega arith) in
    passed_on c.args.byte c.operator_instr.result c.ranges.byte.fits single c.operator_instr.ensures
