use Rattle.std.proofs.Common.{◌≡◌, false, arith, ap, sym, ◌∙◌}
use Rattle.std.specs.Prelude.{Err}
use Rattle.wasm_lang.specs.declared.fault.Row.{Row}
use Rattle.wasm_tree.specs.Inputs.{input_of}
use Rattle.wasm_tree.proofs.Forms.{no_form, is_other, not_other}
use Rattle.wasm_tree.proofs.read.read_other.Goals as goal

pub returns-in_default-clause-value : goal.returns-in_default-clause-value
returns-in_default-clause-value c =
    let other : is_other c.args.opcode ≡ false = not_other c.args.opcode (λ h. omega arith) (λ h. omega arith) (λ h. omega arith) (λ h. omega arith) (λ h. omega arith) (λ h. omega arith) (λ h. omega arith) (λ h. omega arith) (λ h. omega arith) (λ h. omega arith) (λ h. omega arith) (λ h. omega arith) (λ h. omega arith) (λ h. omega arith) (λ h. omega arith) (λ h. omega arith) (λ h. omega arith) in
    no_form c.args.at c.args.opcode (input_of c.args.input) c.ranges.opcode.fits c.requires.bare c.requires.load c.requires.store other
    ∙ ap (λ (row : Row). Err (record { row = row; at = c.args.at })) (sym c.no_opcode.ensures)
