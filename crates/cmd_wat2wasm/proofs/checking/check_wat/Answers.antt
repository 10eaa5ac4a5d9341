use Rattle.std.proofs.Common.{◌<◌, arith}
use Rattle.std.proofs.lemmas.List.Elements.{All-from_get_or}
use Rattle.wasm_tree.specs.Views.{module_of}
use Rattle.cmd_wat2wasm.proofs.Checked.{unsaid, invalid, writable}
use Rattle.cmd_wat2wasm.proofs.checking.check_wat.Goals as goal

pub returns-in-Ok-validate-clause-writable : goal.returns-in-Ok-validate-clause-writable
returns-in-Ok-validate-clause-writable c =
    writable c.writable.ensures c.args.text.now (module_of c.in-Ok.module) c.in-Ok-validate.valid c.in-Ok-validate.ensures.given
    (All-from_get_or (λ b. b < 256) c.args.text.now 0 (λ i _. omega (arith, c.type_inv.text i))) c.in-Ok.ensures.found

pub returns-in-Err-validate-clause-refused : goal.returns-in-Err-validate-clause-refused
returns-in-Err-validate-clause-refused c =
    rw c.of_invalid.ensures (invalid c.args.text.now (module_of c.in-Ok.module) c.in-Err-validate.invalid c.in-Ok.ensures.found c.in-Err-validate.ensures.exactly)

pub returns-in-Err-clause-refused : goal.returns-in-Err-clause-refused
returns-in-Err-clause-refused c = rw c.of_wat.ensures (unsaid c.args.text.now c.in-Err.fault c.in-Err.ensures.fault)
