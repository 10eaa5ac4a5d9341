use Rattle.std.proofs.Common.{◌<◌, arith}
use Rattle.std.proofs.lemmas.List.Elements.{All-from_get_or, recursion_from_All}
use Rattle.wasm_tree.specs.Views.{module_of}
use Rattle.wat_text.proofs.reading.read.Goals as goal

pub returns-in-Ok-clause-writable : goal.returns-in-Ok-clause-writable
returns-in-Ok-clause-writable c =
    λ short. c.writable.ensures c.args.bytes.now (module_of c.in-Ok.module)
    (recursion_from_All (λ b. b < 256) c.args.bytes.now (All-from_get_or (λ b. b < 256) c.args.bytes.now 0 (λ i _. omega (arith, c.type_inv.bytes i)))) short c.in-Ok.ensures.found
