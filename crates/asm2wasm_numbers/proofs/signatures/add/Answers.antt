use Rattle.asm2wasm_numbers.proofs.Types.{added_is}
use Rattle.asm2wasm_numbers.proofs.signatures.add.Goals as goal

pub returns : goal.returns
returns c = λ rest. added_is c.args.signature c.args.signatures.now.keys c.insert.new.self.keys rest c.in_ok-insert.ensures.keys
