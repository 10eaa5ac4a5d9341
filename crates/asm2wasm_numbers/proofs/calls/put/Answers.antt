use Rattle.asm2wasm_numbers.specs.Calls.{key_of}
use Rattle.asm2wasm_numbers.proofs.Counted.{call_put}
use Rattle.asm2wasm_numbers.proofs.calls.put.Goals as goal

pub returns : goal.returns
returns c = λ k o.
    call_put c.args.numbers.now.entries c.insert.new.self.entries (key_of c.args.call.now) k c.args.number o c.in_ok-insert.ensures.updates.0
