use Rattle.sem_words.specs.Lists.{text_bytes}
use Rattle.asm2wasm_numbers.specs.declared.calls.Call.{Call}
use Rattle.asm2wasm_numbers.proofs.Linked.{imported_is}
use Rattle.asm2wasm_numbers.proofs.module.ModuleNumbers.import_number.Goals as goal

pub returns : goal.returns
returns c =
    let call : Call = record { declaration = c.args.member.declaration; params = c.args.params; result = c.args.valued } in
    imported_is c.self.inside.checked.now c.args.self.now c.self.inside.types.calls (text_bytes c.args.member.name.now) call c.number.result c.self.view_is c.number.ensures c.self.invariant.typed.calls_are c.self.invariant.typed.calls_first c.requires
