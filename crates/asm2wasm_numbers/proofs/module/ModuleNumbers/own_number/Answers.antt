use Rattle.sem_words.specs.Lists.{text_bytes}
use Rattle.asm2wasm_numbers.proofs.Linked.{own_is}
use Rattle.asm2wasm_numbers.proofs.module.ModuleNumbers.own_number.Goals as goal

pub returns : goal.returns
returns c =
    own_is c.self.inside.checked.now c.args.self.now c.self.inside.types.calls c.self.inside.names.functions (text_bytes c.args.name.now) c.as_bytes.result.now c.len.result c.slot_or_len.result c.self.view_is c.len.ensures.count c.slot_or_len.ensures.place c.as_bytes.ensures c.self.invariant.typed.calls_are c.self.invariant.named.functions_are
