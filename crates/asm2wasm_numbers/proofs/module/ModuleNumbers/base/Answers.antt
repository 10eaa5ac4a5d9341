use Rattle.sem_words.specs.Lists.{list_items, text_bytes}
use Rattle.asm2wasm_numbers.proofs.Linked.{found_base, no_base}
use Rattle.asm2wasm_numbers.proofs.module.ModuleNumbers.base.Goals as goal

pub returns-in-Some : goal.returns-in-Some
returns-in-Some c =
    found_base c.self.inside.checked.now c.args.self.now c.self.inside.names.tables (list_items c.self.inside.plan.bases) c.as_slice.result.now (text_bytes c.args.name.now) c.as_bytes.result.now c.in-Some.slot c.base_at.result c.self.view_is c.base_at.ensures c.as_slice.ensures c.self.invariant.bases_are c.self.invariant.named.tables_are c.as_bytes.ensures c.in-Some.ensures.place

pub returns-in-None : goal.returns-in-None
returns-in-None c =
    no_base c.self.inside.checked.now c.args.self.now c.self.inside.names.tables (text_bytes c.args.name.now) c.as_bytes.result.now c.self.view_is c.self.invariant.named.tables_are c.as_bytes.ensures c.in-None.ensures.place
