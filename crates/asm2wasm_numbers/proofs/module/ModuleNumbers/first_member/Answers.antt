use Rattle.std.proofs.Common.{◌∙◌}
use Rattle.sem_words.specs.Lists.{list_items}
use Rattle.asm_tree.specs.Views.{module_view}
use Rattle.asm2wasm_numbers.proofs.Linked.{first_is}
use Rattle.asm2wasm_numbers.proofs.module.ModuleNumbers.first_member.Goals as goal

pub returns-in-Some : goal.returns-in-Some
returns-in-Some c = c.named_signature.ensures ∙ first_is (module_view c.args.self.now) (list_items c.args.table.now.members) c.in-Some.name.now c.in-Some.ensures.value
