use Rattle.std.proofs.Common.{◌∙◌}
use Rattle.sem_words.specs.Lists.{list_items}
use Rattle.asm_validate_limits.proofs.Imported.{there, past}
use Rattle.asm_validate_limits.proofs.calls.ForeignCall.name.Goals as goal

pub returns-in-Some : goal.returns-in-Some
returns-in-Some c = c.imported_name.ensures ∙ there (list_items c.args.home.now.globals) c.args.self.now.declaration c.in-Some.global.now c.in-Some.ensures.value

pub returns-in-None : goal.returns-in-None
returns-in-None c = past (list_items c.args.home.now.globals) c.args.self.now.declaration c.in-None.ensures.value
