use Rattle.std.proofs.Common.{None}
use Rattle.sem_words.specs.Lists.{text_bytes}
use Rattle.asm_validate_labels.proofs.Opened.{has_found}
use Rattle.asm_validate_labels.proofs.labels.Labels.has.Goals as goal

pub returns-in-Some : goal.returns-in-Some
returns-in-Some c = has_found c.args.self.now.open.entries c.as_bytes.result.now (text_bytes c.args.name.now) _ c.as_bytes.ensures c.in-Some.ensures.value

pub returns-in-None : goal.returns-in-None
returns-in-None c = has_found c.args.self.now.open.entries c.as_bytes.result.now (text_bytes c.args.name.now) None c.as_bytes.ensures c.in-None.ensures.value
