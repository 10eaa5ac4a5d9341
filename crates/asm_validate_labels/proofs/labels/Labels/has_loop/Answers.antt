use Rattle.std.proofs.Common.{Some, None}
use Rattle.sem_words.specs.Lists.{text_bytes}
use Rattle.asm_validate_labels.proofs.Opened.{loop_found}
use Rattle.asm_validate_labels.proofs.labels.Labels.has_loop.Goals as goal

pub returns-in-Some : goal.returns-in-Some
returns-in-Some c = loop_found c.args.self.now.open.entries c.as_bytes.result.now (text_bytes c.args.name.now) (Some c.in-Some.of_loop.now) c.args.self.now.distinct c.as_bytes.ensures c.in-Some.ensures.value

pub returns-in-None : goal.returns-in-None
returns-in-None c = loop_found c.args.self.now.open.entries c.as_bytes.result.now (text_bytes c.args.name.now) None c.args.self.now.distinct c.as_bytes.ensures c.in-None.ensures.value
