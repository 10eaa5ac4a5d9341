use Rattle.std.proofs.Common.{not, None, Some, ap, sym, ◌∙◌}
use Rattle.sem_words.specs.Lists.{text_bytes}
use Rattle.asm_validate_labels.proofs.Opened.{has_found, entries_new, labels_new, front_new}
use Rattle.asm_validate_labels.proofs.labels.Labels.add.Goals as goal

pub returns-in-None-clause-is_new : goal.returns-in-None-clause-is_new
returns-in-None-clause-is_new c = ap not (has_found c.args.self.now.open.entries c.as_bytes.result.now (text_bytes c.args.name.now) None c.as_bytes.ensures (sym c.in-None.is ∙ c.in_ok-before.ensures.old))

pub returns-in-None-clause-added : goal.returns-in-None-clause-added
returns-in-None-clause-added c = λ b. labels_new _ _ _ _ _ c.as_bytes.ensures (entries_new c.args.self.now.open _ _ _ _ c.in-None.is c.in_ok-before.ensures.old c.in_ok-before.ensures.entries)

pub returns-in-None-clause-front : goal.returns-in-None-clause-front
returns-in-None-clause-front c = λ b. front_new _ _ _ (entries_new c.args.self.now.open _ _ _ _ c.in-None.is c.in_ok-before.ensures.old c.in_ok-before.ensures.entries)

pub returns-in-Some-clause-is_new : goal.returns-in-Some-clause-is_new
returns-in-Some-clause-is_new c = ap not (has_found c.args.self.now.open.entries c.as_bytes.result.now (text_bytes c.args.name.now) (Some _) c.as_bytes.ensures (sym c.in-Some.is ∙ c.in_ok-before.ensures.old))
