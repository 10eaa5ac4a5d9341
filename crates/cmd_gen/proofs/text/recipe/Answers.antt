use Rattle.cmd_gen.proofs.Lines.{short_text}
use Rattle.cmd_gen.proofs.text.recipe.Goals as goal

pub returns-clause-short : goal.returns-clause-short
returns-clause-short c = short_text c.args.functions c.in_ok-text.text.items c.in_ok-text.ensures c.requires.few
