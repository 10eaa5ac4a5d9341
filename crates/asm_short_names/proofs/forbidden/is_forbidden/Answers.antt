use Rattle.std.proofs.Common.{◌∙◌}
use Rattle.asm_short_names.proofs.Words.{forbidden_is}
use Rattle.asm_short_names.proofs.forbidden.is_forbidden.Goals as goal

pub returns : goal.returns
returns c = c.contains.ensures.value ∙ forbidden_is c.args.number
