use Rattle.std.proofs.Common.{sym, ◌∙◌}
use Rattle.asm_short_lang.specs.Sequence.{numbered}
use Rattle.asm_short_names.proofs.Lists.{forbidden_taken, others_taken}
use Rattle.asm_short_names.proofs.free.is_taken.Goals as goal

pub returns-then-is_forbidden : goal.returns-then-is_forbidden
returns-then-is_forbidden c = λ names h. forbidden_taken names (numbered c.args.number) c.is_forbidden.result c.is_forbidden.ensures c.if-is_forbidden.true

pub returns-else-is_forbidden : goal.returns-else-is_forbidden
returns-else-is_forbidden c = λ names h. others_taken names (numbered c.args.number) c.is_forbidden.result c.has.result c.is_forbidden.ensures c.if-is_forbidden.false (c.has.ensures ∙ sym (h.alike c.args.number))
