use Rattle.asm_grammar.proofs.Fed.{fed_on, fed_high, not_over}
use Rattle.asm_grammar.proofs.parsing.within_limit.Goals as goal

pub returns-then-is_over : goal.returns-then-is_over
returns-then-is_over c = λ s t ts e. fed_high s c.args.next.now t ts c.peak.result.count e c.peak.ensures (c.is_over.ensures.0 c.if-is_over.true)

pub returns-else-is_over : goal.returns-else-is_over
returns-else-is_over c = λ s t ts e. fed_on s c.args.next.now t ts c.peak.result.count e c.peak.ensures (not_over c.is_over.result c.peak.result.count 1000 c.is_over.ensures.1 c.if-is_over.false)
