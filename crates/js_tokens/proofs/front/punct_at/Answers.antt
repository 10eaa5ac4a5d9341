use Rattle.std.proofs.Common.{arith}
use Rattle.js_tokens.proofs.Signs.{punct_at_front, no_punct_at_front}
use Rattle.js_tokens.proofs.front.punct_at.Goals as goal

pub returns-in-0 : goal.returns-in-0
returns-in-0 c = no_punct_at_front c.args.s.now c.punct_len.result c.requires c.punct_len.ensures.no_longer c.in-0.is

pub returns-in_default : goal.returns-in_default
returns-in_default c = punct_at_front c.args.s.now c.punct_len.result c.requires c.punct_len.ensures.within c.punct_len.ensures.here c.punct_len.ensures.no_longer (omega arith)
