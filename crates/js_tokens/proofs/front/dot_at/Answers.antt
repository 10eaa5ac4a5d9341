use Rattle.std.proofs.Common.{arith}
use Rattle.js_tokens.proofs.Signs.{decimal_after_dot, dot_alone}
use Rattle.js_tokens.proofs.front.dot_at.Goals as goal

pub returns-in-0 : goal.returns-in-0
returns-in-0 c = dot_alone c.args.rest.now c.digits_len.result c.digits_len.ensures.value c.in-0.is

pub returns-in_default : goal.returns-in_default
returns-in_default c = decimal_after_dot c.args.rest.now c.digits_len.result c.digits_len.ensures.value (omega arith)
