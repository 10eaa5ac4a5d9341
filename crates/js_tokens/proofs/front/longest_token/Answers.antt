use Rattle.std.proofs.Common.{sym, ◌∙◌, arith}
use Rattle.js_tokens.proofs.Words.{name_at_front, quoted_at_front, no_quoted_at_front}
use Rattle.js_tokens.proofs.front.longest_token.Goals as goal

pub returns-then-begins_name : goal.returns-then-begins_name
returns-then-begins_name c = name_at_front _ _ _ _ c.in_ok-first.ensures.cases.0 (sym c.begins_name.ensures ∙ c.if-begins_name.true) c.name_len.ensures

pub returns-in-0 : goal.returns-in-0
returns-in-0 c = no_quoted_at_front _ _ _ c.in_ok-first.ensures.cases.0 (sym c.is_quote.ensures ∙ c.if-is_quote.true) (sym c.quoted_len.ensures.value ∙ c.in-0.is)

pub returns-in_default : goal.returns-in_default
returns-in_default c = quoted_at_front _ _ _ _ c.in_ok-first.ensures.cases.0 (sym c.is_quote.ensures ∙ c.if-is_quote.true) c.quoted_len.ensures.value (omega arith)
