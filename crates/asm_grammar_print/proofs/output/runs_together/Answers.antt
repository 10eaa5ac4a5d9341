use Rattle.std.proofs.Common.{ℕ, not, ◌==◌, sym, ap, ◌∙◌}
use Rattle.asm_grammar_print.proofs.Ends.{together_empty, together_names, together_len}
use Rattle.asm_grammar_print.proofs.output.runs_together.Goals as goal

pub returns-then-is_empty : goal.returns-then-is_empty
returns-then-is_empty c = together_empty c.args.both.now c.args.before c.split_at.result.0.now c.split_at.ensures.front (sym c.is_empty.ensures ∙ c.if-is_empty.true)

pub returns-then-names_touch : goal.returns-then-names_touch
returns-then-names_touch c = together_names c.args.both.now c.args.before c.split_at.result.0.now c.split_at.result.1.now c.split_at.ensures.front c.split_at.ensures.back (sym c.is_empty.ensures ∙ c.if-is_empty.false) (sym c.names_touch.ensures ∙ c.if-names_touch.true)

pub returns : goal.returns
returns c = ap (λ (i : ℕ). not (i == c.args.before)) c.token_len.ensures ∙ together_len c.args.both.now c.args.before c.split_at.result.0.now c.split_at.result.1.now c.requires c.split_at.ensures.front c.split_at.ensures.back (sym c.is_empty.ensures ∙ c.if-is_empty.false) (sym c.names_touch.ensures ∙ c.if-names_touch.false)
