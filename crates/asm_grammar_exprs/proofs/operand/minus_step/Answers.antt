use Rattle.std.proofs.Common.{◌∙◌}
use Rattle.asm_lang.specs.Machine.{after_expr}
use Rattle.asm_grammar_nodes.specs.Views.{lexeme_view, word_view}
use Rattle.asm_grammar_exprs.specs.Views.{frames_view}
use Rattle.asm_grammar_exprs.proofs.Steps.{ok_map, minus_goes}
use Rattle.asm_grammar_exprs.proofs.operand.minus_step.Goals as goal

pub returns : goal.returns
returns c = ok_map c.negated_step.result (λ r is k. is k ∙ minus_goes c.args.token.now.class (word_view c.args.minus) (lexeme_view c.args.token.now) (λ e. after_expr c.args.level e (frames_view c.args.frames k)) c.in_default.not-Number) c.negated_step.ensures
