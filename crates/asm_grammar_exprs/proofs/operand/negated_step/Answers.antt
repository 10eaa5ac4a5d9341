use Rattle.std.proofs.Common.{◌∙◌, ap}
use Rattle.asm_lang.specs.Machine.{expr_by}
use Rattle.asm_grammar_nodes.specs.Views.{lexeme_view, class_view}
use Rattle.asm_grammar_exprs.proofs.Steps.{ok_map}
use Rattle.asm_grammar_exprs.proofs.operand.negated_step.Goals as goal

pub returns : goal.returns
returns c = ok_map c.operand_step.result (λ r is k. is k ∙ ap (λ f. expr_by (class_view c.args.token.now.class) (lexeme_view c.args.token.now) 13 f) (c.in_ok-frames.ensures k)) c.operand_step.ensures
