use Rattle.std.proofs.Common.{◌∙◌}
use Rattle.asm_lang.specs.Machine.{after_expr}
use Rattle.asm_grammar_nodes.specs.Views.{lexeme_view}
use Rattle.asm_grammar_exprs.specs.Views.{frames_view, callee_view}
use Rattle.asm_grammar_exprs.proofs.Steps.{ok_map, arguments_goes}
use Rattle.asm_grammar_exprs.proofs.operand.arguments_step.Goals as goal

pub returns-in_default : goal.returns-in_default
returns-in_default c = ok_map c.argument_step.result (λ r is k. is k ∙ arguments_goes c.args.token.now.class (lexeme_view c.args.token.now) (λ es. after_expr c.args.level (callee_view c.args.callee es) (frames_view c.args.frames k)) c.in_default.not-CloseParen) c.argument_step.ensures
