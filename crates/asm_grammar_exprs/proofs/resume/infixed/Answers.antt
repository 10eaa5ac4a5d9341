use Rattle.std.proofs.Common.{◌∙◌, ap, sym}
use Rattle.asm_grammar_nodes.specs.Views.{lexeme_view}
use Rattle.asm_grammar_nodes.specs.Tall.{tall_view}
use Rattle.asm_grammar_exprs.specs.Infix.{infix_step}
use Rattle.asm_grammar_exprs.specs.Views.{frames_view}
use Rattle.asm_grammar_exprs.proofs.Steps.{ok_map}
use Rattle.asm_grammar_exprs.proofs.resume.infixed.Goals as goal

pub returns-in-Comma : goal.returns-in-Comma
returns-in-Comma c = ok_map c.second_part.result (λ r is k. is k (lexeme_view c.args.token.now) ∙ ap (λ n. infix_step n (lexeme_view c.args.token.now) c.args.level (tall_view c.args.expr) (frames_view c.args.frames k)) (sym c.in-Comma.is)) c.second_part.ensures
