use Rattle.std.proofs.Common.{◌≡◌, length}
use Rattle.asm_lang.specs.Trees.{ExprTree}
use Rattle.asm_lang.specs.Machine.{State, after_expr, feed}
use Rattle.asm_grammar_nodes.specs.Views.{lexeme_view}
use Rattle.asm_grammar_nodes.specs.Tall.{tall_view}
use Rattle.asm_grammar_exprs.specs.Frames.{frames_list}
use Rattle.asm_grammar_exprs.specs.Views.{frames_view}
use Rattle.asm_grammar_exprs.proofs.resume.resumed.Given as goal

abbrev pub invariant-loop-next : goal.invariant-loop-next
invariant-loop-next l = (k : ExprTree → State) → feed (after_expr l.level (tall_view l.expr) (frames_view l.frames k)) (lexeme_view l.token) ≡ feed (after_expr l.fn.level (tall_view l.fn.expr) (frames_view l.fn.frames k)) (lexeme_view l.token)

abbrev pub decreases-loop-next : goal.decreases-loop-next
decreases-loop-next l = length (frames_list l.frames)
