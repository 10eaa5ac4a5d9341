use Rattle.std.proofs.Common.{◌≡◌, length}
use Rattle.asm_lang.specs.Trees.{StmtTrees}
use Rattle.asm_lang.specs.Machine.{Step, feed}
use Rattle.asm_grammar_nodes.specs.Views.{lexeme_view}
use Rattle.asm_grammar_nodes.specs.Tall.{stmt_tall_view}
use Rattle.asm_grammar_stmts.specs.Frames.{frames_list}
use Rattle.asm_grammar_stmts.specs.Items.{items_view}
use Rattle.asm_grammar_stmts.specs.Views.{frames_view, in_body, around_view}
use Rattle.asm_grammar_stmts.proofs.finish.settle.Given as goal

abbrev pub invariant-loop-frame : goal.invariant-loop-frame
invariant-loop-frame l = (k : StmtTrees → Step) → feed (frames_view (frames_list l.frames) (in_body (items_view l.body) k) (stmt_tall_view l.stmt)) (lexeme_view l.token) ≡ feed (around_view l.fn.around k (stmt_tall_view l.fn.stmt)) (lexeme_view l.token)

abbrev pub decreases-loop-frame : goal.decreases-loop-frame
decreases-loop-frame l = length (frames_list l.frames)
