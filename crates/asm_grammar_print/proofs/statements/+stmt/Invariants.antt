use Rattle.std.proofs.Common.{◌≡◌, take}
use Rattle.asm_lang.specs.Printing.{stmts_text, clauses_text}
use Rattle.asm_tree.specs.Views.{stmts_view, clauses_view}
use Rattle.asm_grammar_print.specs.Put.{written, put}
use Rattle.asm_grammar_print.proofs.statements.+stmt.Given as goal

abbrev pub invariant-put_stmts-loop-stmt : goal.invariant-put_stmts-loop-stmt
invariant-put_stmts-loop-stmt l = written l.out ≡ put (written l.initial.out) (stmts_text (stmts_view (take l.stmt-index l.stmts)))

abbrev pub invariant-put_clauses-loop-clause : goal.invariant-put_clauses-loop-clause
invariant-put_clauses-loop-clause l = written l.out ≡ put (written l.initial.out) (clauses_text (clauses_view (take l.clause-index l.clauses)))
