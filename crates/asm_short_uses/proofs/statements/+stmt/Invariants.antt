use Rattle.std.proofs.Common.{◌≡◌, ◌++◌, take}
use Rattle.asm_tree.specs.Views.{stmts_view, clauses_view}
use Rattle.asm_short_lang.specs.Uses.{stmts_uses, clauses_uses}
use Rattle.asm_short_uses.specs.Views.{uses_view}
use Rattle.asm_short_uses.proofs.statements.+stmt.Given as goal

abbrev pub invariant-add_stmts-loop-stmt : goal.invariant-add_stmts-loop-stmt
invariant-add_stmts-loop-stmt l = uses_view l.uses.items ≡ uses_view l.initial.uses.items ++ stmts_uses (stmts_view (take l.stmt-index l.stmts))

abbrev pub invariant-add_clauses-loop-clause : goal.invariant-add_clauses-loop-clause
invariant-add_clauses-loop-clause l = uses_view l.uses.items ≡ uses_view l.initial.uses.items ++ clauses_uses (clauses_view (take l.clause-index l.clauses))
