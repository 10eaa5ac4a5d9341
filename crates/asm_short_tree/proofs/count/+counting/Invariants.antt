use Rattle.std.proofs.Common.{◌≡◌, ◌+◌, take}
use Rattle.asm_tree.specs.Views.{stmts_view, clauses_view}
use Rattle.asm_short_lang.specs.Renaming.{labels_in_all, labels_in_clauses}
use Rattle.asm_short_tree.proofs.count.+counting.Given as goal

abbrev pub invariant-count_stmts-loop-stmt : goal.invariant-count_stmts-loop-stmt
invariant-count_stmts-loop-stmt l = l.count ≡ l.initial.count + labels_in_all (stmts_view (take l.stmt-index l.stmts))

abbrev pub invariant-count_clauses-loop-clause : goal.invariant-count_clauses-loop-clause
invariant-count_clauses-loop-clause l = l.count ≡ l.initial.count + labels_in_clauses (clauses_view (take l.clause-index l.clauses))
