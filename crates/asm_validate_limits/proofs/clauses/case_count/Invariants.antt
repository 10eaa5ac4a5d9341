use Rattle.std.proofs.Common.{◌≡◌, ◌+◌, ◌≤◌, drop}
use Rattle.asm_tree.specs.Views.{clauses_view}
use Rattle.asm_lang_valid.specs.LimitRows.{clauses_length}
use Rattle.asm_validate_limits.proofs.clauses.case_count.Given as goal

abbrev pub invariant-loop-clause : goal.invariant-loop-clause
invariant-loop-clause l = record {
  counted : l.count + clauses_length (clauses_view (drop l.clause-index l.clauses)) ≡ clauses_length (clauses_view l.clauses);
  small : l.count ≤ l.clause-index;
}
