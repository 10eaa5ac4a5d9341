use Rattle.std.proofs.Common.{◌≡◌, ◌≤◌, true, length, drop}
use Rattle.asm_tree.specs.Views.{clauses_view}
use Rattle.asm_lang_valid.specs.Typing as typing
use Rattle.asm_validate_labels.specs.Cases.{Knows}
use Rattle.asm_validate_labels.proofs.cases.are_distinct.Given as goal

abbrev pub invariant-loop-i : goal.invariant-loop-i
invariant-loop-i l = record {
  within : l.i ≤ length l.clauses;
  known : Knows l.seen (typing.values (clauses_view (drop l.i l.clauses)));
  distinct : typing.distinct (typing.values (clauses_view (drop l.i l.clauses))) ≡ true;
}

abbrev pub decreases-loop-i : goal.decreases-loop-i
decreases-loop-i l = l.i
