use Rattle.std.proofs.Common.{◌≡◌, drop}
use Rattle.asm_tree.specs.Views.{clauses_view}
use Rattle.asm_lang_valid.specs.Typing as typing
use Rattle.asm_validate_labels.proofs.cases.are_in_range.Given as goal

abbrev pub invariant-loop-clause : goal.invariant-loop-clause
invariant-loop-clause l = typing.in_range (typing.values (clauses_view l.clauses)) ≡ typing.in_range (typing.values (clauses_view (drop l.clause-index l.clauses)))
