use Rattle.std.proofs.Common.{◌≡◌, ◌+◌, drop}
use Rattle.asm_tree.specs.Views.{clauses_view}
use Rattle.asm_lang_exec.specs.Meaning as meaning
use Rattle.switch_cases.proofs.targets.before_default.Given as goal

abbrev pub invariant-loop-i : goal.invariant-loop-i
invariant-loop-i l = meaning.before_default (clauses_view l.clauses) ≡ l.i + meaning.before_default (clauses_view (drop l.i l.clauses))
