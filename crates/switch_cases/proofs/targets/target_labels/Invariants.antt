use Rattle.std.proofs.Common.{◌≡◌, ◌≤◌, suc, length, drop}
use Rattle.asm_tree.specs.Views.{clauses_view}
use Rattle.asm_lang_valid.specs.Typing as typing
use Rattle.asm_lang_exec.specs.Meaning as meaning
use Rattle.asm2wasm_translation.specs.Bodies as code
use Rattle.switch_cases.specs.Cases.{targets_from}
use Rattle.switch_cases.proofs.targets.target_labels.Given as goal

abbrev pub invariant-loop-i : goal.invariant-loop-i
invariant-loop-i l = record {
  within : l.i ≤ length l.clauses;
  sized : length l.labels.items ≡ suc (code.span (typing.values (clauses_view l.clauses)));
  found : l.labels.items ≡ targets_from (meaning.before_default (clauses_view l.clauses)) l.i (suc (code.span (typing.values (clauses_view l.clauses)))) (code.low (typing.values (clauses_view l.clauses))) (clauses_view (drop l.i l.clauses));
}

abbrev pub decreases-loop-i : goal.decreases-loop-i
decreases-loop-i l = l.i
