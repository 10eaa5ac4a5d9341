use Rattle.std.proofs.Common.{◌≡◌, ◌-◌, ◌≤◌, length}
use Rattle.asm_run_code.specs.Slots.{put}
use Rattle.asm_run_steps.proofs.words.put_past.Given as goal

abbrev pub invariant-zeros : goal.invariant-zeros
invariant-zeros l = record {
  same : put l.words.items l.at l.word ≡ put l.initial.words.items l.at l.word;
  within : length l.words.items ≤ l.at;
}

abbrev pub decreases-zeros : goal.decreases-zeros
decreases-zeros l = l.at - length l.words.items
