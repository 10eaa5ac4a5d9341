use Rattle.std.proofs.Common.{◌≡◌, drop}
use Rattle.asm_run_code.specs.Slots.{put_all}
use Rattle.asm_run_steps.proofs.words.put_run.Given as goal

abbrev pub invariant-loop-word : goal.invariant-loop-word
invariant-loop-word l = put_all l.items.items l.at (drop l.word-index l.words) ≡ put_all l.initial.items.items l.begin l.words
