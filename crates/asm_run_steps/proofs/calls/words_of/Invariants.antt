use Rattle.std.proofs.Common.{◌≡◌, ◌+◌, ◌-◌, ◌++◌}
use Rattle.asm_run_code.specs.Machine.{words_from}
use Rattle.asm_run_steps.proofs.calls.words_of.Given as goal

abbrev pub invariant-loop-i : goal.invariant-loop-i
invariant-loop-i l =
    l.args.items ++ words_from l.words.all (l.words.base + l.first + l.i) (l.count - l.i) ≡ words_from l.words.all (l.words.base + l.first) l.count
