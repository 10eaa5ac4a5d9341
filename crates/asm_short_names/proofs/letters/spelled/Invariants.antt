use Rattle.std.proofs.Common.{◌+◌, ◌≡◌, ◌<◌, ◌≤◌, ◌++◌, length, drop}
use Rattle.asm_short_lang.specs.Sequence.{numbered}
use Rattle.asm_short_names.proofs.Spelt.{room}
use Rattle.asm_short_names.proofs.letters.spelled.Given as goal

abbrev pub invariant-loop-rest : goal.invariant-loop-rest
invariant-loop-rest l = record {
  within : l.start ≤ 10;
  long : length l.bytes ≡ 11;
  fits : l.rest < room l.start;
  says : numbered l.rest ++ drop (l.start + 1) l.bytes ≡ numbered l.number;
}

abbrev pub decreases-loop-rest : goal.decreases-loop-rest
decreases-loop-rest l = l.rest
