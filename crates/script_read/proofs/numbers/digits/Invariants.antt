use Rattle.std.proofs.Common.{◌≡◌, ◌<◌, ◌^◌, drop}
use Rattle.script_read.specs.Views.{digits_below, digits_from}
use Rattle.script_read.proofs.numbers.digits.Given as goal

abbrev pub invariant-loop-digit : goal.invariant-loop-digit
invariant-loop-digit l = record {
  same : digits_below l.word ≡ digits_from l.value (drop l.digit-index l.word);
  fits : l.value < 2 ^ 64;
}
