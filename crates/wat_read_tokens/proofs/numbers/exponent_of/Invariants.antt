use Rattle.std.proofs.Common.{◌≡◌, ◌-◌, ◌^◌, ◌≤◌}
use Rattle.wat_lang.specs.Modules.{exponent_from, exponent_of}
use Rattle.wat_read_tokens.proofs.numbers.exponent_of.Given as goal

abbrev pub invariant-loop-exponent : goal.invariant-loop-exponent
invariant-loop-exponent l = record {
  within : l.exponent ≤ 32;
  is_power : l.power ≡ 2 ^ l.exponent;
  goes_on : exponent_from (32 - l.exponent) l.exponent l.n ≡ exponent_of l.n;
}

abbrev pub decreases-loop-exponent : goal.decreases-loop-exponent
decreases-loop-exponent l = 32 - l.exponent
