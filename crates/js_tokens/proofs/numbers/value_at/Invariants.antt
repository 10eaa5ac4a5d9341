use Rattle.std.proofs.Common.{◌≡◌, ◌+◌, ◌-◌, ◌≤◌, length, take, drop}
use Rattle.asm_lang_tokens.specs.Forms.{value_in}
use Rattle.js_tokens.specs.Scan.{number_of, value_len}
use Rattle.js_tokens.proofs.numbers.value_at.Given as goal

abbrev pub invariant-loop-n : goal.invariant-loop-n
invariant-loop-n l = record {
  within : l.n ≤ length l.s;
  so_far : l.n + value_len l.base l.value (drop l.n l.s) ≡ value_len l.base 0 l.s;
  value_is : l.value ≡ value_in (number_of l.base) 0 (take l.n l.s);
}

abbrev pub decreases-loop-n : goal.decreases-loop-n
decreases-loop-n l = length l.s - l.n
