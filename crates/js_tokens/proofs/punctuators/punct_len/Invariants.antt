use Rattle.std.proofs.Common.{◌≡◌, ◌-◌, ◌≤◌, ◌<◌, true, length, take}
use Rattle.js_tokens.specs.Scan.{is_punct}
use Rattle.js_tokens.proofs.punctuators.punct_len.Given as goal

abbrev pub invariant-loop-n : goal.invariant-loop-n
invariant-loop-n l = (l.n ≤ length l.s) × (0 < l.n → is_punct (take l.n l.s) ≡ true)

abbrev pub decreases-loop-n : goal.decreases-loop-n
decreases-loop-n l = length l.s - l.n
