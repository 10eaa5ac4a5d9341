use Rattle.std.proofs.Common.{◌≡◌, ◌+◌, ◌-◌, ◌≤◌, length, drop}
use Rattle.wat_tokens.proofs.GoingOn.{Passed}
use Rattle.wat_tokens.proofs.scanner.Scanner.next_behind.Given as goal

abbrev pub invariant-loop-n : goal.invariant-loop-n
invariant-loop-n l = (l.self ≡ l.fn.self) × (l.n ≤ length l.self.rest.now) × Passed l.self (l.self.at + l.n) (drop l.n l.self.rest.now)

abbrev pub decreases-loop-n : goal.decreases-loop-n
decreases-loop-n l = length l.self.rest.now - l.n
