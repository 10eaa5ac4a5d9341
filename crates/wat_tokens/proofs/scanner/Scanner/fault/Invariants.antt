use Rattle.std.proofs.Common.{List, length}
use Rattle.wat_lang.specs.Tokens.{Token}
use Rattle.wat_tokens.specs.Left.{IsLeft}
use Rattle.wat_tokens.proofs.GoingOn.{GoesOn}
use Rattle.wat_tokens.proofs.scanner.Scanner.fault.Given as goal

abbrev pub invariant-loop-at : goal.invariant-loop-at
invariant-loop-at l = (so_far : List Token) × GoesOn (IsLeft l.self) so_far l.scanner

abbrev pub decreases-loop-at : goal.decreases-loop-at
decreases-loop-at l = length l.scanner.rest.now
