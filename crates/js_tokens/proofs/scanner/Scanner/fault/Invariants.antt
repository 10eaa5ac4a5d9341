use Rattle.std.proofs.Common.{List, length}
use Rattle.asm_lang_tokens.specs.Text.{PlacedToken}
use Rattle.js_tokens.specs.Left.{IsLeft}
use Rattle.js_tokens.proofs.GoingOn.{GoesOn}
use Rattle.js_tokens.proofs.scanner.Scanner.fault.Given as goal

abbrev pub invariant-loop-fault : goal.invariant-loop-fault
invariant-loop-fault l = (so_far : List PlacedToken) × GoesOn (IsLeft l.self) so_far l.scanner

abbrev pub decreases-loop-fault : goal.decreases-loop-fault
decreases-loop-fault l = length l.scanner.rest.now
