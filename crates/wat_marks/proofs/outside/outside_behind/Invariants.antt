use Rattle.std.proofs.Common.{◌≡◌, List, length}
use Rattle.wat_lang.specs.Tokens.{Token}
use Rattle.wat_lang.specs.Texts.{outside_at}
use Rattle.wat_tokens.specs.Left.{IsLeft}
use Rattle.wat_tokens.proofs.GoingOn.{GoesOn}
use Rattle.wat_marks.proofs.outside.outside_behind.Given as goal

abbrev pub invariant-loop-token : goal.invariant-loop-token
invariant-loop-token l = (so_far : List Token) × GoesOn (IsLeft l.from) so_far l.scanner × (l.found ≡ outside_at so_far)

abbrev pub decreases-loop-token : goal.decreases-loop-token
decreases-loop-token l = length l.scanner.rest.now
