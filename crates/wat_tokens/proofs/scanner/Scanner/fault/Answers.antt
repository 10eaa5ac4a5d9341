use Rattle.std.proofs.Common.{[], ◌∷◌, ◌++◌}
use Rattle.wat_tokens.specs.Left.{IsLeft}
use Rattle.wat_tokens.specs.Views.{token_of}
use Rattle.wat_tokens.proofs.GoingOn.{one_more}
use Rattle.wat_tokens.proofs.scanner.Scanner.fault.Goals as goal

pub loop-at-preserved : goal.loop-at-preserved
loop-at-preserved c =
    let so_far = c.loop-at.invariant.0 in
    (so_far ++ token_of c.in-Token.field-0 ∷ [], one_more (IsLeft c.args.self) so_far c.in-Token.field-0 c.loop-at.scanner c.next.new.self c.loop-at.invariant.1 c.in-Token.ensures)
