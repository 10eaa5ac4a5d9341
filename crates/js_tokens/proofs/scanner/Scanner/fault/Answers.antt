use Rattle.std.proofs.Common.{[], ◌∷◌, ◌++◌}
use Rattle.js_tokens.specs.Left.{IsLeft}
use Rattle.js_tokens.specs.Views.{placed_token}
use Rattle.js_tokens.proofs.GoingOn.{one_more}
use Rattle.js_tokens.proofs.scanner.Scanner.fault.Goals as goal

pub loop-fault-preserved : goal.loop-fault-preserved
loop-fault-preserved c =
    let so_far = c.loop-fault.invariant.0 in
    (so_far ++ placed_token c.in-Token.field-0 ∷ [], one_more (IsLeft c.args.self) so_far c.in-Token.field-0 c.loop-fault.scanner c.next.new.self c.loop-fault.invariant.1 c.in-Token.ensures)
