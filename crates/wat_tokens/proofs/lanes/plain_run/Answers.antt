use Rattle.std.proofs.Common.{refl, arith}
use Rattle.std.proofs.lemmas.Simd.{zip2_splat, length-chunk}
use lib.Lanes.{chunk}
use Rattle.wat_tokens.specs.Fronts.{is_plain}
use Rattle.wat_tokens.proofs.LaneRuns.{joined, run_in}
use Rattle.wat_tokens.proofs.lanes.plain_run.Goals as goal

pub returns : goal.returns
returns c =
    let v = chunk c.args.at 16 c.args.s.now in
    let long = length-chunk c.args.at 16 c.args.s.now c.requires in
    run_in is_plain c.args.s.now c.args.at 16 _ _ c.requires (omega arith) c.type_inv.s c.first_set.ensures _
    (joined _ _ _ v
    (joined _ _ _ v (zip2_splat _ v 16 32 long) (zip2_splat _ v 16 127 long))
    (joined _ _ _ v (zip2_splat _ v 16 34 long) (zip2_splat _ v 16 92 long))) refl
