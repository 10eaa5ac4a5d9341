use Rattle.std.proofs.Common.{◌-◌, arith}
use Rattle.name_slots.proofs.Named.{same_within, slot_put}
use Rattle.name_slots.proofs.slots.slots_of.Goals as goal

pub loop-i-preserved : goal.loop-i-preserved
loop-i-preserved c =
    let names = c.args.names.now in
    let i = c.loop-i.i in
    let positive = c.loop-i-test.true in
    let within = c.loop-i.invariant.within in
    record {
      within = omega arith;
      put = λ n. slot_put names (i - 1) i _ n _ _ (omega arith) (omega arith) (same_within names (i - 1) _ _ (omega arith)) (c.in_ok-put.ensures n) (c.loop-i.invariant.put n);
    }
