use Rattle.std.proofs.Common.{◌-◌, arith}
use Rattle.asm_names.proofs.Put.{param_put}
use Rattle.asm_names.proofs.declared.put_params.Goals as goal

pub loop-i-preserved : goal.loop-i-preserved
loop-i-preserved c =
    let i = c.loop-i.i in
    let positive = c.loop-i-test.true in
    let within = c.loop-i.invariant.within in
    record {
      within = omega arith;
      put = λ n. param_put c.args.params.now (i - 1) i _ n _ _ _ (omega arith) (omega arith) c.index-params-i.is (c.in_ok-put.ensures.known n) (c.loop-i.invariant.put n);
      numbered = λ m h. c.in_ok-put.ensures.numbered m (c.loop-i.invariant.numbered m h) tt;
    }
