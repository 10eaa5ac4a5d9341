use Rattle.std.proofs.Common.{◌-◌, length, refl, arith}
use Rattle.asm2wasm_numbers.proofs.Counted.{number_put}
use Rattle.asm2wasm_numbers.proofs.calls.put_calls.Goals as goal

pub loop-i-preserved : goal.loop-i-preserved
loop-i-preserved c =
    let i = c.loop-i.i in
    let positive = c.loop-i-test.true in
    let within = c.loop-i.invariant.within in
    record {
      within = omega arith;
      put = λ f h. number_put c.args.calls.now (i - 1) i _ _ f _ _ (omega arith) (omega arith) refl (c.in_ok-put.ensures f (length c.args.calls.now)) (c.loop-i.invariant.put f h);
    }
