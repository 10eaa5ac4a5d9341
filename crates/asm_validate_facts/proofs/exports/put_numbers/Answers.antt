use Rattle.std.proofs.Common.{◌-◌, length, arith}
use Rattle.asm_validate_facts.proofs.Counting.{number_put}
use Rattle.asm_validate_facts.proofs.exports.put_numbers.Goals as goal

pub loop-i-preserved : goal.loop-i-preserved
loop-i-preserved c =
    let i = c.loop-i.i in
    let positive = c.loop-i-test.true in
    let within = c.loop-i.invariant.within in
    record {
      within = omega arith;
      put = λ n h. number_put c.args.functions.now (i - 1) i _ n _ _ (omega arith) (omega arith) c.index-functions-i.is (c.in_ok-put.ensures n (length c.args.functions.now)) (c.loop-i.invariant.put n h);
    }
