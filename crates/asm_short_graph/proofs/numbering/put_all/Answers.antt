use Rattle.std.proofs.Common.{◌-◌, length, arith}
use Rattle.asm_short_graph.proofs.Numbers.{same_within, number_put, numbers_begin, numbers_end}
use Rattle.asm_short_graph.proofs.numbering.put_all.Goals as goal

pub loop-i-init : goal.loop-i-init
loop-i-init c = record {
  within = omega arith;
  put = λ n h. numbers_begin c.args.names.now n _ h;
}

pub loop-i-preserved : goal.loop-i-preserved
loop-i-preserved c =
    let names = c.args.names.now in
    let i = c.loop-i.i in
    let positive = c.loop-i-test.true in
    let within = c.loop-i.invariant.within in
    record {
      within = omega arith;
      put = λ n h. number_put names (i - 1) i _ n _ _ (omega arith) (omega arith) (same_within names (i - 1) _ _ (omega arith)) (c.in_ok-put.ensures n (length names)) (c.loop-i.invariant.put n h);
    }

pub returns : goal.returns
returns c = λ n h. let done = c.loop-i-test.false in numbers_end c.args.names.now c.loop-i.i n _ (omega arith) (c.loop-i.invariant.put n h)
