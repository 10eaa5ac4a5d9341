use Rattle.std.proofs.Common.{◌-◌, arith}
use Rattle.sem_words.specs.Lists.{text_bytes}
use Rattle.wasm_run.proofs.GlobalKinds.{kind_put}
use Rattle.wasm_run.proofs.imported.kinds_of.Goals as goal

pub loop-i-preserved : goal.loop-i-preserved
loop-i-preserved c =
    let i = c.loop-i.i in
    let positive = c.loop-i-test.true in
    let within = c.loop-i.invariant.within in
    record {
      within = omega arith;
      put = λ n. kind_put c.args.globals.now (i - 1) i _ n _ _ _ (omega arith) (omega arith) c.index-globals-i.is (c.in_ok-put.ensures n) (c.loop-i.invariant.put n) (c.loop-i.invariant.put (text_bytes c.index-globals-i.result.name));
    }
