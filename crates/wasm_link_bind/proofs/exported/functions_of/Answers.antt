use Rattle.std.proofs.Common.{◌-◌, arith}
use Rattle.wasm_link_bind.proofs.Named.{function_put}
use Rattle.wasm_link_bind.proofs.exported.functions_of.Goals as goal

pub loop-i-preserved : goal.loop-i-preserved
loop-i-preserved c =
    let exports = c.args.exports.now in
    let i = c.loop-i.i in
    let positive = c.loop-i-test.true in
    let within = c.loop-i.invariant.within in
    record {
      within = omega arith;
      put = λ n. function_put exports (i - 1) i c.index-exports-i.result n _ _ (omega arith) (omega arith) c.index-exports-i.is (c.in_ok-put.ensures n) (c.loop-i.invariant.put n);
    }
