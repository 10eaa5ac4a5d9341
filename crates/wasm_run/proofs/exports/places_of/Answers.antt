use Rattle.std.proofs.Common.{◌-◌, arith}
use Rattle.wasm_run.proofs.ExportNames.{export_put}
use Rattle.wasm_run.proofs.exports.places_of.Goals as goal

pub loop-i-preserved : goal.loop-i-preserved
loop-i-preserved c =
    let i = c.loop-i.i in
    let export = c.index-exports-i.result in
    let positive = c.loop-i-test.true in
    let within = c.loop-i.invariant.within in
    record {
      within = omega arith;
      put = λ n.
          export_put c.args.exports.now (i - 1) i export n _ _ (omega arith) (omega arith) c.index-exports-i.is
          (c.in_ok-put.ensures n) (c.loop-i.invariant.put n);
    }
