use Rattle.std.proofs.Common.{◌-◌, length, arith}
use Rattle.asm_names.proofs.Numbered.{import_put, imports_begin}
use Rattle.asm_names.proofs.imports.put_imports.Goals as goal

pub loop-i-init : goal.loop-i-init
loop-i-init c = record {
  within = omega arith;
  put = λ n h. imports_begin c.args.globals.now n _ h;
}

pub loop-i-preserved : goal.loop-i-preserved
loop-i-preserved c =
    let i = c.loop-i.i in
    let positive = c.loop-i-test.true in
    let within = c.loop-i.invariant.within in
    record {
      within = omega arith;
      put = λ n h. import_put c.args.globals.now (i - 1) i c.index-globals-i.result n _ _ (omega arith) (omega arith) c.index-globals-i.is (c.in_ok-put_import.ensures n (length c.args.globals.now)) (c.loop-i.invariant.put n h);
    }
