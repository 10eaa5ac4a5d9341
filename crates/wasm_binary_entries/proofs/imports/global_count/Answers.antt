use Rattle.std.proofs.Common.{arith}
use Rattle.wasm_binary_entries.proofs.ImportsInRow.{global_count_step}
use Rattle.wasm_binary_entries.proofs.imports.global_count.Goals as goal

pub loop-import-preserved : goal.loop-import-preserved
loop-import-preserved c = record {
  small = omega (arith, c.globals_in-n.ensures.one, c.loop-import.invariant.small);
  count = global_count_step c.args.imports.now c.loop-import.import-index c.import-item.result c.loop-import.n c.globals_in-n.result c.loop-import-test.true c.import-item.is c.loop-import.invariant.count c.globals_in-n.ensures.count;
}
