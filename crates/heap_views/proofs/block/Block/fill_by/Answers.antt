use Rattle.std.proofs.Common.{◌+◌, ◌≤◌, replicate, ap, ◌∙◌, arith}
use Rattle.heap_lang.specs.Heap.{with_run}
use Rattle.heap_lang.proofs.RunLemmas.{filled_none}
use Rattle.heap_views.proofs.BlockLemmas.{unchanged, chained, filled_by}
use Rattle.heap_views.proofs.block.Block.fill_by.Goals as goal

pub loop-done-init : goal.loop-done-init
loop-done-init g c = (omega arith, unchanged c.args.self.now _ c.requires.0 (filled_none c.args.at c.args.byte c.args.self.now.cells.bytes))

pub loop-done-preserved : goal.loop-done-preserved
loop-done-preserved g c =
    let at = c.args.at in let done = c.loop-done.done in let part = g.row.N in let byte = c.args.byte in let heap = c.args.self.now.cells.bytes in
    let before = c.loop-done.invariant.1 in
    let fits : done + part ≤ c.args.len = omega (arith, c.loop-done.invariant.0) in (
      fits,
      chained c.args.self.now c.loop-done.self c.put_bytes.new.self _ _ _ before c.put_bytes.ensures
          (ap (λ m. with_run (at + done) (replicate part byte) m) before.1 ∙ filled_by at done part byte heap (omega (arith, fits, c.requires.2))),
    )
