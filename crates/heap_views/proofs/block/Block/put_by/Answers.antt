use Rattle.std.proofs.Common.{◌+◌, ◌≤◌, length, take, drop, ap, ◌∙◌, arith}
use Rattle.heap_lang.specs.Heap.{with_run}
use Rattle.heap_lang.proofs.RunLemmas.{with_run_none}
use Rattle.heap_views.proofs.BlockLemmas.{unchanged, chained, put_by}
use Rattle.heap_views.proofs.block.Block.put_by.Goals as goal

pub loop-done-init : goal.loop-done-init
loop-done-init g c = (omega arith, unchanged c.args.self.now _ c.requires.0 (with_run_none c.args.at c.args.self.now.cells.bytes))

pub loop-done-preserved : goal.loop-done-preserved
loop-done-preserved g c =
    let at = c.args.at in let done = c.loop-done.done in let part = g.row.N in let bytes = c.args.bytes.now in let heap = c.args.self.now.cells.bytes in
    let before = c.loop-done.invariant.1 in
    let fits : done + part ≤ length bytes = omega (arith, c.loop-done.invariant.0) in (
      fits,
      chained c.args.self.now c.loop-done.self c.put_bytes.new.self _ _ _ before c.put_bytes.ensures
          (ap (λ l. with_run (at + done) l c.loop-done.self.cells.bytes) c.bytes_of.ensures ∙ ap (λ m. with_run (at + done) (take part (drop done bytes)) m) before.1 ∙ put_by at done part bytes heap fits c.requires.2),
    )
