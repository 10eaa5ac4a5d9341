use Rattle.std.proofs.Common.{◌+◌, ◌≤◌, take, drop, ap, ◌∙◌, arith}
use Rattle.heap_lang.specs.Heap.{with_run}
use Rattle.heap_lang.proofs.RunLemmas.{copied_none}
use Rattle.heap_views.proofs.BlockLemmas.{unchanged, chained, copied_up_by}
use Rattle.heap_views.proofs.block.Block.copy_up_by.Goals as goal

pub loop-done-init : goal.loop-done-init
loop-done-init g c = (omega arith, unchanged c.args.self.now _ c.requires.0 (copied_none c.args.to c.args.from c.args.self.now.cells.bytes))

pub loop-done-preserved : goal.loop-done-preserved
loop-done-preserved g c =
    let to = c.args.to in let from = c.args.from in let done = c.loop-done.done in let part = g.row.N in let heap = c.args.self.now.cells.bytes in
    let before = c.loop-done.invariant.1 in
    let fits : done + part ≤ c.args.len = omega (arith, c.loop-done.invariant.0) in (
      fits,
      chained c.args.self.now c.loop-done.self c.copy_bytes.new.self _ _ _ before c.copy_bytes.ensures
          (ap (λ m. with_run (to + done) (take part (drop (from + done) m)) m) before.1 ∙ copied_up_by to from done part heap c.requires.2 (omega (arith, fits, c.requires.3))),
    )
