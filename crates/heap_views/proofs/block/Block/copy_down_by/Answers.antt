use Rattle.std.proofs.Common.{◌≡◌, ◌+◌, ◌-◌, ◌≤◌, length, take, drop, ap, ◌∙◌, arith}
use Rattle.heap_lang.specs.Heap.{with_run, copied}
use Rattle.heap_lang.proofs.RunLemmas.{copied_none}
use Rattle.heap_views.proofs.BlockLemmas.{unchanged, chained, copied_down_by}
use Rattle.heap_views.proofs.block.Block.copy_down_by.Goals as goal

pub loop-left-init : goal.loop-left-init
loop-left-init g c =
    let to = c.args.to in let from = c.args.from in let len = c.args.len in let heap = c.args.self.now.cells.bytes in
    let none : len - len ≡ 0 = omega arith in
    (omega arith, unchanged c.args.self.now _ c.requires.0 (ap (λ k. copied (to + len) (from + len) k heap) none ∙ copied_none (to + len) (from + len) heap))

pub loop-left-preserved : goal.loop-left-preserved
loop-left-preserved g c =
    let to = c.args.to in let from = c.args.from in let len = c.args.len in let part = g.row.N in let heap = c.args.self.now.cells.bytes in
    let before = c.loop-left.invariant.1 in let was = c.loop-left.left in let left = was - part in
    let few : part ≤ was = omega arith in let within : was ≤ len = c.loop-left.invariant.0 in
    let back : was ≡ left + part = omega (arith, few) in
    let more : part + (len - was) ≡ len - left = omega (arith, few, within) in
    let fits : to + (left + part + (len - was)) ≤ length heap = omega (arith, few, within, c.requires.3) in (
      omega (arith, within),
      chained c.args.self.now c.loop-left.self c.copy_bytes.new.self _ _ _ before c.copy_bytes.ensures
          (ap (λ m. with_run (to + left) (take part (drop (from + left) m)) m) (before.1 ∙ ap (λ k. copied (to + k) (from + k) (len - was) heap) back)
          ∙ copied_down_by to from left part (len - was) heap c.requires.2 fits ∙ ap (λ k. copied (to + left) (from + left) k heap) more),
    )
