use Rattle.std.proofs.Common.{◌≤◌, ◌+◌, ◌-◌}
use Rattle.heap_lang.specs.Heap.{copied}
use Rattle.heap_views.specs.Block.{Becomes}
use Rattle.heap_views.proofs.block.Block.copy_down_by.Given as goal

abbrev pub invariant-loop-left : goal.invariant-loop-left
invariant-loop-left g l = (l.left ≤ l.len) × Becomes l.initial.self l.self (copied (l.to + l.left) (l.from + l.left) (l.len - l.left) l.initial.self.cells.bytes)

abbrev pub decreases-loop-left : goal.decreases-loop-left
decreases-loop-left g l = l.left
