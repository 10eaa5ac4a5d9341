use Rattle.std.proofs.Common.{◌≤◌, ◌-◌}
use Rattle.heap_lang.specs.Heap.{copied}
use Rattle.heap_views.specs.Block.{Becomes}
use Rattle.heap_views.proofs.block.Block.copy_up_by.Given as goal

abbrev pub invariant-loop-done : goal.invariant-loop-done
invariant-loop-done g l = (l.done ≤ l.len) × Becomes l.initial.self l.self (copied l.to l.from l.done l.initial.self.cells.bytes)

abbrev pub decreases-loop-done : goal.decreases-loop-done
decreases-loop-done g l = l.len - l.done
