use Rattle.std.proofs.Common.{◌≤◌, ◌-◌, length, take}
use Rattle.heap_lang.specs.Heap.{with_run}
use Rattle.heap_views.specs.Block.{Becomes}
use Rattle.heap_views.proofs.block.Block.put_by.Given as goal

abbrev pub invariant-loop-done : goal.invariant-loop-done
invariant-loop-done g l = (l.done ≤ length l.bytes) × Becomes l.initial.self l.self (with_run l.at (take l.done l.bytes) l.initial.self.cells.bytes)

abbrev pub decreases-loop-done : goal.decreases-loop-done
decreases-loop-done g l = length l.bytes - l.done
