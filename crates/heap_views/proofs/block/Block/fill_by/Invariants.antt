use Rattle.std.proofs.Common.{◌≤◌, ◌-◌}
use Rattle.heap_lang.specs.Heap.{filled}
use Rattle.heap_views.specs.Block.{Becomes}
use Rattle.heap_views.proofs.block.Block.fill_by.Given as goal

abbrev pub invariant-loop-done : goal.invariant-loop-done
invariant-loop-done g l = (l.done ≤ l.len) × Becomes l.initial.self l.self (filled l.at l.done l.byte l.initial.self.cells.bytes)

abbrev pub decreases-loop-done : goal.decreases-loop-done
decreases-loop-done g l = l.len - l.done
