use Rattle.std.proofs.Common.{◌≡◌, ◌+◌, ◌-◌, replicate}
use Rattle.heap_views.proofs.block.write_zeros.Given as goal

abbrev pub invariant-loop-at : goal.invariant-loop-at
invariant-loop-at l = (l.cells.at ≡ l.initial.cells.at) × (l.cells.bytes ≡ replicate l.at 0) × (l.at + l.cells.spare ≡ l.len)

abbrev pub decreases-loop-at : goal.decreases-loop-at
decreases-loop-at l = l.len - l.at
