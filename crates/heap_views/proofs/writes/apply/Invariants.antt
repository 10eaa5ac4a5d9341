use Rattle.std.proofs.Common.{◌≡◌, drop}
use Rattle.heap_views.specs.Writes.{after_writes}
use Rattle.heap_views.proofs.writes.apply.Given as goal

-- the writes that are left make of the heap what all of them make of the first one
abbrev pub invariant-loop-write : goal.invariant-loop-write
invariant-loop-write l = after_writes (drop l.write-index l.writes) l.heap ≡ after_writes l.writes l.initial.heap
