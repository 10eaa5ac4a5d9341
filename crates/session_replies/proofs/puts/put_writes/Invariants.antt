use Rattle.std.proofs.Common.{◌≡◌, drop, map}
use Rattle.session_lang.specs.Views.{write_of}
use Rattle.session_replies.specs.Puts.{after_puts}
use Rattle.session_replies.proofs.puts.put_writes.Given as goal

-- the writes that are left make of the heap what all of them make of the first one
abbrev pub invariant-loop-write : goal.invariant-loop-write
invariant-loop-write l = after_puts (map write_of (drop l.write-index l.writes)) l.heap ≡ after_puts (map write_of l.writes) l.initial.heap
