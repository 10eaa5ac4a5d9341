use Rattle.std.proofs.Common.{◌≡◌, take, map}
use Rattle.session_lang.specs.Views.{write_of}
use Rattle.session_lang.proofs.splitting.copy_writes.Given as goal

abbrev pub invariant-loop-write : goal.invariant-loop-write
invariant-loop-write l = map write_of l.copies.items ≡ map write_of (take l.write-index l.writes)
