use Rattle.std.proofs.Common.{◌≡◌, ◌≤◌, ◌*◌, ◌^◌, length, take}
use Rattle.shared_bytes.specs.Chunks.{joined}
use Rattle.shared_bytes.proofs.sharing.Sharing.length.Given as goal

abbrev pub invariant-loop-place : goal.invariant-loop-place
invariant-loop-place l = record {
  value : l.total ≡ length (joined l.self-inside.chunks.items (take l.place-index l.self-inside.order.items));
  small : l.total ≤ l.place-index * 2 ^ 64;
}
