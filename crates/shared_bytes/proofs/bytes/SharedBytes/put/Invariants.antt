use Rattle.std.proofs.Common.{◌≡◌, ℕ, ◌≤◌, take}
use Rattle.bridge_io.specs.Outside.{appended}
use Rattle.shared_bytes.specs.Chunks.{joined}
use Rattle.shared_bytes.proofs.bytes.SharedBytes.put.Given as goal

abbrev pub invariant-loop-place : goal.invariant-loop-place
invariant-loop-place g l = record {
  takes : (n : ℕ) → g.S.Sink.takes l.sink n;
  faults : g.S.Sink.faults l.initial.sink ≤ g.S.Sink.faults l.sink;
  told : g.S.Sink.told l.sink ≡ appended (g.S.Sink.told l.initial.sink) (joined l.self-inside.chunks.items (take l.place-index l.self-inside.order.items));
}
