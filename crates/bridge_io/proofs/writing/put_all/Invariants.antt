use Rattle.std.proofs.Common.{length, ◌-◌, ◌≡◌, ℕ, ◌+◌, ◌≤◌, take}
use Rattle.bridge_io.specs.Outside.{appended}
use Rattle.bridge_io.proofs.writing.put_all.Given as goal

abbrev pub invariant-loop-done : goal.invariant-loop-done
invariant-loop-done g l = record {
  within : l.done ≤ length l.bytes;
  faults : g.S.Sink.faults l.initial.sink ≤ g.S.Sink.faults l.sink;
  calls : g.S.Sink.calls l.sink ≤ g.S.Sink.calls l.initial.sink + l.done;
  told : g.S.Sink.told l.sink ≡ appended (g.S.Sink.told l.initial.sink) (take l.done l.bytes);
  room : (more : ℕ) → g.S.Sink.takes l.initial.sink (l.done + more) → g.S.Sink.takes l.sink more;
}

abbrev pub decreases-loop-done : goal.decreases-loop-done
decreases-loop-done g l = length l.bytes - l.done
