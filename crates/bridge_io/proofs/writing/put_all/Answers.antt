use Rattle.std.proofs.Common.{ℕ, ◌+◌, ◌-◌, length, take, drop, ap, ◌∙◌, arith, add_assoc, length-drop, length-take}
use Rattle.bridge_io.specs.Outside.{appended}
use Rattle.bridge_io.proofs.Appends.{appended-front}
use Rattle.bridge_io.proofs.writing.put_all.Goals as goal

pub loop-done-preserved : goal.loop-done-preserved
loop-done-preserved g c = record {
  within = omega (arith, c.in_ok-n.ensures.within, length-drop {A = ℕ}, length-take {A = ℕ});
  faults = omega (arith, c.in_ok-n.ensures);
  calls = omega (arith, c.in_ok-n.ensures.calls, c.in_ok-n.ensures.progress (omega (arith, length-drop {A = ℕ}, length-take {A = ℕ})));
  told = c.in_ok-n.ensures.appends
      ∙ (ap (λ told. appended told (take c.in_ok-n.n (take (length c.args.bytes.now - c.loop-done.done) (drop c.loop-done.done c.args.bytes.now)))) c.loop-done.invariant.told
      ∙ appended-front (g.S.Sink.told c.args.sink.now) c.loop-done.done c.in_ok-n.n c.args.bytes.now);
  room = λ more h. c.in_ok-n.ensures.room more (c.loop-done.invariant.room (c.in_ok-n.n + more)
      (rw add_assoc at h));
}
