use Rattle.std.proofs.Common.{arith}
use Rattle.asm_run_emit_bodies.proofs.Places.{opened_made}
use Rattle.asm_run_emit_bodies.proofs.targets.Targets.open.Goals as goal

pub invariant_of-self-2 : goal.invariant_of-self-2
invariant_of-self-2 c =
    let room = c.in_ok-reserve.ensures.ok in
    opened_made c.self.inside.innermost c.insert.new.self (record { label = c.args.label; at = c.args.at; before = c.in_ok-before.before }) c.self.inside.opened.items c.push.new.self.items c.push.result c.reserve.new.self.items c.key_of.result
    c.in_ok-reserve.ensures.items (c.push.ensures.succeeds (omega arith)) c.push.ensures.items c.key_of.ensures c.in_ok-before.ensures.updates.0 c.in_ok-before.ensures.old c.self.invariant
