use Rattle.asm_run_emit_bodies.proofs.Places.{own_some, closed_made}
use Rattle.asm_run_emit_bodies.proofs.targets.Targets.close_one.Goals as goal

pub restore-requires : goal.restore-requires
restore-requires c = own_some c.self.inside.innermost c.self.inside.innermost c.in-Some.last c.self.inside.opened.items c.pop.new.self.items c.pop.result c.pop.ensures.items c.in-Some.is c.self.invariant

pub invariant_of-self : goal.invariant_of-self
invariant_of-self c = closed_made c.self.inside.innermost c.restore.new.innermost c.in-Some.last c.self.inside.opened.items c.pop.new.self.items c.pop.result c.pop.ensures.items c.in-Some.is c.self.invariant c.restore.ensures
