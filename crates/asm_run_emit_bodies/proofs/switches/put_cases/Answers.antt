use Rattle.std.proofs.Common.{◌-◌, arith}
use Rattle.asm_run_emit_bodies.proofs.Cases.{case_turn}
use Rattle.asm_run_emit_bodies.proofs.switches.put_cases.Goals as goal

pub loop-i-preserved : goal.loop-i-preserved
loop-i-preserved c =
    let long = c.requires in
    record {
      within = omega arith;
      made = case_turn c.args.slot c.args.clauses.now c.args.starts.now (c.loop-i.i - 1) c.loop-i.i c.index-clauses-i.result c.get.result c.args.output.now c.loop-i.output c.put_case.new.output (omega arith) (omega arith) c.requires c.index-clauses-i.is c.get.ensures c.loop-i.invariant.made c.in_ok-put_case.ensures;
    }
