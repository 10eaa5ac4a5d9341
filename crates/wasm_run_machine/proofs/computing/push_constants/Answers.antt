use Rattle.std.proofs.Common.{ap, sym, ◌∙◌}
use Rattle.wasm_tree.specs.Views.{instr_of}
use Rattle.wasm_run_frames.specs.Views.{machine_of}
use Rattle.wasm_run_machine.proofs.Plains.{constant_does}
use Rattle.wasm_run_machine.proofs.computing.push_constants.Goals as goal

pub constants-preserved : goal.constants-preserved
constants-preserved c = record {
  shown = λ bodies m n r same s.
      constant_does bodies m (machine_of c.constants.machine) n r c.args.body.now (instr_of c.in-Some.instr.now) c.in-Some-constant_of.word c.push.new.self.values c.push.new.self.below
      (sym c.constant_of.ensures ∙ c.in-Some-constant_of.is) c.in_ok-push.ensures.ok c.push.ensures.below (ap bodies c.constants.invariant.function ∙ same) c.in-Some.ensures (c.constants.invariant.shown bodies m n r same s);
  function = c.constants.invariant.function;
}
