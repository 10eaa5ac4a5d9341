use Rattle.std.proofs.Common.{◌≡◌, suc, ◌-◌, ◌<◌, length, refl, subst, arith}
use Rattle.std.proofs.lemmas.Option.{slice_get_read, slice_get_past}
use Rattle.session_lang.specs.Views.{end_of}
use Rattle.asm_run_steps.specs.Worlds.{world_of}
use Rattle.asm_run_steps.specs.declared.flow.Flow.{Flow}
use Rattle.asm_run_steps.specs.Linked.{codes_in}
use Rattle.asm_run_steps.specs.States.{state_in}
use Rattle.asm_run_steps.specs.Flows.{came_of, Falls}
use Rattle.asm_run_steps.specs.Runs.{Comes}
use Rattle.asm_run_steps.proofs.Led.{goes_through, is_lost_past, is_lost_at_end, units_fall}
use Rattle.asm_run_steps.proofs.bodies.run_ops.Goals as goal

pub returns-in_default-clause-shown : goal.returns-in_default-clause-shown
returns-in_default-clause-shown c = λ function callers f r found is ended leads.
    let next = c.operations.at - 1 in
    let here : c.operations.at ≡ suc next = omega arith in
    is_lost_past (codes_in c.args.linked) f c.args.code.now function c.operations.at next callers c.operations.words (world_of c.operations.world) r found is here
    (slice_get_past c.args.code.now next c.in_default.ensures.lookup.3) ended (c.operations.invariant.shown function callers f r found is ended leads)

pub operations-preserved : goal.operations-preserved
operations-preserved c = record {
  shown = λ function callers f r found is ended leads.
      let codes = codes_in c.args.linked in
      let code = c.args.code.now in
      let next = c.operations.at - 1 in
      let here : c.operations.at ≡ suc next = omega arith in
      let got = slice_get_read code (length code) next c.in-Some.op.now refl c.in-Some.ensures.lookup.3.0 c.in-Some.ensures.lookup.1 in
      let e = end_of c.step.new.world.ending in
      let comes = goes_through codes f code function c.operations.at next callers c.operations.words c.step.new.words (world_of c.operations.world) (world_of c.step.new.world)
      c.in-Some.op.now c.in_ok-next.field-0 e r found is here got ended (c.in_ok-next.ensures.shown function callers) (c.operations.invariant.shown function callers f r found is ended leads) in
      subst (λ (x : Flow). Comes codes (came_of codes x e (state_in function next callers c.step.new.words (world_of c.step.new.world))) r) c.in-On.is comes;
  units =
      let few : c.operations.at < 4294967296 = omega arith in
      units_fall c.operations.at c.in-On.next c.operations.world.units c.step.new.world.units c.args.world.now.units few
      (subst (λ (x : Flow). Falls (c.operations.at - 1) x c.operations.world.units c.step.new.world.units) c.in-On.is c.in_ok-next.ensures.falls) c.operations.invariant.units;
}

pub returns-in-Off-clause-shown : goal.returns-in-Off-clause-shown
returns-in-Off-clause-shown c = λ function callers f r found is ended leads.
    let codes = codes_in c.args.linked in
    let code = c.args.code.now in
    let next = c.operations.at - 1 in
    let here : c.operations.at ≡ suc next = omega arith in
    let got = slice_get_read code (length code) next c.in-Some.op.now refl c.in-Some.ensures.lookup.3.0 c.in-Some.ensures.lookup.1 in
    let e = end_of c.step.new.world.ending in
    let comes = goes_through codes f code function c.operations.at next callers c.operations.words c.step.new.words (world_of c.operations.world) (world_of c.step.new.world)
    c.in-Some.op.now c.in_ok-next.field-0 e r found is here got ended (c.in_ok-next.ensures.shown function callers) (c.operations.invariant.shown function callers f r found is ended leads) in
    subst (λ (x : Flow). Comes codes (came_of codes x e (state_in function next callers c.step.new.words (world_of c.step.new.world))) r) c.in-Off.is comes

pub returns-clause-shown : goal.returns-clause-shown
returns-clause-shown c = λ function callers f r found is ended leads.
    let here : c.operations.at ≡ 0 = omega arith in
    is_lost_at_end (codes_in c.args.linked) f function c.operations.at callers c.operations.words (world_of c.operations.world) r found here ended
    (c.operations.invariant.shown function callers f r found is ended leads)
