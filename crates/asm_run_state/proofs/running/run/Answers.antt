use Rattle.std.proofs.Common.{◌≡◌, ◌+◌, Some, ap, subst, ◌∙◌}
use Rattle.session_lang.specs.Views.{end_of}
use Rattle.asm_tree.specs.Views.{module_view}
use Rattle.asm_run_steps.specs.States.{state_of}
use Rattle.asm_run_state.specs.declared.host_calls.Hosted.{Hosted}
use Rattle.asm_run_state.specs.Session.{seen_hosted}
use Rattle.asm_run_state.proofs.Numbers.{callee_at}
use Rattle.asm_run_state.proofs.Whole.{seen_from, next_call, all_made}
use Rattle.asm_run_state.proofs.running.run.Goals as goal

pub host_call-requires-clause-callee : goal.host_call-requires-clause-callee
host_call-requires-clause-callee c =
    callee_at (module_view c.args.«module».now) c.args.calls.now c.args.callees.now c.loop-i.i c.index-calls-i.result _ c.requires.callees c.loop-i-test.true c.index-calls-i.is

pub loop-i-preserved : goal.loop-i-preserved
loop-i-preserved c = λ steps o shows.
    let m = module_view c.args.«module».now in
    let machine = c.host_call.new.machine in
    let e = end_of machine.world.ending in
    let shown = next_call m c.args.calls.now c.loop-i.i c.index-calls-i.result (state_of c.loop-i.machine) (state_of machine) c.in_ok-host_call.field-0 e c.loop-i-test.true c.index-calls-i.is c.in_ok-host_call.ensures steps o
    (c.loop-i.invariant steps o shows) in
    subst (λ (h : Hosted). seen_hosted h (seen_from m steps c.args.calls.now (c.loop-i.i + 1)) e (state_of machine) ≡ Some o) c.in-Goes.is shown

pub returns-in-Ends : goal.returns-in-Ends
returns-in-Ends c = λ steps o shows.
    ap Some c.over.ensures ∙ (
    let m = module_view c.args.«module».now in
    let machine = c.host_call.new.machine in
    let e = end_of machine.world.ending in
    let shown = next_call m c.args.calls.now c.loop-i.i c.index-calls-i.result (state_of c.loop-i.machine) (state_of machine) c.in_ok-host_call.field-0 e c.loop-i-test.true c.index-calls-i.is c.in_ok-host_call.ensures steps o
    (c.loop-i.invariant steps o shows) in
    subst (λ (h : Hosted). seen_hosted h (seen_from m steps c.args.calls.now (c.loop-i.i + 1)) e (state_of machine) ≡ Some o) c.in-Ends.is shown)

pub returns-in-Stops : goal.returns-in-Stops
returns-in-Stops c = λ steps o shows.
    ap Some c.stopped.ensures ∙ (
    let m = module_view c.args.«module».now in
    let machine = c.host_call.new.machine in
    let e = end_of machine.world.ending in
    let shown = next_call m c.args.calls.now c.loop-i.i c.index-calls-i.result (state_of c.loop-i.machine) (state_of machine) c.in_ok-host_call.field-0 e c.loop-i-test.true c.index-calls-i.is c.in_ok-host_call.ensures steps o
    (c.loop-i.invariant steps o shows) in
    subst (λ (h : Hosted). seen_hosted h (seen_from m steps c.args.calls.now (c.loop-i.i + 1)) e (state_of machine) ≡ Some o) c.in-Stops.is shown)

pub returns-in-Wrong : goal.returns-in-Wrong
returns-in-Wrong c = λ steps o shows.
    let m = module_view c.args.«module».now in
    let machine = c.host_call.new.machine in
    let e = end_of machine.world.ending in
    let shown = next_call m c.args.calls.now c.loop-i.i c.index-calls-i.result (state_of c.loop-i.machine) (state_of machine) c.in_ok-host_call.field-0 e c.loop-i-test.true c.index-calls-i.is c.in_ok-host_call.ensures steps o
    (c.loop-i.invariant steps o shows) in
    subst (λ (h : Hosted). seen_hosted h (seen_from m steps c.args.calls.now (c.loop-i.i + 1)) e (state_of machine) ≡ Some o) c.in-Wrong.is shown

pub returns : goal.returns
returns c = λ steps o shows.
    ap Some c.finished-seen.ensures
    ∙ all_made (module_view c.args.«module».now) c.args.calls.now c.loop-i.i (state_of c.loop-i.machine) c.loop-i-test.false steps o (c.loop-i.invariant steps o shows)
