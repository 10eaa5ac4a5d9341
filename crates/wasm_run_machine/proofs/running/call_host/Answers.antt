use Rattle.std.proofs.Common.{◌-◌, [], reverse, refl, subst}
use Rattle.wasm_tree.specs.Views.{module_of}
use Rattle.wasm_lang_exec.specs.Code.{ε}
use Rattle.wasm_lang_exec.specs.Reductions.{callee_at}
use Rattle.wasm_lang_exec.specs.Session.{run_call}
use Rattle.wasm_laws_drive.specs.Drive.{Stuck}
use Rattle.wasm_laws_drive.specs.Steps.{in_call}
use Rattle.wasm_laws_machine.specs.Machine.{state_of}
use Rattle.wasm_run_frames.specs.declared.machine.Flow.{Flow}
use Rattle.wasm_run_frames.specs.Views.{machine_of}
use Rattle.wasm_run_frames.specs.Flows.{Comes}
use Rattle.wasm_run_machine.specs.Functions.{bodies_of}
use Rattle.wasm_run_machine.proofs.Hosts.{host_calls, as_run, came_as}
use Rattle.wasm_run_machine.proofs.running.call_host.Goals as goal

pub returns-in_ok-ran-in-On : goal.returns-in_ok-ran-in-On
returns-in_ok-ran-in-On c = λ are es ls.
    let bodies = bodies_of c.args.functions.now in
    let m = module_of c.args.«module».now in
    let v = machine_of c.args.machine.now in
    let o = in_call m [] (callee_at m c.args.function) ε (state_of v (c.args.steps - 1)) in
    let comes : Comes bodies m c.in_ok-call.field-0 c.call.new.machine (c.args.steps - 1) o = c.in_ok-call.ensures (c.args.steps - 1) o are (host_calls bodies m v (c.args.steps - 1) c.args.function es) in
    came_as m c.in_ok-ran-in-On.ran (machine_of c.run.new.machine) o (run_call m c.args.steps c.args.function (reverse v.values) v.store)
    (as_run m v c.args.steps c.args.function o c.if-steps-eq0.false ls refl)
    (c.in_ok-ran-in-On.ensures o are (subst (λ (f : Flow). Comes bodies m f c.call.new.machine (c.args.steps - 1) o) c.in-On.is comes))

pub returns-in-Over : goal.returns-in-Over
returns-in-Over c = λ are es ls.
    let bodies = bodies_of c.args.functions.now in
    let m = module_of c.args.«module».now in
    let v = machine_of c.args.machine.now in
    let o = in_call m [] (callee_at m c.args.function) ε (state_of v (c.args.steps - 1)) in
    let comes : Comes bodies m c.in_ok-call.field-0 c.call.new.machine (c.args.steps - 1) o = c.in_ok-call.ensures (c.args.steps - 1) o are (host_calls bodies m v (c.args.steps - 1) c.args.function es) in
    came_as m c.over.result (machine_of c.over.new.machine) o (run_call m c.args.steps c.args.function (reverse v.values) v.store)
    (as_run m v c.args.steps c.args.function o c.if-steps-eq0.false ls refl)
    (c.over.ensures bodies m (c.args.steps - 1) o (subst (λ (f : Flow). Comes bodies m f c.call.new.machine (c.args.steps - 1) o) c.in-Over.is comes))

pub returns-in-Stuck : goal.returns-in-Stuck
returns-in-Stuck c = λ are es ls.
    let bodies = bodies_of c.args.functions.now in
    let m = module_of c.args.«module».now in
    let v = machine_of c.args.machine.now in
    let w = machine_of c.call.new.machine in
    let o = in_call m [] (callee_at m c.args.function) ε (state_of v (c.args.steps - 1)) in
    let comes : Comes bodies m c.in_ok-call.field-0 c.call.new.machine (c.args.steps - 1) o = c.in_ok-call.ensures (c.args.steps - 1) o are (host_calls bodies m v (c.args.steps - 1) c.args.function es) in
    as_run m v c.args.steps c.args.function (Stuck w.store) c.if-steps-eq0.false ls
    (subst (λ (f : Flow). Comes bodies m f c.call.new.machine (c.args.steps - 1) o) c.in-Stuck.is comes)
