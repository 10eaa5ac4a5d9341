use Rattle.std.proofs.Common.{◌≡◌, ◌≢◌, ◌-◌, Some, length, get_or, ap, subst, ◌∙◌, arith}
use Rattle.std.proofs.lemmas.Option.{slice_get-get_or}
use Rattle.std.proofs.lemmas.Grind.{common_steps}
use Rattle.wasm_lang.specs.Instructions.{return}
use Rattle.wasm_tree.specs.Views.{module_of}
use Rattle.wasm_laws_machine.specs.Meaning.{Runs}
use Rattle.wasm_laws_machine.proofs.Branching.{shows_finished}
use Rattle.wasm_run_frames.specs.declared.machine.Flow.{Flow}
use Rattle.wasm_run_frames.specs.Views.{machine_of}
use Rattle.wasm_run_frames.specs.Flows.{Comes}
use Rattle.wasm_laws_drive.specs.Laws.{run_of}
use Rattle.wasm_run_machine.specs.Functions.{bodies_of}
use Rattle.wasm_run_machine.proofs.Hosts.{enclosed, not_enclosed, has_instructions, has_one, is_spent, pays}
use Rattle.wasm_run_machine.proofs.running.run.Goals as goal

pub returns-then-is_empty : goal.returns-then-is_empty
returns-then-is_empty c = λ r are s.
    let none : length c.steps.machine.enclosing.items ≡ 0 = grind (arith, common_steps) in
    shows_finished (bodies_of c.args.functions.now) (module_of c.args.«module».now) (machine_of c.steps.machine) c.steps.left r (not_enclosed c.steps.machine.enclosing.items none) (c.steps.invariant r are s)

pub returns-in_default : goal.returns-in_default
returns-in_default c = λ r are s.
    let some : length c.steps.machine.enclosing.items ≢ 0 = grind (arith, common_steps) in
    absurd (has_instructions (bodies_of c.args.functions.now) (module_of c.args.«module».now) (machine_of c.steps.machine) c.steps.left r c.in_default.ensures
    (enclosed c.steps.machine.enclosing.items some, c.steps.invariant r are s))

pub returns-then-left-eq0 : goal.returns-then-left-eq0
returns-then-left-eq0 c = λ r are s.
    let some : length c.steps.machine.enclosing.items ≢ 0 = grind (arith, common_steps) in
    let bodies = bodies_of c.args.functions.now in
    let m = module_of c.args.«module».now in
    let v = machine_of c.push_constants.new.machine in
    let same = ap bodies c.push_constants.ensures.function ∙ c.in-Some.ensures in
    let shown : Runs bodies m v c.steps.left r = c.in_ok-push_constants.ensures.shown bodies m c.steps.left r c.in-Some.ensures (enclosed c.steps.machine.enclosing.items some, c.steps.invariant r are s) in
    let body = c.in-Some.body.now in
    let got = slice_get-get_or body v.at return (has_one bodies m v c.steps.left r body same shown) in
    is_spent bodies m v c.steps.left r body (get_or body v.at return) c.if-left-eq0.true same got (c.in_ok-push_constants.ensures.none_left (get_or body v.at return) got) shown

pub steps-preserved : goal.steps-preserved
steps-preserved c = λ r are s.
    let some : length c.steps.machine.enclosing.items ≢ 0 = grind (arith, common_steps) in
    let bodies = bodies_of c.args.functions.now in
    let m = module_of c.args.«module».now in
    let v = machine_of c.push_constants.new.machine in
    let same = ap bodies c.push_constants.ensures.function ∙ c.in-Some.ensures in
    let shown : Runs bodies m v c.steps.left r = c.in_ok-push_constants.ensures.shown bodies m c.steps.left r c.in-Some.ensures (enclosed c.steps.machine.enclosing.items some, c.steps.invariant r are s) in
    let body = c.in-Some.body.now in
    let got = slice_get-get_or body v.at return (has_one bodies m v c.steps.left r body same shown) in
    let i = get_or body v.at return in
    let comes : Comes bodies m c.in_ok-step.field-0 c.step.new.machine (c.steps.left - 1) r =
    c.in_ok-step.ensures i are (c.in_ok-push_constants.ensures.none_left i got) (c.steps.left - 1) r same got (pays bodies m v c.steps.left r c.if-left-eq0.false shown) in
    subst (λ (f : Flow). Comes bodies m f c.step.new.machine (c.steps.left - 1) r) c.in-On.is comes

pub returns-in-Over : goal.returns-in-Over
returns-in-Over c = λ r are s.
    let some : length c.steps.machine.enclosing.items ≢ 0 = grind (arith, common_steps) in
    let bodies = bodies_of c.args.functions.now in
    let m = module_of c.args.«module».now in
    let v = machine_of c.push_constants.new.machine in
    let same = ap bodies c.push_constants.ensures.function ∙ c.in-Some.ensures in
    let shown : Runs bodies m v c.steps.left r = c.in_ok-push_constants.ensures.shown bodies m c.steps.left r c.in-Some.ensures (enclosed c.steps.machine.enclosing.items some, c.steps.invariant r are s) in
    let body = c.in-Some.body.now in
    let got = slice_get-get_or body v.at return (has_one bodies m v c.steps.left r body same shown) in
    let i = get_or body v.at return in
    let comes : Comes bodies m c.in_ok-step.field-0 c.step.new.machine (c.steps.left - 1) r =
    c.in_ok-step.ensures i are (c.in_ok-push_constants.ensures.none_left i got) (c.steps.left - 1) r same got (pays bodies m v c.steps.left r c.if-left-eq0.false shown) in
    c.over.ensures bodies m (c.steps.left - 1) r (subst (λ (f : Flow). Comes bodies m f c.step.new.machine (c.steps.left - 1) r) c.in-Over.is comes)

pub returns-in-Stuck : goal.returns-in-Stuck
returns-in-Stuck c = λ r are s.
    let some : length c.steps.machine.enclosing.items ≢ 0 = grind (arith, common_steps) in
    let bodies = bodies_of c.args.functions.now in
    let m = module_of c.args.«module».now in
    let v = machine_of c.push_constants.new.machine in
    let same = ap bodies c.push_constants.ensures.function ∙ c.in-Some.ensures in
    let shown : Runs bodies m v c.steps.left r = c.in_ok-push_constants.ensures.shown bodies m c.steps.left r c.in-Some.ensures (enclosed c.steps.machine.enclosing.items some, c.steps.invariant r are s) in
    let body = c.in-Some.body.now in
    let got = slice_get-get_or body v.at return (has_one bodies m v c.steps.left r body same shown) in
    let i = get_or body v.at return in
    let comes : Comes bodies m c.in_ok-step.field-0 c.step.new.machine (c.steps.left - 1) r =
    c.in_ok-step.ensures i are (c.in_ok-push_constants.ensures.none_left i got) (c.steps.left - 1) r same got (pays bodies m v c.steps.left r c.if-left-eq0.false shown) in
    ap run_of (subst (λ (f : Flow). Comes bodies m f c.step.new.machine (c.steps.left - 1) r) c.in-Stuck.is comes)
