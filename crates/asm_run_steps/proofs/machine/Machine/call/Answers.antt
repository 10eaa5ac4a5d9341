use Rattle.std.proofs.Common.{◌≡◌, Bool, List, [], sym, ap, ◌∙◌}
use Rattle.asm_run_code.specs.Sessions.{begins}
use Rattle.asm_run_steps.specs.Worlds.{world_of}
use Rattle.asm_run_steps.specs.declared.machine.Caller.{Caller}
use Rattle.asm_run_steps.specs.Linked.{codes_in}
use Rattle.asm_run_steps.specs.States.{callers_of, state_of}
use Rattle.asm_run_steps.specs.Flows.{entered_as}
use Rattle.asm_run_steps.proofs.Led.{goes_on}
use Rattle.asm_run_steps.proofs.Hosted.{words_given, host_begins}
use Rattle.asm_run_steps.proofs.machine.Machine.call.Goals as goal

pub returns : goal.returns
returns c = λ r ended comes.
    let codes = codes_in c.args.linked in
    let s = c.args.self.now in
    let args = c.args.arguments.now in
    let begun = host_begins codes c.args.function s.function s.at (callers_of s.callers.items) (callers_of c.clear-2.new.self.items) s.words c.put_all.new.self (world_of s.world) (world_of c.pay.new.self) args
    c.if-not-pay.ensures.units c.if-not-pay.ensures.others (words_given c.clear.new.self c.put_all.new.self args c.clear.ensures c.in_ok-put_all.ensures) (ap callers_of c.clear-2.ensures.items) in
    let next = state_of c.enter.new.self in
    let entered = sym (ap (λ (b : Bool). entered_as b next) c.if-not-branch.false) ∙ c.in_ok-enter.ensures.entered in
    c.in_ok-ended.ensures r ended (goes_on codes (begins codes c.args.function args (state_of s)) r next (entered ∙ sym begun) comes)
