use Rattle.std.proofs.Common.{Some, ap, ◌∙◌}
use Rattle.wasm_tree.specs.Views.{instr_of, module_of}
use Rattle.wasm_run_frames.specs.Views.{machine_of}
use Rattle.wasm_run_machine.specs.Functions.{bodies_of}
use Rattle.wasm_run_machine.proofs.Done.{unreachable_does}
use Rattle.wasm_run_machine.proofs.Plains.{free_is_not}
use Rattle.wasm_run_machine.proofs.steps.step.Goals as goal

pub returns-in-Constant : goal.returns-in-Constant
returns-in-Constant c = λ i are free n r same got s. absurd (free_is_not c.args.body.now c.args.machine.now.at i (instr_of c.in-Some.instr.now) c.in-Some.ensures got free c.in-Constant.ensures)

pub returns-in-Unreachable : goal.returns-in-Unreachable
returns-in-Unreachable c = λ i are free n r same got s.
    unreachable_does (bodies_of c.args.functions.now) (module_of c.args.«module».now) (machine_of c.args.machine.now) n r c.args.body.now same (c.in-Some.ensures ∙ ap Some c.in-Unreachable.ensures) s

pub returns-in_ok-plain-in-Plain : goal.returns-in_ok-plain-in-Plain
returns-in_ok-plain-in-Plain c = λ i are free n r same got s. c.in_ok-plain-in-Plain.ensures (bodies_of c.args.functions.now) (module_of c.args.«module».now) n r same c.in-Some.ensures s

pub returns-in_ok-open_block-in-Block : goal.returns-in_ok-open_block-in-Block
returns-in_ok-open_block-in-Block c = λ i are free n r same got s.
    c.in_ok-open_block-in-Block.ensures (bodies_of c.args.functions.now) (module_of c.args.«module».now) n r same (c.in-Some.ensures ∙ ap Some c.in-Block.ensures) s

pub returns-in_ok-open_loop-in-Loop : goal.returns-in_ok-open_loop-in-Loop
returns-in_ok-open_loop-in-Loop c = λ i are free n r same got s.
    c.in_ok-open_loop-in-Loop.ensures (bodies_of c.args.functions.now) (module_of c.args.«module».now) n r same (c.in-Some.ensures ∙ ap Some c.in-Loop.ensures) s

pub returns-in_ok-open_if-in-If : goal.returns-in_ok-open_if-in-If
returns-in_ok-open_if-in-If c = λ i are free n r same got s.
    c.in_ok-open_if-in-If.ensures (bodies_of c.args.functions.now) (module_of c.args.«module».now) n r same (c.in-Some.ensures ∙ ap Some c.in-If.ensures) s

pub returns-in-Else : goal.returns-in-Else
returns-in-Else c = λ i are free n r same got s.
    c.end_arm.ensures (bodies_of c.args.functions.now) (module_of c.args.«module».now) n r same (c.in-Some.ensures ∙ ap Some c.in-Else.ensures) s

pub returns-in-End : goal.returns-in-End
returns-in-End c = λ i are free n r same got s.
    c.end.ensures (bodies_of c.args.functions.now) (module_of c.args.«module».now) n r same (c.in-Some.ensures ∙ ap Some c.in-End.ensures) s

pub returns-in-Br : goal.returns-in-Br
returns-in-Br c = λ i are free n r same got s.
    c.branch_always.ensures (bodies_of c.args.functions.now) (module_of c.args.«module».now) n r same (c.in-Some.ensures ∙ ap Some c.in-Br.ensures) s

pub returns-in-BrIf : goal.returns-in-BrIf
returns-in-BrIf c = λ i are free n r same got s.
    c.branch_if.ensures (bodies_of c.args.functions.now) (module_of c.args.«module».now) n r same (c.in-Some.ensures ∙ ap Some c.in-BrIf.ensures) s

pub returns-in-BrTable : goal.returns-in-BrTable
returns-in-BrTable c = λ i are free n r same got s.
    c.branch_by_table.ensures (bodies_of c.args.functions.now) (module_of c.args.«module».now) n r same (c.in-Some.ensures ∙ ap Some c.in-BrTable.ensures) s

pub returns-in-Return : goal.returns-in-Return
returns-in-Return c = λ i are free n r same got s.
    c.leave.ensures (bodies_of c.args.functions.now) (module_of c.args.«module».now) n r same (c.in-Some.ensures ∙ ap Some c.in-Return.ensures) s

pub returns-in_ok-call_by_number-in-Call : goal.returns-in_ok-call_by_number-in-Call
returns-in_ok-call_by_number-in-Call c = λ i are free n r same got s.
    c.in_ok-call_by_number-in-Call.ensures are n r same (c.in-Some.ensures ∙ ap Some c.in-Call.ensures) s

pub returns-in_ok-call_by_entry-in-CallIndirect : goal.returns-in_ok-call_by_entry-in-CallIndirect
returns-in_ok-call_by_entry-in-CallIndirect c = λ i are free n r same got s.
    c.in_ok-call_by_entry-in-CallIndirect.ensures are n r same (c.in-Some.ensures ∙ ap Some c.in-CallIndirect.ensures) s
