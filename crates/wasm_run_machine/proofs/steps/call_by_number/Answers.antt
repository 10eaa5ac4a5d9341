use Rattle.wasm_tree.specs.Views.{module_of}
use Rattle.wasm_run_frames.specs.Views.{machine_of}
use Rattle.wasm_run_machine.specs.Functions.{bodies_of}
use Rattle.wasm_run_machine.proofs.Done.{call_does}
use Rattle.wasm_run_machine.proofs.steps.call_by_number.Goals as goal

pub returns : goal.returns
returns c = λ are n r same got s.
    c.in_ok-flow.ensures n r are (call_does (bodies_of c.args.functions.now) (module_of c.args.«module».now) (machine_of c.args.machine.now) n c.args.function r c.args.body.now same got s)
