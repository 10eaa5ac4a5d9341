use Rattle.std.proofs.Common.{◌≡◌, drop, map}
use Rattle.session_lang.specs.Views.{call_of}
use Rattle.wasm_tree.specs.Views.{module_of}
use Rattle.wasm_lang_exec.specs.Session.{calls_seen}
use Rattle.wasm_run_frames.specs.Views.{machine_of}
use Rattle.wasm_run_machine.specs.Functions.{AreFunctions}
use Rattle.wasm_run.proofs.session.run_calls.Given as goal

abbrev pub invariant-loop-i : goal.invariant-loop-i
invariant-loop-i l =
    AreFunctions (module_of l.«module») l.functions
    → calls_seen (module_of l.«module») (map call_of l.calls) l.fn.steps (machine_of l.fn.machine).store
    ≡ calls_seen (module_of l.«module») (map call_of (drop l.i l.calls)) l.left (machine_of l.machine).store
