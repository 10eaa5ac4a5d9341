use Rattle.std.proofs.Common.{◌≡◌, drop}
use Rattle.wasm_lang_exec.specs.Fits.{takes_arguments}
use Rattle.wasm_run.proofs.calls.takes_arguments.Given as goal

abbrev pub invariant-loop-param : goal.invariant-loop-param
invariant-loop-param l = takes_arguments l.params l.args ≡ takes_arguments (drop l.param-index l.params) l.rest
