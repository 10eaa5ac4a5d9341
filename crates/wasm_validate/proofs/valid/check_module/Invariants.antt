use Rattle.std.proofs.Common.{◌+◌}
use Rattle.wasm_validate.proofs.Places.{FineBefore}
use Rattle.wasm_tree.specs.Views.{module_of}
use Rattle.wasm_validate.proofs.valid.check_module.Given as goal

abbrev pub invariant-loop-k : goal.invariant-loop-k
invariant-loop-k l = FineBefore (module_of l.«module») (l.k + 1)
