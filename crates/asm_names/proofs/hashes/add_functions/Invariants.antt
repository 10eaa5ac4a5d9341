use Rattle.std.proofs.Common.{◌≡◌, drop}
use Rattle.std.specs.List.{fold}
use Rattle.asm_names.specs.Hashed.{with_function}
use Rattle.asm_names.proofs.hashes.add_functions.Given as goal

abbrev pub invariant-loop-function : goal.invariant-loop-function
invariant-loop-function l = fold with_function l.fn.seed l.functions ≡ fold with_function l.seed (drop l.function-index l.functions)
