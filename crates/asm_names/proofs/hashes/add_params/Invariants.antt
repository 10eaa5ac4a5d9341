use Rattle.std.proofs.Common.{◌≡◌, drop}
use Rattle.std.specs.List.{fold}
use Rattle.asm_names.specs.Hashed.{with_param}
use Rattle.asm_names.proofs.hashes.add_params.Given as goal

abbrev pub invariant-loop-param : goal.invariant-loop-param
invariant-loop-param l = fold with_param l.fn.seed l.params ≡ fold with_param l.seed (drop l.param-index l.params)
