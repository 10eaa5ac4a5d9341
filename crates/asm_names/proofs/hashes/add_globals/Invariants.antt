use Rattle.std.proofs.Common.{◌≡◌, drop}
use Rattle.std.specs.List.{fold}
use Rattle.asm_names.specs.Hashed.{with_global}
use Rattle.asm_names.proofs.hashes.add_globals.Given as goal

abbrev pub invariant-loop-global : goal.invariant-loop-global
invariant-loop-global l = fold with_global l.fn.seed l.globals ≡ fold with_global l.seed (drop l.global-index l.globals)
