use Rattle.std.proofs.Common.{◌≡◌, drop}
use Rattle.std.specs.List.{fold}
use Rattle.asm_names.specs.Hashed.{with_local}
use Rattle.asm_names.proofs.hashes.add_locals.Given as goal

abbrev pub invariant-loop-local : goal.invariant-loop-local
invariant-loop-local l = fold with_local l.fn.seed l.locals ≡ fold with_local l.seed (drop l.local-index l.locals)
