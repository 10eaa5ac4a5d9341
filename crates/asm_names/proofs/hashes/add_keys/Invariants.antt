use Rattle.std.proofs.Common.{◌≡◌, drop}
use Rattle.std.specs.List.{fold}
use Rattle.asm_names.specs.Hashed.{with_export}
use Rattle.asm_names.proofs.hashes.add_keys.Given as goal

abbrev pub invariant-loop-export : goal.invariant-loop-export
invariant-loop-export l = fold with_export l.fn.seed l.exports ≡ fold with_export l.seed (drop l.export-index l.exports)
