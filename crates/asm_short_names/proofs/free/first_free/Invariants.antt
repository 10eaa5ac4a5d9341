use Rattle.std.proofs.Common.{◌-◌, ℕ, List}
use Rattle.asm_laws_sequence.proofs.Free.{AreTaken}
use Rattle.asm_short_names.specs.Excluding.{IsExactly, all_taken}
use Rattle.asm_short_names.proofs.free.first_free.Given as goal

abbrev pub invariant-loop-number : goal.invariant-loop-number
invariant-loop-number l = (names : List (List ℕ)) → IsExactly names l.excluded → AreTaken (all_taken names) (l.number - l.start) l.start
