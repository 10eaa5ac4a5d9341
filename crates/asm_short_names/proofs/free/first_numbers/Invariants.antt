use Rattle.std.proofs.Common.{◌≡◌, ◌-◌, ◌++◌, ℕ, List, map}
use Rattle.asm_short_lang.specs.Sequence.{numbered, names_from, first_names}
use Rattle.asm_short_names.specs.Excluding.{IsExactly, all_taken}
use Rattle.asm_short_names.proofs.free.first_numbers.Given as goal

abbrev pub invariant-loop-i : goal.invariant-loop-i
invariant-loop-i l = (names : List (List ℕ)) → IsExactly names l.excluded → map numbered l.numbers.items ++ names_from (all_taken names) (l.count - l.i) l.next ≡ first_names names l.count
