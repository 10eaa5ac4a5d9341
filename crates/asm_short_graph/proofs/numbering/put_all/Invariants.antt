use Rattle.std.proofs.Common.{◌≡◌, ◌+◌, ◌≤◌, ℕ, List, length, drop}
use Rattle.asm_names.specs.Members.{number_in}
use Rattle.asm_short_graph.specs.Graphs.{names_in, first_number}
use Rattle.asm_short_graph.proofs.numbering.put_all.Given as goal

abbrev pub invariant-loop-i : goal.invariant-loop-i
invariant-loop-i l = record {
  within : l.i ≤ length l.names;
  put : (n : List ℕ) → number_in l.initial.numbers n (length l.names) ≡ length l.names → number_in l.numbers n (length l.names) ≡ l.i + first_number (names_in (drop l.i l.names)) n;
}

abbrev pub decreases-loop-i : goal.decreases-loop-i
decreases-loop-i l = l.i
