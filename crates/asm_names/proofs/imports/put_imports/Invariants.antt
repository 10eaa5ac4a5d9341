use Rattle.std.proofs.Common.{◌≡◌, ◌+◌, ◌≤◌, ℕ, List, length, map, drop}
use Rattle.asm_tree.specs.Views.{global_view}
use Rattle.asm_names.specs.Members.{first_import, number_in}
use Rattle.asm_names.proofs.imports.put_imports.Given as goal

abbrev pub invariant-loop-i : goal.invariant-loop-i
invariant-loop-i l = record {
  within : l.i ≤ length l.globals;
  put : (n : List ℕ) → number_in l.initial.imports n (length l.globals) ≡ length l.globals → number_in l.imports n (length l.globals) ≡ l.i + first_import (map global_view (drop l.i l.globals)) n;
}

abbrev pub decreases-loop-i : goal.decreases-loop-i
decreases-loop-i l = l.i
