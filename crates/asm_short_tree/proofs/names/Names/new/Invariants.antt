use Rattle.std.proofs.Common.{◌≡◌, ◌≤◌, ℕ, List, length}
use Rattle.asm_short_tree.specs.Looking.{found_in}
use Rattle.asm_short_tree.proofs.Given.{from_on}
use Rattle.asm_short_tree.proofs.names.Names.new.Given as goal

abbrev pub invariant-loop-i : goal.invariant-loop-i
invariant-loop-i l = record {
  within : l.i ≤ length l.olds;
  inside : l.i ≤ length l.news;
  given : (n : List ℕ) → found_in l.kept l.given n ≡ from_on l.kept l.olds l.news l.i n;
}

abbrev pub decreases-loop-i : goal.decreases-loop-i
decreases-loop-i l = l.i
