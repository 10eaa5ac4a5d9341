use Rattle.std.proofs.Common.{◌≡◌, ◌≤◌, ◌+◌, ℕ, List, length, drop, map}
use Rattle.std.specs.Prelude.{option_map}
use Rattle.session_lang.specs.Views.{global_of}
use Rattle.script_lines.specs.GlobalLines.{found, line_named}
use Rattle.script_lines.proofs.global_lines.places_of.Given as goal

abbrev pub invariant-loop-i : goal.invariant-loop-i
invariant-loop-i l = record {
  within : l.i ≤ length l.lines;
  put : (n : List ℕ) → found l.places n ≡ option_map (λ k. l.i + k) (line_named (map global_of (drop l.i l.lines)) n);
}

abbrev pub decreases-loop-i : goal.decreases-loop-i
decreases-loop-i l = l.i
