use Rattle.std.proofs.Common.{◌≡◌, ◌≤◌, ℕ, List, length, drop, map}
use Rattle.script_lines.specs.GlobalLines.{found}
use Rattle.wasm_run.specs.Globals.{kind_named}
use Rattle.wasm_run.specs.GlobalViews.{imported_of}
use Rattle.wasm_run.proofs.imported.kinds_of.Given as goal

abbrev pub invariant-loop-i : goal.invariant-loop-i
invariant-loop-i l = record {
  within : l.i ≤ length l.globals;
  put : (n : List ℕ) → found l.kinds n ≡ kind_named (map imported_of (drop l.i l.globals)) n;
}

abbrev pub decreases-loop-i : goal.decreases-loop-i
decreases-loop-i l = l.i
