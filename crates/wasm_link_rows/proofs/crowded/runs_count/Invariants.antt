use Rattle.std.proofs.Common.{◌≡◌, ◌+◌, ◌*◌, ◌^◌, ◌≤◌, drop, length}
use Rattle.wasm_tree.specs.Views.{locals_in}
use Rattle.wasm_link_rows.proofs.crowded.runs_count.Given as goal

abbrev pub invariant-loop-run : goal.invariant-loop-run
invariant-loop-run l = (length (locals_in l.runs) ≡ l.count + length (locals_in (drop l.run-index l.runs))) × (l.count ≤ 2 ^ 32 * l.run-index)
