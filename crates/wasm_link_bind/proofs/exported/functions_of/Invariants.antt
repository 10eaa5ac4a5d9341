use Rattle.std.proofs.Common.{◌≡◌, ◌≤◌, ℕ, List, length, map, drop}
use Rattle.wasm_tree.specs.Views.{export_of}
use Rattle.wasm_lang_exec.specs.Session.{function_named}
use Rattle.wasm_link_bind.specs.Exports.{found}
use Rattle.wasm_link_bind.proofs.exported.functions_of.Given as goal

abbrev pub invariant-loop-i : goal.invariant-loop-i
invariant-loop-i l = record {
  within : l.i ≤ length l.exports;
  put : (n : List ℕ) → found l.functions n ≡ function_named (map export_of (drop l.i l.exports)) n;
}

abbrev pub decreases-loop-i : goal.decreases-loop-i
decreases-loop-i l = l.i
