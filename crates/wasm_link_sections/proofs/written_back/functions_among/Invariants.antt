use Rattle.std.proofs.Common.{◌≡◌, ℕ, ◌+◌, ◌≤◌, length, drop, map}
use Rattle.wasm_tree.specs.Views.{export_of}
use Rattle.wasm_link_code.specs.Linked as linked
use Rattle.wasm_link_sections.proofs.written_back.functions_among.Given as goal

abbrev pub invariant-loop-export : goal.invariant-loop-export
invariant-loop-export l = record {
  count : (function : ℕ → ℕ) → length (linked.moved_exports function (map export_of l.exports)) ≡ l.count + length (linked.moved_exports function (map export_of (drop l.export-index l.exports)));
  few : l.count ≤ l.export-index;
}
