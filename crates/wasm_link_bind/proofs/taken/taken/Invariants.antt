use Rattle.std.proofs.Common.{◌≡◌, drop, map}
use Rattle.wasm_tree.specs.Views.{export_of}
use Rattle.wasm_link_lang.specs.Refusal as rows
use Rattle.wasm_link_bind.proofs.taken.taken.Given as goal

abbrev pub invariant-loop-i : goal.invariant-loop-i
invariant-loop-i l = rows.taken l.other.exports 0 (map export_of l.exports) ≡ rows.taken l.other.exports l.i (map export_of (drop l.i l.exports))
