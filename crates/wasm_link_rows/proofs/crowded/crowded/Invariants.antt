use Rattle.std.proofs.Common.{◌≡◌, drop, map}
use Rattle.wasm_tree.specs.Views.{body_of, module_of}
use Rattle.wasm_link_lang.specs.Refusal as plain
use Rattle.wasm_link_rows.proofs.crowded.crowded.Given as goal

abbrev pub invariant-loop-i : goal.invariant-loop-i
invariant-loop-i l = plain.crowded (module_of l.«module») 0 (module_of l.«module»).bodies ≡ plain.crowded (module_of l.«module») l.i (map body_of (drop l.i l.body-items))
