use Rattle.std.proofs.Common.{◌≡◌, ◌++◌, drop}
use Rattle.wasm_laws_trees.specs.Spelled.{flat}
use Rattle.wasm_laws_write.specs.Lengths.{IsNarrow}
use Rattle.wasm_laws_write.specs.Each.{EachIn}
use Rattle.asm_tree.specs.Views.{clauses_view}
use Rattle.asm2wasm_translation.specs.Bodies as code
use Rattle.asm2wasm_emit_switches.proofs.long.case_numbers.Given as goal

abbrev pub invariant-loop-i : goal.invariant-loop-i
invariant-loop-i l = record {
  given : l.initial.output ++ flat (code.case_numbers l.t l.k 0 (clauses_view l.clauses)) ≡ l.output ++ flat (code.case_numbers l.t l.k l.i (clauses_view (drop l.i l.clauses)));
  narrow : EachIn IsNarrow (code.case_numbers l.t l.k l.i (clauses_view (drop l.i l.clauses)));
}
