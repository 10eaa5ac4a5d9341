use Rattle.std.proofs.Common.{◌≡◌, ◌+◌, ◌++◌, map, drop}
use Rattle.wasm_laws_trees.specs.Spelled.{flat}
use Rattle.wasm_laws_write.specs.Lengths.{IsNarrow}
use Rattle.wasm_laws_write.specs.Each.{EachIn}
use Rattle.asm_tree.specs.Views.{local_view}
use Rattle.asm2wasm_translation.specs.Bodies.{locals_code}
use Rattle.asm2wasm_emit_values.specs.Contexts.{scope_in}
use Rattle.asm2wasm_emit_bodies.proofs.functions.emit_locals.Given as goal

abbrev pub invariant-loop-i : goal.invariant-loop-i
invariant-loop-i l = record {
  given : l.initial.output ++ flat (locals_code l.context.size (scope_in l.context) l.first (map local_view l.locals)) ≡ l.output ++ flat (locals_code l.context.size (scope_in l.context) (l.first + l.i) (map local_view (drop l.i l.locals)));
  narrow : EachIn IsNarrow (locals_code l.context.size (scope_in l.context) (l.first + l.i) (map local_view (drop l.i l.locals)));
}
