use Rattle.wasm_tree.specs.Views.{module_of}
use Rattle.wasm_validate.specs.Sections.{FineItems}
use Rattle.wasm_validate.proofs.items.check_items.Given as goal

abbrev pub invariant-loop-i : goal.invariant-loop-i
invariant-loop-i l = FineItems (module_of l.«module») l.section l.i
