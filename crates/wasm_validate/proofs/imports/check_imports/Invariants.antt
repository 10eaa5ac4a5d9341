use Rattle.wasm_tree.specs.Views.{module_of}
use Rattle.wasm_validate.proofs.Sections.{ImportsOn}
use Rattle.wasm_validate.proofs.imports.check_imports.Given as goal

abbrev pub invariant-loop-i : goal.invariant-loop-i
invariant-loop-i l = ImportsOn (module_of l.«module») l.i l.table l.memory
