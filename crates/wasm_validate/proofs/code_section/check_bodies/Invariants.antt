use Rattle.wasm_tree.specs.Views.{module_of}
use Rattle.wasm_validate.specs.Bodies.{FineBodies}
use Rattle.wasm_validate.specs.Counted.{CountsOf}
use Rattle.wasm_validate.proofs.code_section.check_bodies.Given as goal

abbrev pub invariant-loop-i : goal.invariant-loop-i
invariant-loop-i l = record {
  fine : FineBodies (module_of l.«module») l.i;
  counts : CountsOf l.counts (module_of l.«module») l.i;
}
