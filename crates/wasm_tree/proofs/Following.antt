-- What follows a part of an input follows the input.
use Rattle.std.specs.Prelude.{Result, Ok, Err, IfOk}
use Rattle.wasm_tree.specs.declared.input.Input.{Input}
use Rattle.wasm_tree.specs.Inputs.{Continues}
use Rattle.wasm_tree.proofs.Slices.{stands_trans}

pub ok_continues : {A E : Type 0} (r : Result (A × Input) E) (next input : Input) → Continues next input → IfOk r (λ x. Continues x.1 next) → IfOk r (λ x. Continues x.1 input)
ok_continues (Ok x) next input follows h = stands_trans h follows
ok_continues (Err e) next input follows h = tt
