use Rattle.asm2wasm_laws_preservation.proofs.Whole.{expressions_are_kept, calls_are_kept, effects_are_kept}
use Rattle.asm2wasm_laws_preservation.proofs.expressions.Goals as goal

pub returns-clause-typed : goal.returns-clause-typed
returns-clause-typed c = expressions_are_kept

pub returns-clause-calls : goal.returns-clause-calls
returns-clause-calls c = calls_are_kept

pub returns-clause-effects : goal.returns-clause-effects
returns-clause-effects c = effects_are_kept
