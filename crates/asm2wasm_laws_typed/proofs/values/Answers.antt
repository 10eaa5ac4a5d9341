use Rattle.asm2wasm_laws_typed.proofs.TypedValues.{values_are_typed, calls_are_typed, effects_are_typed}
use Rattle.asm2wasm_laws_typed.proofs.values.Goals as goal

pub returns-clause-typed : goal.returns-clause-typed
returns-clause-typed c = values_are_typed

pub returns-clause-calls : goal.returns-clause-calls
returns-clause-calls c = calls_are_typed

pub returns-clause-effects : goal.returns-clause-effects
returns-clause-effects c = effects_are_typed
