use Rattle.asm2wasm_laws_within.proofs.Within.{accepted_are_within, foreign_names_are_short}
use Rattle.asm2wasm_laws_within.proofs.limits.Goals as goal

pub returns-clause-within : goal.returns-clause-within
returns-clause-within c = accepted_are_within

pub returns-clause-names : goal.returns-clause-names
returns-clause-names c = foreign_names_are_short
