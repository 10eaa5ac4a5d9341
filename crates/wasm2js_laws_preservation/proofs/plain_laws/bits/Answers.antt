use Rattle.wasm2js_laws_preservation.proofs.PlainComparing.{conjunction_is, disjunction_is, exclusion_is, shift_left_is, shift_right_signed_is, shift_right_is}
use Rattle.wasm2js_laws_preservation.proofs.plain_laws.bits.Goals as goal

pub returns-clause-conjunction : goal.returns-clause-conjunction
returns-clause-conjunction c = conjunction_is

pub returns-clause-disjunction : goal.returns-clause-disjunction
returns-clause-disjunction c = disjunction_is

pub returns-clause-exclusion : goal.returns-clause-exclusion
returns-clause-exclusion c = exclusion_is

pub returns-clause-shift_left : goal.returns-clause-shift_left
returns-clause-shift_left c = shift_left_is

pub returns-clause-shift_right_signed : goal.returns-clause-shift_right_signed
returns-clause-shift_right_signed c = shift_right_signed_is

pub returns-clause-shift_right : goal.returns-clause-shift_right
returns-clause-shift_right c = shift_right_is
