use Rattle.asm_laws_fault.proofs.Told.{same, not_both, some}
use Rattle.asm_laws_fault.proofs.one_fault_of_a_text.Goals as goal

pub returns-clause-some : goal.returns-clause-some
returns-clause-some c = some

pub returns-clause-not_both : goal.returns-clause-not_both
returns-clause-not_both c = not_both

pub returns-clause-one_kind : goal.returns-clause-one_kind
returns-clause-one_kind c = λ text f g i j h k. let s = same text f g i j h k in s.0

pub returns-clause-one_place : goal.returns-clause-one_place
returns-clause-one_place c = λ text f g i j h k. let s = same text f g i j h k in s.1
