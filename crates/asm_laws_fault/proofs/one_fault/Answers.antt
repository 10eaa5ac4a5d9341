use Rattle.asm_laws_fault.proofs.Same.{same}
use Rattle.asm_laws_fault.proofs.Outcomes.{none, outcome}
use Rattle.asm_laws_fault.proofs.one_fault.Goals as goal

pub returns-clause-some : goal.returns-clause-some
returns-clause-some c = outcome

pub returns-clause-not_both : goal.returns-clause-not_both
returns-clause-not_both c = none

pub returns-clause-one_kind : goal.returns-clause-one_kind
returns-clause-one_kind c = λ limit xs a b i j f g. let s = same limit xs a b i j f g in s.0

pub returns-clause-one_place : goal.returns-clause-one_place
returns-clause-one_place c = λ limit xs a b i j f g. let s = same limit xs a b i j f g in s.1
