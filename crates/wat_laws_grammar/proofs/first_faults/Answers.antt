use Rattle.wat_laws_grammar.proofs.First.{first_fault, verdict, one_place}
use Rattle.wat_laws_grammar.proofs.first_faults.Goals as goal

pub returns-clause-verdict : goal.returns-clause-verdict
returns-clause-verdict c = verdict

pub returns-clause-first : goal.returns-clause-first
returns-clause-first c = first_fault

pub returns-clause-one : goal.returns-clause-one
returns-clause-one c = one_place
