use Rattle.wat_laws_grammar.proofs.Verdicts.{some_verdict, one_module, one_fault, not_both}
use Rattle.wat_laws_grammar.proofs.one_verdict.Goals as goal

pub returns-clause-verdict : goal.returns-clause-verdict
returns-clause-verdict c = some_verdict

pub returns-clause-one_module : goal.returns-clause-one_module
returns-clause-one_module c = one_module

pub returns-clause-one_fault : goal.returns-clause-one_fault
returns-clause-one_fault c = one_fault

pub returns-clause-not_both : goal.returns-clause-not_both
returns-clause-not_both c = not_both
