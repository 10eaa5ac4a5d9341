use Rattle.cmd_check_asm.proofs.Verdicts.{verdict, not_faulty, one_module, one_fault}
use Rattle.cmd_check_asm.proofs.laws.one_verdict_of_a_text.Goals as goal

pub returns-clause-some : goal.returns-clause-some
returns-clause-some c = verdict

pub returns-clause-not_both : goal.returns-clause-not_both
returns-clause-not_both c = not_faulty

pub returns-clause-one_module : goal.returns-clause-one_module
returns-clause-one_module c = one_module

pub returns-clause-one_refusal : goal.returns-clause-one_refusal
returns-clause-one_refusal c = one_fault
