use Rattle.asm_lang.proofs.First.{first_fault, negative_zero, missing_use}
use Rattle.asm_lang.proofs.Verdicts.{verdict}
use Rattle.asm_lang.proofs.faults_of_tokens.Goals as goal

pub returns-clause-negative_zero : goal.returns-clause-negative_zero
returns-clause-negative_zero c = negative_zero

pub returns-clause-missing_use : goal.returns-clause-missing_use
returns-clause-missing_use c = missing_use

pub returns-clause-first : goal.returns-clause-first
returns-clause-first c = first_fault

pub returns-clause-verdict : goal.returns-clause-verdict
returns-clause-verdict c = verdict
