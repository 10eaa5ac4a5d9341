use Rattle.std.proofs.lemmas.Result.{IfOk-weaker, IfErr-weaker}
use Rattle.bridge_lang.specs.Job.{made}
use Rattle.bridge_cmd.proofs.Jobs.{module_answered, answered_quietly, quiet_read_fault, quiet_missing, quiet_too_large}
use Rattle.bridge_cmd.proofs.job.module_output.Goals as goal

pub returns-in-Make-clause-written : goal.returns-in-Make-clause-written
returns-in-Make-clause-written g c = rw c.in-Make.is (IfOk-weaker c.made.result _ _ (λ output is. made is) c.made.ensures.made)

pub returns-in-Make-clause-refused : goal.returns-in-Make-clause-refused
returns-in-Make-clause-refused g c = rw c.in-Make.is (IfErr-weaker c.made.result _ _ (λ refusal a. module_answered _ _ _ _ a) c.made.ensures.barred)

pub returns-in-Make-clause-read_fault : goal.returns-in-Make-clause-read_fault
returns-in-Make-clause-read_fault g c =
    IfErr-weaker c.made.result _ _ (λ refusal a is. absurd (quiet_read_fault _ (answered_quietly _ _ _ a) is)) c.made.ensures.barred

pub returns-in-Make-clause-missing : goal.returns-in-Make-clause-missing
returns-in-Make-clause-missing g c =
    IfErr-weaker c.made.result _ _ (λ refusal a b file is. absurd (quiet_missing _ b file (answered_quietly _ _ _ a) is)) c.made.ensures.barred

pub returns-in-Make-clause-too_large : goal.returns-in-Make-clause-too_large
returns-in-Make-clause-too_large g c =
    IfErr-weaker c.made.result _ _ (λ refusal a b file is. absurd (quiet_too_large _ b file (answered_quietly _ _ _ a) is)) c.made.ensures.barred

pub returns-in-Translate-clause-written : goal.returns-in-Translate-clause-written
returns-in-Translate-clause-written g c = rw c.in-Translate.is (IfOk-weaker c.translated.result _ _ (λ output is. made is) c.translated.ensures.made)

pub returns-in-Translate-clause-refused : goal.returns-in-Translate-clause-refused
returns-in-Translate-clause-refused g c = rw c.in-Translate.is (IfErr-weaker c.translated.result _ _ (λ refusal a. module_answered _ _ _ _ a) c.translated.ensures.barred)

pub returns-in-Translate-clause-read_fault : goal.returns-in-Translate-clause-read_fault
returns-in-Translate-clause-read_fault g c =
    IfErr-weaker c.translated.result _ _ (λ refusal a is. absurd (quiet_read_fault _ (answered_quietly _ _ _ a) is)) c.translated.ensures.barred

pub returns-in-Translate-clause-missing : goal.returns-in-Translate-clause-missing
returns-in-Translate-clause-missing g c =
    IfErr-weaker c.translated.result _ _ (λ refusal a b file is. absurd (quiet_missing _ b file (answered_quietly _ _ _ a) is)) c.translated.ensures.barred

pub returns-in-Translate-clause-too_large : goal.returns-in-Translate-clause-too_large
returns-in-Translate-clause-too_large g c =
    IfErr-weaker c.translated.result _ _ (λ refusal a b file is. absurd (quiet_too_large _ b file (answered_quietly _ _ _ a) is)) c.translated.ensures.barred
