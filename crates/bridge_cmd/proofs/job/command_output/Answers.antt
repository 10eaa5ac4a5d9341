use Rattle.std.proofs.Common.{false, ap, Err}
use Rattle.std.proofs.lemmas.Result.{IfOk-weaker, IfErr-weaker}
use Rattle.bridge_lang.specs.Job.{held}
use Rattle.bridge_cmd.proofs.Files.{holds, not_gathered}
use Rattle.bridge_cmd.proofs.Jobs.{of_held}
use Rattle.bridge_cmd.proofs.job.command_output.Goals as goal

pub returns-in-Ok-clause-written : goal.returns-in-Ok-clause-written
returns-in-Ok-clause-written g c =
    IfOk-weaker c.module_output.result _ _
    (λ output is. held c.as_slice.result.now
    (holds _ _ _ (λ told e. rw (← c.as_str.ensures.value) (rw c.as_slice.ensures.value (c.in-Ok.ensures.content told e))))
    (rw c.as_slice.ensures.len c.in-Ok.ensures.within) is)
    (rw c.gather.ensures.told at c.module_output.ensures.written)

pub returns-in-Ok-clause-refused : goal.returns-in-Ok-clause-refused
returns-in-Ok-clause-refused g c =
    IfErr-weaker c.module_output.result _ _
    (λ refusal may. of_held _ false _ c.as_slice.result.now _ _
    (holds _ _ _ (λ told e. rw (← c.as_str.ensures.value) (rw c.as_slice.ensures.value (c.in-Ok.ensures.content told e))))
    (rw c.as_slice.ensures.len c.in-Ok.ensures.within) may)
    (rw c.gather.ensures.told at c.module_output.ensures.refused)

pub returns-in-Err-clause-refused : goal.returns-in-Err-clause-refused
returns-in-Err-clause-refused g c = rw c.of_gathering.ensures
    (not_gathered _ false _ _ c.in-Err.fault
    (λ told e is. rw (← c.as_str.ensures.value) (c.in-Err.ensures.absent told e (ap Err is))) (λ told e is. rw (← c.as_str.ensures.value) (c.in-Err.ensures.long told e (ap Err is))))
