use Rattle.std.proofs.Common.{true, [], ap, Err, string_bytes}
use Rattle.std.proofs.lemmas.Result.{IfOk-weaker, IfErr-weaker}
use Rattle.bridge_lang.specs.Command.{run}
use Rattle.bridge_args.specs.Answer.{running_view}
use Rattle.bridge_lang.specs.Job.{held, scripted}
use Rattle.bridge_cmd.specs.Runners.{runner_of}
use Rattle.bridge_cmd.proofs.Files.{holds, not_gathered}
use Rattle.bridge_cmd.proofs.Jobs.{module_answered, answered_quietly, script_may, script_quiet, quiet_read_fault, quiet_missing, quiet_too_large, of_held, of_script_file}
use Rattle.bridge_cmd.proofs.playing.script_run.Goals as goal

pub returns-in-Err-clause-refused : goal.returns-in-Err-clause-refused
returns-in-Err-clause-refused g c =
    module_answered _ (run (running_view c.args.running) _ _) c.args.bytes.now _ (c.in-Err.ensures.barred (string_bytes c.args.script) c.args.steps)

pub returns-in-Err-clause-read_fault : goal.returns-in-Err-clause-read_fault
returns-in-Err-clause-read_fault g c = λ is. absurd (quiet_read_fault _ (answered_quietly _ _ _ (c.in-Err.ensures.barred [] 0)) is)

pub returns-in-Err-clause-missing : goal.returns-in-Err-clause-missing
returns-in-Err-clause-missing g c = λ b file is. absurd (quiet_missing _ b file (answered_quietly _ _ _ (c.in-Err.ensures.barred [] 0)) is)

pub returns-in-Err-clause-too_large : goal.returns-in-Err-clause-too_large
returns-in-Err-clause-too_large g c = λ b file is. absurd (quiet_too_large _ b file (answered_quietly _ _ _ (c.in-Err.ensures.barred [] 0)) is)

pub returns-in-Ok-gather-clause-written : goal.returns-in-Ok-gather-clause-written
returns-in-Ok-gather-clause-written g c =
    IfOk-weaker c.played-output.result _ _
    (λ output is. scripted (runner_of c.in-Ok.runner) c.in-Ok.ensures.runs (held c.as_slice.result.now
    (holds _ _ _ (λ told e. rw (← c.as_str.ensures.value) (rw c.as_slice.ensures.value (c.in-Ok-gather.ensures.content told e))))
    (rw c.as_slice.ensures.len c.in-Ok-gather.ensures.within) is))
    c.played-output.ensures.ran

pub returns-in-Ok-gather-clause-refused : goal.returns-in-Ok-gather-clause-refused
returns-in-Ok-gather-clause-refused g c =
    IfErr-weaker c.played-output.result _ _
    (λ refusal is. of_script_file _ _ _ c.args.bytes.now _ (runner_of c.in-Ok.runner) _ c.in-Ok.ensures.runs
    (of_held _ true _ c.as_slice.result.now _ _
    (holds _ _ _ (λ told e. rw (← c.as_str.ensures.value) (rw c.as_slice.ensures.value (c.in-Ok-gather.ensures.content told e))))
    (rw c.as_slice.ensures.len c.in-Ok-gather.ensures.within) (script_may _ _ _ _ is)))
    c.played-output.ensures.refused

pub returns-in-Ok-gather-clause-read_fault : goal.returns-in-Ok-gather-clause-read_fault
returns-in-Ok-gather-clause-read_fault g c =
    IfErr-weaker c.played-output.result _ _ (λ refusal a is. absurd (quiet_read_fault _ (script_quiet _ _ _ _ a) is)) c.played-output.ensures.refused

pub returns-in-Ok-gather-clause-missing : goal.returns-in-Ok-gather-clause-missing
returns-in-Ok-gather-clause-missing g c =
    IfErr-weaker c.played-output.result _ _ (λ refusal a b file is. absurd (quiet_missing _ b file (script_quiet _ _ _ _ a) is)) c.played-output.ensures.refused

pub returns-in-Ok-gather-clause-too_large : goal.returns-in-Ok-gather-clause-too_large
returns-in-Ok-gather-clause-too_large g c =
    IfErr-weaker c.played-output.result _ _ (λ refusal a b file is. absurd (quiet_too_large _ b file (script_quiet _ _ _ _ a) is)) c.played-output.ensures.refused

pub returns-in-Err-gather-clause-refused : goal.returns-in-Err-gather-clause-refused
returns-in-Err-gather-clause-refused g c = rw c.of_gathering.ensures
    (of_script_file _ _ _ c.args.bytes.now _ (runner_of c.in-Ok.runner) _ c.in-Ok.ensures.runs
    (not_gathered _ true _ _ c.in-Err-gather.fault
    (λ told e is. rw (← c.as_str.ensures.value) (c.in-Err-gather.ensures.absent told e (ap Err is)))
    (λ told e is. rw (← c.as_str.ensures.value) (c.in-Err-gather.ensures.long told e (ap Err is)))))
