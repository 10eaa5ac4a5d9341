use Rattle.std.proofs.Common.{true, ap, refl, Err, string_bytes}
use Rattle.bridge_lang.specs.Command.{link}
use Rattle.bridge_lang.specs.Job.{held, paired}
use Rattle.bridge_cmd.proofs.Files.{holds, not_gathered}
use Rattle.bridge_cmd.proofs.Jobs.{module_answered, answered_quietly, check_answer, join_may, quiet_read_fault, quiet_missing, quiet_too_large, of_held, of_second_file}
use Rattle.bridge_cmd.proofs.linking.linked.Goals as goal

pub returns-in-Err-clause-refused : goal.returns-in-Err-clause-refused
returns-in-Err-clause-refused g c = rw c.of_check.ensures
    (module_answered _ (link (string_bytes c.args.second)) c.args.bytes.now _ (check_answer (link (string_bytes c.args.second)) c.args.bytes.now c.in-Err.fault refl c.in-Err.ensures.refused))

pub returns-in-Err-clause-read_fault : goal.returns-in-Err-clause-read_fault
returns-in-Err-clause-read_fault g c = λ is. absurd (quiet_read_fault _ (rw c.of_check.ensures (answered_quietly _ _ _ (check_answer (link (string_bytes c.args.second)) c.args.bytes.now c.in-Err.fault refl c.in-Err.ensures.refused))) is)

pub returns-in-Err-clause-missing : goal.returns-in-Err-clause-missing
returns-in-Err-clause-missing g c = λ b file is. absurd (quiet_missing _ b file (rw c.of_check.ensures (answered_quietly _ _ _ (check_answer (link (string_bytes c.args.second)) c.args.bytes.now c.in-Err.fault refl c.in-Err.ensures.refused))) is)

pub returns-in-Err-clause-too_large : goal.returns-in-Err-clause-too_large
returns-in-Err-clause-too_large g c = λ b file is. absurd (quiet_too_large _ b file (rw c.of_check.ensures (answered_quietly _ _ _ (check_answer (link (string_bytes c.args.second)) c.args.bytes.now c.in-Err.fault refl c.in-Err.ensures.refused))) is)

pub linked_file-output-requires-clause-short : goal.linked_file-output-requires-clause-short
linked_file-output-requires-clause-short g c = (c.args.bytes.now, c.in-Ok.ensures.valid.read.spelled, c.requires)

pub linked_file-output-requires-clause-length : goal.linked_file-output-requires-clause-length
linked_file-output-requires-clause-length g c = rw c.as_slice.ensures.len c.in-Ok-gather.ensures.within

pub returns-in-Ok-output-clause-written : goal.returns-in-Ok-output-clause-written
returns-in-Ok-output-clause-written g c = rw c.from_vec.ensures
    (paired {second = string_bytes c.args.second} c.in-Ok.first c.in-Ok.ensures.valid (held c.as_slice.result.now
    (holds _ _ _ (λ told e. rw (← c.as_str.ensures.value) (rw c.as_slice.ensures.value (c.in-Ok-gather.ensures.content told e))))
    (rw c.as_slice.ensures.len c.in-Ok-gather.ensures.within) c.in-Ok-output.ensures.joined))

pub returns-in-Ok-gather-clause-refused : goal.returns-in-Ok-gather-clause-refused
returns-in-Ok-gather-clause-refused g c = rw c.of_join.ensures
    (of_second_file _ _ c.args.bytes.now c.in-Ok.first _ c.in-Ok.ensures.valid
    (of_held _ true _ c.as_slice.result.now _ _
    (holds _ _ _ (λ told e. rw (← c.as_str.ensures.value) (rw c.as_slice.ensures.value (c.in-Ok-gather.ensures.content told e))))
    (rw c.as_slice.ensures.len c.in-Ok-gather.ensures.within) (join_may _ _ c.in-Err-output.fault c.in-Err-output.ensures.apart)))

pub returns-clause-refused : goal.returns-clause-refused
returns-clause-refused g c = rw c.of_gathering.ensures
    (of_second_file _ _ c.args.bytes.now c.in-Ok.first _ c.in-Ok.ensures.valid
    (not_gathered _ true _ _ c.in-Err-gather.fault
    (λ told e is. rw (← c.as_str.ensures.value) (c.in-Err-gather.ensures.absent told e (ap Err is)))
    (λ told e is. rw (← c.as_str.ensures.value) (c.in-Err-gather.ensures.long told e (ap Err is)))))
