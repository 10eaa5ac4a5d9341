use Rattle.std.proofs.lemmas.Result.{IfOk-weaker, IfErr-weaker}
use Rattle.bridge_lang.specs.Answers.{no_memory}
use Rattle.std.proofs.Common.{string_bytes}
use Rattle.bridge_args.specs.Answer.{action_view}
use Rattle.bridge_lang.specs.Job.{commanded, generated}
use Rattle.bridge_cmd.proofs.Jobs.{words_report, of_command}
use Rattle.bridge_cmd.proofs.job.output_of.Goals as goal

pub returns-in-Err-clause-refused : goal.returns-in-Err-clause-refused
returns-in-Err-clause-refused g c = rw c.of_words.ensures (words_report _ _ c.in-Err.fault c.in-Err.ensures)

pub returns-in-Ok-OnFile-clause-written : goal.returns-in-Ok-OnFile-clause-written
returns-in-Ok-OnFile-clause-written g c =
    let named = rw c.in-Ok-OnFile.field-0-is at c.in-Ok-OnFile.ensures in
    IfOk-weaker c.command_output.result _ _ (λ output is. commanded (action_view c.in-Ok-OnFile.action) (string_bytes c.in-Ok-OnFile.file) named is) c.command_output.ensures.written

pub returns-in-Ok-OnFile-clause-refused : goal.returns-in-Ok-OnFile-clause-refused
returns-in-Ok-OnFile-clause-refused g c =
    let named = rw c.in-Ok-OnFile.field-0-is at c.in-Ok-OnFile.ensures in
    IfErr-weaker c.command_output.result _ _ (λ refusal may. of_command _ _ (action_view c.in-Ok-OnFile.action) (string_bytes c.in-Ok-OnFile.file) _ named may) c.command_output.ensures.refused

pub returns-in-Ok-clause-written : goal.returns-in-Ok-clause-written
returns-in-Ok-clause-written g c =
    let named = rw c.in-Ok-Gen.field-0-is at c.in-Ok-Gen.ensures in
    rw c.from_vec.ensures (generated c.in-Ok-Gen.count.functions named c.in-Ok.ensures)

pub returns-in-Err-generated-clause-refused : goal.returns-in-Err-generated-clause-refused
returns-in-Err-generated-clause-refused g c = no_memory
