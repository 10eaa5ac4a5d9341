use Rattle.std.proofs.Common.{refl}
use Rattle.asm_tree.specs.Views.{module_view}
use Rattle.bridge_lang.specs.Command.{run, as_text}
use Rattle.bridge_lang.specs.Runs.{a_text, a_binary}
use Rattle.bridge_cmd.proofs.Jobs.{text_answer, run_answer}
use Rattle.bridge_cmd.proofs.runner.runner_for.Goals as goal

pub returns-in-Ok-clause-runs : goal.returns-in-Ok-clause-runs
returns-in-Ok-clause-runs c = rw c.in-Text.is (a_text (module_view c.in-Ok.checked) c.in-Ok.ensures.accepted)

pub returns-in-Err-clause-barred : goal.returns-in-Err-clause-barred
returns-in-Err-clause-barred c = λ script steps. rw (c.in-Text.is, c.of_text.ensures)
    (text_answer (run (as_text c.in-Text.heap.bytes) script steps) c.args.bytes.now c.in-Err.fault refl c.in-Err.ensures.refused)

pub returns-in-Ok-runnable_module-clause-runs : goal.returns-in-Ok-runnable_module-clause-runs
returns-in-Ok-runnable_module-clause-runs c = rw c.in-Binary.is (a_binary c.in-Ok-runnable_module.valid c.in-Ok-runnable_module.ensures.runs)

pub returns-in-Err-runnable_module-clause-barred : goal.returns-in-Err-runnable_module-clause-barred
returns-in-Err-runnable_module-clause-barred c = λ script steps. rw (c.in-Binary.is, c.of_run.ensures)
    (run_answer script c.args.bytes.now steps c.in-Err-runnable_module.fault c.in-Err-runnable_module.ensures.refused)
