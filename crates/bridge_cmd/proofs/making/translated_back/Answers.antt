use Rattle.std.proofs.Common.{refl}
use Rattle.bridge_lang.specs.Answers.{a_bar, want_of_memory}
use Rattle.bridge_lang.specs.declared.making.Making.TheVariants.{WasmToAsm}
use Rattle.bridge_lang.specs.Command.{make}
use Rattle.bridge_lang.specs.Job.{not_translated}
use Rattle.bridge_cmd.proofs.Back.{made}
use Rattle.bridge_cmd.proofs.Jobs.{check_answer}
use Rattle.bridge_cmd.proofs.making.translated_back.Goals as goal

pub returns-in-Err-clause-barred : goal.returns-in-Err-clause-barred
returns-in-Err-clause-barred c = rw c.of_check.ensures (check_answer (make WasmToAsm) c.args.bytes.now c.in-Err.fault refl c.in-Err.ensures.refused)

pub returns-in-Err-profile-clause-barred : goal.returns-in-Err-profile-clause-barred
returns-in-Err-profile-clause-barred c =
    rw c.of_outside.ensures
    (a_bar (not_translated c.in-Err-profile.outside (record { «module» = c.in-Ok.valid; taken = c.in-Ok.ensures.valid; meets = c.in-Err-profile.ensures })))

pub returns-in-Ok-output-clause-made : goal.returns-in-Ok-output-clause-made
returns-in-Ok-output-clause-made c =
    rw c.from_vec.ensures (made c.spelled.ensures.allowed c.spelled.ensures.traps c.spelled-2.ensures c.printed_texts_are_read.ensures.again c.args.bytes.now
    c.in-Ok-output.output.items c.in-Ok.valid
    (record { read = c.in-Ok.ensures.valid.read; within = record { valid = c.in-Ok.ensures.valid.valid; within = c.in-Ok-profile.ensures } }) c.in-Ok-output.ensures)

pub returns-in-Err-output-clause-barred : goal.returns-in-Err-output-clause-barred
returns-in-Err-output-clause-barred c = want_of_memory
