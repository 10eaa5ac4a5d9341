use Rattle.std.proofs.Common.{refl}
use Rattle.asm_tree.specs.Views.{module_view}
use Rattle.bridge_lang.specs.Command.{translate}
use Rattle.bridge_lang.specs.Answers.{want_of_memory}
use Rattle.bridge_cmd.proofs.Jobs.{text_answer}
use Rattle.bridge_cmd.proofs.Translated.{made}
use Rattle.bridge_cmd.proofs.making.translated.Goals as goal

pub returns-in-Err-clause-barred : goal.returns-in-Err-clause-barred
returns-in-Err-clause-barred c =
    rw c.of_text.ensures (text_answer (translate c.args.heap.bytes) c.args.text.now c.in-Err.fault refl c.in-Err.ensures.refused)

pub returns-in-Ok-output-clause-made : goal.returns-in-Ok-output-clause-made
returns-in-Ok-output-clause-made c =
    made c.translations.ensures.allowed c.translations.ensures.bounded c.writable.ensures c.spelling_laws.ensures.spells c.spelling_laws.ensures.shortest
    c.args.text.now c.in-Ok-output.output c.args.heap.bytes (module_view c.in-Ok.checked) c.in-Ok.ensures.accepted
    c.module-home.ensures.well_formed c.requires c.args.heap.allowed c.in-Ok-output.ensures

pub returns-in-Err-output-clause-barred : goal.returns-in-Err-output-clause-barred
returns-in-Err-output-clause-barred c = want_of_memory
