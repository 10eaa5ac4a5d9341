use Rattle.std.proofs.Common.{◌∙◌, ap}
use Rattle.asm_lang.specs.Printing.{canonical_text}
use Rattle.asm_tree.specs.Views.{module_view}
use Rattle.cmd_shorten.proofs.Written.{written}
use Rattle.cmd_shorten.proofs.shortening.text_of.Goals as goal

pub returns-in-Ok : goal.returns-in-Ok
returns-in-Ok c =
    let short = c.in_ok-short.ensures in
    written c.printed_texts_are_read.ensures.again (module_view c.args.checked.now) (module_view c.in_ok-short.short) c.in-Ok.output.items
    short.short short.accepted short.well_formed short.outside short.again
    (c.in-Ok.ensures.canonical ∙ ap (λ m. canonical_text (module_view m)) c.module.ensures.given)
