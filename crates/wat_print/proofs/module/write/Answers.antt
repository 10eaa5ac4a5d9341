use Rattle.std.proofs.Common.{ap, ◌∙◌}
use Rattle.wasm_tree.specs.Views.{module_of}
use Rattle.wat_lang.specs.Printing.{module_pieces, canonical}
use Rattle.wat_print.specs.Put.{Written, put, at_start}
use Rattle.wat_print.proofs.Puts.{put_joined}
use Rattle.wat_print.proofs.module.write.Goals as goal

pub returns : goal.returns
returns c =
    c.into_bytes.ensures ∙ (ap (λ (w : Written). w.bytes) c.in_ok-put_module.ensures
    ∙ (ap (λ (w : Written). (put w (module_pieces (module_of c.module-module.result.now))).bytes) c.new-out.ensures
    ∙ (put_joined at_start (module_pieces (module_of c.module-module.result.now)) ∙ ap canonical c.module-module.ensures.given)))
