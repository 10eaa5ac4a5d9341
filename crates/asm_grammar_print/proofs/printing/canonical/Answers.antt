use Rattle.std.proofs.Common.{ap, ◌∙◌}
use Rattle.asm_lang.specs.Printing.{module_pieces}
use Rattle.asm_tree.specs.Views.{module_view}
use Rattle.asm_grammar_print.specs.Put.{Written, put}
use Rattle.asm_grammar_print.proofs.ModulePuts.{whole_text}
use Rattle.asm_grammar_print.proofs.printing.canonical.Goals as goal

pub returns : goal.returns
returns c =
    c.into_bytes.ensures ∙ (ap (λ (w : Written). w.bytes) c.in_ok-put_module.ensures
    ∙ (ap (λ (w : Written). (put w (module_pieces (module_view c.args.module.now))).bytes) c.new-out.ensures ∙ whole_text (module_view c.args.module.now)))
