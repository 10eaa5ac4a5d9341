use Rattle.std.proofs.Common.{◌≡◌, sym, subst}
use Rattle.std.proofs.lemmas.Result.{IfOk-weaker}
use Rattle.asm_lang.specs.Heights.{IsWellFormed}
use Rattle.asm_lang.specs.Printing.{canonical_text}
use Rattle.asm_lang.specs.Texts.{IsTextOf}
use Rattle.asm_laws_print.proofs.Printed.{text_of, well_formed_fits}
use Rattle.asm_tree.specs.Views.{module_view}
use Rattle.asm_grammar_print.proofs.printing.print.Goals as goal

pub returns-clause-again : goal.returns-clause-again
returns-clause-again c =
    let m = module_view c.args.module.now in
    IfOk-weaker c.canonical.result (λ t. t.items ≡ canonical_text m) (λ t. IsWellFormed m → IsTextOf t.items m)
    (λ t is h. subst (λ bs. IsTextOf bs m) (sym is) (text_of m (well_formed_fits m h))) c.canonical.ensures
