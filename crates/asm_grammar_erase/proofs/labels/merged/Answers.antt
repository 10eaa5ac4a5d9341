use Rattle.std.proofs.Common.{◌≡◌, ◌∙◌, ap, subst}
use Rattle.std.specs.Prelude.{IfOk}
use Rattle.sem_words.specs.Lists.{list_items}
use Rattle.asm_lang.specs.Modules.{labelled}
use Rattle.asm_tree.specs.Views.{stmt_view, texts_view}
use Rattle.asm_grammar_erase.proofs.StmtErasing.{on_labelled, on_other}
use Rattle.asm_grammar_erase.proofs.labels.merged.Goals as goal

pub returns-in-Ok : goal.returns-in-Ok
returns-in-Ok c = subst (λ z. IfOk c.under_more.result (λ r. stmt_view r ≡ z)) (on_labelled c.args.body c.in-Ok.inner c.args.labels c.in-Ok.body c.in-Ok.ensures.labelled) c.under_more.ensures

pub returns-in-Err : goal.returns-in-Err
returns-in-Err c =
    let same = ap (λ b. labelled (texts_view (list_items c.args.labels)) (stmt_view b)) c.in-Err.ensures.unlabelled.0 in
    subst (λ z. IfOk c.under_first.result (λ r. stmt_view r ≡ z)) (same ∙ on_other c.args.body c.args.labels c.in-Err.ensures.unlabelled.1) c.under_first.ensures
