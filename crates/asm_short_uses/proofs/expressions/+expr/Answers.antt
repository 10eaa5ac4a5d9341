use Rattle.std.proofs.Common.{◌≡◌, List, ◌++◌, subst, OnOk}
use Rattle.sem_words.specs.Lists.{text_bytes, list_items}
use Rattle.asm_tree.specs.Views.{expr_view, exprs_view}
use Rattle.asm_tree.proofs.Views.{expr_view-TableCall}
use Rattle.asm_short_lang.specs.Uses.{Use, of_table, expr_uses, exprs_uses}
use Rattle.asm_short_uses.specs.Views.{uses_view}
use Rattle.asm_short_uses.proofs.Added.{called}
use Rattle.asm_short_uses.proofs.expressions.+expr.Goals as goal

pub add_expr-returns-in_ok-add_expr-in-TableCall : goal.add_expr-returns-in_ok-add_expr-in-TableCall
add_expr-returns-in_ok-add_expr-in-TableCall t c =
    let k = c.in-TableCall in
    let whole : uses_view c.add_expr-in-TableCall.new.uses.items ++ exprs_uses (exprs_view c.as_slice-in-TableCall.result.now) ≡ uses_view c.args.uses.now.items ++ expr_uses (expr_view c.args.expr.now) =
    rw (c.in_ok-add_expr-in-TableCall.ensures, c.in_ok-add-in-TableCall.ensures, c.as_slice-in-TableCall.ensures, c.deref-in-TableCall.ensures, k.is, expr_view-TableCall k.name k.index k.arguments)
    (called (uses_view c.args.uses.now.items) (of_table (text_bytes k.name)) (expr_uses (expr_view k.index.value)) (exprs_uses (exprs_view (list_items k.arguments))))
    in
    subst (λ (us : List Use). OnOk c.add_exprs-in-TableCall.result (uses_view c.add_exprs-in-TableCall.new.uses.items ≡ us)) whole c.add_exprs-in-TableCall.ensures
