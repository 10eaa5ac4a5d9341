use Rattle.std.proofs.Common.{◌≡◌, false, codes, subst, OnOk}
use Rattle.sem_words.specs.Lists.{text_bytes, list_items}
use Rattle.asm_lang.specs.Printing.{between, expr_text, exprs_text}
use Rattle.asm_tree.specs.Views.{expr_view, exprs_view}
use Rattle.asm_tree.proofs.Views.{expr_view-TableCall}
use Rattle.asm_grammar_print.specs.Put.{Written, written, put}
use Rattle.asm_grammar_print.proofs.ExprPuts.{table_call_put}
use Rattle.asm_grammar_print.proofs.expressions.+expr.Goals as goal

pub put_expr-returns-in_ok-put_index-in-TableCall : goal.put_expr-returns-in_ok-put_index-in-TableCall
put_expr-returns-in_ok-put_index-in-TableCall t c =
    let whole : put (written c.put_index-in-TableCall.new.out) (between (codes "(") (exprs_text false (exprs_view c.as_slice-in-TableCall.result.now)) (codes ")")) ≡ put (written c.args.out.now) (expr_text (expr_view c.args.expr.now)) =
    rw (c.in_ok-put_index-in-TableCall.ensures, c.as_slice-in-TableCall.ensures, c.deref-in-TableCall.ensures, c.in-TableCall.is, expr_view-TableCall c.in-TableCall.name c.in-TableCall.index c.in-TableCall.arguments)
    (table_call_put (written c.args.out.now) (text_bytes c.in-TableCall.name) (expr_view c.in-TableCall.index.value) (exprs_view (list_items c.in-TableCall.arguments)))
    in
    subst (λ (w : Written). OnOk c.put_arguments-in-TableCall.result (written c.put_arguments-in-TableCall.new.out ≡ w)) whole c.put_arguments-in-TableCall.ensures
