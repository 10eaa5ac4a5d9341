use Rattle.std.proofs.Common.{rules, ◌≡◌, drop, [], map, sym, ap, subst, ◌∙◌, arith}
use Rattle.std.specs.Prelude.{IfOk}
use Rattle.std.proofs.Math.ListN.{drop_of_length-le}
use Rattle.sem_words.specs.Lists.{list_items, text_bytes}
use Rattle.asm_lang.specs.Modules.{decimal, var, index, call, table_call, assign, store, unary, cond, comma, chained, binary_of, expr_of, exprs_of}
use Rattle.asm_grammar_nodes.specs.Views as placed
use Rattle.asm_tree.specs.Views as plain
use Rattle.asm_tree.proofs.Views.{expr_view-Unary, expr_view-Cond, expr_view-Comma}
use Rattle.asm_grammar_erase.specs.Parts.{links_on}
use Rattle.asm_grammar_erase.proofs.Erasing.{tree_says, inner_says, all_say, erased-Decimals, erased-Variable, erased-Element, erased-Call, erased-TableCall, erased-Assignment, erased-Store, erased-Unary, erased-Binary, erased-Conditional, erased-Listed, erased-Sum, expr_done, before, before_none, links_done}
use Rattle.asm_grammar_erase.proofs.expressions.+erasing.Goals as goal

pub erased_expr-returns-in-Decimals : goal.erased_expr-returns-in-Decimals
erased_expr-returns-in-Decimals t c =
    let k = c.in-Decimals in
    let whole : decimal (text_bytes k.text) ≡ expr_of (placed.expr_view c.args.tree.now) = tree_says _ _ _ k.is (erased-Decimals k.field-0 k.text) in
    subst (λ z. IfOk c.decimal.result (λ r. plain.expr_view r ≡ z)) whole c.decimal.ensures

pub erased_expr-returns-in-Variable : goal.erased_expr-returns-in-Variable
erased_expr-returns-in-Variable t c =
    let k = c.in-Variable in
    let whole : var (text_bytes k.name) ≡ expr_of (placed.expr_view c.args.tree.now) = tree_says _ _ _ k.is (erased-Variable k.field-0 k.name) in
    subst (λ z. IfOk c.variable.result (λ r. plain.expr_view r ≡ z)) whole c.variable.ensures

pub erased_expr-returns-in_ok-index-in-Element : goal.erased_expr-returns-in_ok-index-in-Element
erased_expr-returns-in_ok-index-in-Element t c =
    let k = c.in-Element in
    let index' : plain.expr_view c.in_ok-index-in-Element.index.value ≡ expr_of (placed.expr_view k.index.value) = inner_says _ _ _ c.in_ok-index-in-Element.ensures c.deref.ensures in
    let whole : index (text_bytes k.name) (plain.expr_view c.in_ok-index-in-Element.index.value) ≡ expr_of (placed.expr_view c.args.tree.now) = (λ i. index (text_bytes k.name) (index' i)) ∙ tree_says _ _ _ k.is (erased-Element k.field-0 k.name k.index) in
    subst (λ z. IfOk c.element.result (λ r. plain.expr_view r ≡ z)) whole c.element.ensures

pub erased_expr-returns-in_ok-arguments-in-Call : goal.erased_expr-returns-in_ok-arguments-in-Call
erased_expr-returns-in_ok-arguments-in-Call t c =
    let k = c.in-Call in
    let arguments' : plain.exprs_view (list_items c.in_ok-arguments-in-Call.arguments) ≡ exprs_of (placed.exprs_view (list_items k.arguments)) = all_say _ _ _ c.in_ok-arguments-in-Call.ensures c.as_slice.ensures in
    let whole : call (text_bytes k.name) (plain.exprs_view (list_items c.in_ok-arguments-in-Call.arguments)) ≡ expr_of (placed.expr_view c.args.tree.now) = (λ i. call (text_bytes k.name) (arguments' i)) ∙ tree_says _ _ _ k.is (erased-Call k.field-0 k.name k.arguments) in
    subst (λ z. IfOk c.call.result (λ r. plain.expr_view r ≡ z)) whole c.call.ensures

pub erased_expr-returns-in_ok-arguments-in-TableCall : goal.erased_expr-returns-in_ok-arguments-in-TableCall
erased_expr-returns-in_ok-arguments-in-TableCall t c =
    let k = c.in-TableCall in
    let index' : plain.expr_view c.in_ok-index-in-TableCall.index.value ≡ expr_of (placed.expr_view k.index.value) = inner_says _ _ _ c.in_ok-index-in-TableCall.ensures c.deref-in-TableCall.ensures in
    let arguments' : plain.exprs_view (list_items c.in_ok-arguments-in-TableCall.arguments) ≡ exprs_of (placed.exprs_view (list_items k.arguments)) = all_say _ _ _ c.in_ok-arguments-in-TableCall.ensures c.as_slice-in-TableCall.ensures in
    let whole : table_call (text_bytes k.name) (plain.expr_view c.in_ok-index-in-TableCall.index.value) (plain.exprs_view (list_items c.in_ok-arguments-in-TableCall.arguments)) ≡ expr_of (placed.expr_view c.args.tree.now) = (λ i. table_call (text_bytes k.name) (index' i) (arguments' i)) ∙ tree_says _ _ _ k.is (erased-TableCall k.field-0 k.name k.index k.arguments) in
    subst (λ z. IfOk c.table_call.result (λ r. plain.expr_view r ≡ z)) whole c.table_call.ensures

pub erased_expr-returns-in_ok-value-in-Assignment : goal.erased_expr-returns-in_ok-value-in-Assignment
erased_expr-returns-in_ok-value-in-Assignment t c =
    let k = c.in-Assignment in
    let value' : plain.expr_view c.in_ok-value-in-Assignment.value.value ≡ expr_of (placed.expr_view k.value.value) = inner_says _ _ _ c.in_ok-value-in-Assignment.ensures c.deref-in-Assignment.ensures in
    let whole : assign (text_bytes k.name) (plain.expr_view c.in_ok-value-in-Assignment.value.value) ≡ expr_of (placed.expr_view c.args.tree.now) = (λ i. assign (text_bytes k.name) (value' i)) ∙ tree_says _ _ _ k.is (erased-Assignment k.field-0 k.name k.value) in
    subst (λ z. IfOk c.assignment.result (λ r. plain.expr_view r ≡ z)) whole c.assignment.ensures

pub erased_expr-returns-in_ok-value-in-Store : goal.erased_expr-returns-in_ok-value-in-Store
erased_expr-returns-in_ok-value-in-Store t c =
    let k = c.in-Store in
    let index' : plain.expr_view c.in_ok-index-in-Store.index.value ≡ expr_of (placed.expr_view k.index.value) = inner_says _ _ _ c.in_ok-index-in-Store.ensures c.deref-in-Store.ensures in
    let value' : plain.expr_view c.in_ok-value-in-Store.value.value ≡ expr_of (placed.expr_view k.value.value) = inner_says _ _ _ c.in_ok-value-in-Store.ensures c.deref-in-Store-2.ensures in
    let whole : store (text_bytes k.name) (plain.expr_view c.in_ok-index-in-Store.index.value) (plain.expr_view c.in_ok-value-in-Store.value.value) ≡ expr_of (placed.expr_view c.args.tree.now) = (λ i. store (text_bytes k.name) (index' i) (value' i)) ∙ tree_says _ _ _ k.is (erased-Store k.field-0 k.name k.index k.value) in
    subst (λ z. IfOk c.store.result (λ r. plain.expr_view r ≡ z)) whole c.store.ensures

pub erased_expr-returns-in_ok-operand-in-Unary : goal.erased_expr-returns-in_ok-operand-in-Unary
erased_expr-returns-in_ok-operand-in-Unary t c =
    let k = c.in-Unary in
    let operand' : plain.expr_view c.in_ok-operand-in-Unary.operand.value ≡ expr_of (placed.expr_view k.operand.value) = inner_says _ _ _ c.in_ok-operand-in-Unary.ensures c.deref-in-Unary.ensures in
    let whole : unary k.operator (plain.expr_view c.in_ok-operand-in-Unary.operand.value) ≡ expr_of (placed.expr_view c.args.tree.now) = (λ i. unary k.operator (operand' i)) ∙ tree_says _ _ _ k.is (erased-Unary k.field-0 k.operator k.operand) in
    expr_view-Unary k.operator c.in_ok-operand-in-Unary.operand ∙ whole

pub erased_expr-returns-in_ok-right-in-Binary : goal.erased_expr-returns-in_ok-right-in-Binary
erased_expr-returns-in_ok-right-in-Binary t c =
    let k = c.in-Binary in
    let left' : plain.expr_view c.in_ok-left-in-Binary.left.value ≡ expr_of (placed.expr_view k.left.value) = inner_says _ _ _ c.in_ok-left-in-Binary.ensures c.deref-in-Binary.ensures in
    let right' : plain.expr_view c.in_ok-right-in-Binary.right.value ≡ expr_of (placed.expr_view k.right.value) = inner_says _ _ _ c.in_ok-right-in-Binary.ensures c.deref-in-Binary-2.ensures in
    let whole : binary_of k.operator (plain.expr_view c.in_ok-left-in-Binary.left.value) (plain.expr_view c.in_ok-right-in-Binary.right.value) ≡ expr_of (placed.expr_view c.args.tree.now) = (λ i. binary_of k.operator (left' i) (right' i)) ∙ tree_says _ _ _ k.is (erased-Binary k.field-0 k.left k.operator k.right) in
    subst (λ z. IfOk c.binary.result (λ r. plain.expr_view r ≡ z)) whole c.binary.ensures

pub erased_expr-returns-in_ok-second-in-Conditional : goal.erased_expr-returns-in_ok-second-in-Conditional
erased_expr-returns-in_ok-second-in-Conditional t c =
    let k = c.in-Conditional in
    let condition' : plain.expr_view c.in_ok-condition-in-Conditional.condition.value ≡ expr_of (placed.expr_view k.condition.value) = inner_says _ _ _ c.in_ok-condition-in-Conditional.ensures c.deref-in-Conditional.ensures in
    let first' : plain.expr_view c.in_ok-first-in-Conditional.first.value ≡ expr_of (placed.expr_view k.first.value) = inner_says _ _ _ c.in_ok-first-in-Conditional.ensures c.deref-in-Conditional-2.ensures in
    let second' : plain.expr_view c.in_ok-second-in-Conditional.second.value ≡ expr_of (placed.expr_view k.second.value) = inner_says _ _ _ c.in_ok-second-in-Conditional.ensures c.deref-in-Conditional-3.ensures in
    let whole : cond (plain.expr_view c.in_ok-condition-in-Conditional.condition.value) (plain.expr_view c.in_ok-first-in-Conditional.first.value) (plain.expr_view c.in_ok-second-in-Conditional.second.value) ≡ expr_of (placed.expr_view c.args.tree.now) = (λ i. cond (condition' i) (first' i) (second' i)) ∙ tree_says _ _ _ k.is (erased-Conditional k.field-0 k.condition k.first k.second) in
    expr_view-Cond c.in_ok-condition-in-Conditional.condition c.in_ok-first-in-Conditional.first c.in_ok-second-in-Conditional.second ∙ whole

pub erased_expr-returns-in_ok-parts-in-Listed : goal.erased_expr-returns-in_ok-parts-in-Listed
erased_expr-returns-in_ok-parts-in-Listed t c =
    let k = c.in-Listed in
    let parts' : plain.exprs_view (list_items c.in_ok-parts-in-Listed.parts) ≡ exprs_of (placed.exprs_view (list_items k.parts)) = all_say _ _ _ c.in_ok-parts-in-Listed.ensures c.as_slice-in-Listed.ensures in
    let whole : comma (plain.exprs_view (list_items c.in_ok-parts-in-Listed.parts)) ≡ expr_of (placed.expr_view c.args.tree.now) = (λ i. comma (parts' i)) ∙ tree_says _ _ _ k.is (erased-Listed k.field-0 k.parts) in
    expr_view-Comma c.in_ok-parts-in-Listed.parts ∙ whole

pub erased_expr-returns-in_ok-first-in-Sum : goal.erased_expr-returns-in_ok-first-in-Sum
erased_expr-returns-in_ok-first-in-Sum t c =
    let k = c.in-Sum in
    let x = c.in_ok-first-in-Sum.first.value in
    let first' : plain.expr_view x ≡ expr_of (placed.expr_view k.first.value) = inner_says _ _ _ c.in_ok-first-in-Sum.ensures c.deref-in-Sum.ensures in
    let whole : links_on (plain.expr_view x) (map placed.addend_view c.as_slice-in-Sum.result.now) ≡ expr_of (placed.expr_view c.args.tree.now) =
    ap (λ xs. links_on (plain.expr_view x) (map placed.addend_view xs)) c.as_slice-in-Sum.ensures ∙ ap (λ e. links_on e (map placed.addend_view (list_items k.others))) first' ∙ tree_says _ _ _ k.is (erased-Sum k.first k.others) in
    subst (λ z. IfOk c.erased_sum.result (λ r. plain.expr_view r ≡ z)) whole c.erased_sum.ensures

pub erased_exprs-loop-tree-preserved : goal.erased_exprs-loop-tree-preserved
erased_exprs-loop-tree-preserved t c =
    let l = c.loop-tree in
    expr_done (list_items l.exprs) (list_items c.in_ok-exprs.exprs) c.args.trees.now l.tree-index c.tree-item.result c.in_ok-expr.expr (omega arith) c.tree-item.is c.in_ok-exprs.ensures c.in_ok-expr.ensures l.invariant

pub erased_exprs-returns : goal.erased_exprs-returns
erased_exprs-returns t c =
    let l = c.loop-tree in
    let rest : drop l.tree-index c.args.trees.now ≡ [] = drop_of_length-le c.args.trees.now (omega arith) in
    sym (before_none (list_items l.exprs)) ∙ ap (λ xs. before (map plain.expr_view (list_items l.exprs)) (exprs_of (placed.exprs_view xs))) (sym rest) ∙ l.invariant

pub erased_sum-loop-addend-preserved : goal.erased_sum-loop-addend-preserved
erased_sum-loop-addend-preserved t c =
    let l = c.loop-addend in
    let x = c.addend-item.result in
    let more : plain.expr_view c.in_ok-sum.sum ≡ chained (plain.expr_view l.sum) x.minus (expr_of (placed.expr_view x.operand)) = search rules in
    links_done (plain.expr_view c.args.first.value) (plain.expr_view l.sum) (plain.expr_view c.in_ok-sum.sum) c.args.others.now l.addend-index x (omega arith) c.addend-item.is more l.invariant
