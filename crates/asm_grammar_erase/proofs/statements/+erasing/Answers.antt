use Rattle.std.proofs.Common.{rules, ◌≡◌, drop, [], map, sym, ap, subst, ◌∙◌, arith}
use Rattle.std.specs.Prelude.{IfOk}
use Rattle.std.proofs.Math.ListN.{drop_of_length-le}
use Rattle.sem_words.specs.Lists.{list_items}
use Rattle.asm_lang.specs.Modules.{expr_of, option_of, block, plain as plain_stmt, returns, while_loop, do_while, for_loop, breaks, continues, switches, stmt_of, stmts_of, clauses_of}
use Rattle.asm_grammar_nodes.specs.Views as placed
use Rattle.asm_tree.specs.Views as plain
use Rattle.asm_tree.proofs.Views.{stmt_view-Block}
use Rattle.asm_grammar_nodes.specs.declared.tree.ForHeadTree.{ForHeadTree}
use Rattle.asm_grammar_erase.specs.Parts.{with_labels, label_texts}
use Rattle.asm_grammar_erase.proofs.StmtErasing.{tree_says, inner_says, all_say, clauses_say, erased-Block, erased-Plain, erased-Return, erased-While, erased-DoWhile, erased-For, erased-Break, erased-Continue, erased-Labelled, erased-Switch, stmts_before, stmts_none, stmt_done, clauses_before, clauses_none, clause_done}
use Rattle.asm_grammar_erase.proofs.statements.+erasing.Goals as goal

pub erased_stmt-returns-in_ok-body-in-Block : goal.erased_stmt-returns-in_ok-body-in-Block
erased_stmt-returns-in_ok-body-in-Block t c =
    let k = c.in-Block in
    let stmts' : plain.stmts_view (list_items c.in_ok-body-in-Block.body) ≡ stmts_of (placed.stmts_view (list_items k.body)) = all_say _ _ _ c.in_ok-body-in-Block.ensures c.as_slice.ensures in
    let whole : block (plain.stmts_view (list_items c.in_ok-body-in-Block.body)) ≡ stmt_of (placed.stmt_view c.args.tree.now) = (λ i. block (stmts' i)) ∙ tree_says _ _ _ k.is (erased-Block k.field-0 k.body) in
    stmt_view-Block c.in_ok-body-in-Block.body ∙ whole

pub erased_stmt-returns-in-Plain : goal.erased_stmt-returns-in-Plain
erased_stmt-returns-in-Plain t c =
    let k = c.in-Plain in
    let x' : expr_of (placed.expr_view c.deref.result.now) ≡ expr_of (placed.expr_view k.expr.value) = ap (λ e. expr_of (placed.expr_view e)) c.deref.ensures in
    let whole : plain_stmt (expr_of (placed.expr_view c.deref.result.now)) ≡ stmt_of (placed.stmt_view c.args.tree.now) = (λ i. plain_stmt (x' i)) ∙ tree_says _ _ _ k.is (erased-Plain k.field-0 k.expr) in
    subst (λ z. IfOk c.expression.result (λ r. plain.stmt_view r ≡ z)) whole c.expression.ensures

pub erased_stmt-returns-in-Return : goal.erased_stmt-returns-in-Return
erased_stmt-returns-in-Return t c =
    let k = c.in-Return in
    let whole : returns (option_of (placed.expr_option k.value)) ≡ stmt_of (placed.stmt_view c.args.tree.now) = tree_says _ _ _ k.is (erased-Return k.field-0 k.value) in
    subst (λ z. IfOk c.returns.result (λ r. plain.stmt_view r ≡ z)) whole c.returns.ensures

pub erased_stmt-returns-in-Break : goal.erased_stmt-returns-in-Break
erased_stmt-returns-in-Break t c =
    let k = c.in-Break in
    let whole : breaks (placed.name_option k.label) ≡ stmt_of (placed.stmt_view c.args.tree.now) = tree_says _ _ _ k.is (erased-Break k.field-0 k.label) in
    subst (λ z. IfOk c.breaks.result (λ r. plain.stmt_view r ≡ z)) whole c.breaks.ensures

pub erased_stmt-returns-in-Continue : goal.erased_stmt-returns-in-Continue
erased_stmt-returns-in-Continue t c =
    let k = c.in-Continue in
    let whole : continues (placed.name_option k.label) ≡ stmt_of (placed.stmt_view c.args.tree.now) = tree_says _ _ _ k.is (erased-Continue k.field-0 k.label) in
    subst (λ z. IfOk c.continues.result (λ r. plain.stmt_view r ≡ z)) whole c.continues.ensures

pub erased_stmt-returns-in_ok-body-in-While : goal.erased_stmt-returns-in_ok-body-in-While
erased_stmt-returns-in_ok-body-in-While t c =
    let k = c.in-While in
    let x' : expr_of (placed.expr_view c.deref-in-While-2.result.now) ≡ expr_of (placed.expr_view k.condition.value) = ap (λ e. expr_of (placed.expr_view e)) c.deref-in-While-2.ensures in
    let body' : plain.stmt_view c.in_ok-body-in-While.body.value ≡ stmt_of (placed.stmt_view k.body.value) = inner_says _ _ _ c.in_ok-body-in-While.ensures c.deref-in-While.ensures in
    let whole : while_loop (expr_of (placed.expr_view c.deref-in-While-2.result.now)) (plain.stmt_view c.in_ok-body-in-While.body.value) ≡ stmt_of (placed.stmt_view c.args.tree.now) = (λ i. while_loop (x' i) (body' i)) ∙ tree_says _ _ _ k.is (erased-While k.field-0 k.condition k.body) in
    subst (λ z. IfOk c.while_loop.result (λ r. plain.stmt_view r ≡ z)) whole c.while_loop.ensures

pub erased_stmt-returns-in_ok-body-in-DoWhile : goal.erased_stmt-returns-in_ok-body-in-DoWhile
erased_stmt-returns-in_ok-body-in-DoWhile t c =
    let k = c.in-DoWhile in
    let x' : expr_of (placed.expr_view c.deref-in-DoWhile-2.result.now) ≡ expr_of (placed.expr_view k.condition.value) = ap (λ e. expr_of (placed.expr_view e)) c.deref-in-DoWhile-2.ensures in
    let body' : plain.stmt_view c.in_ok-body-in-DoWhile.body.value ≡ stmt_of (placed.stmt_view k.body.value) = inner_says _ _ _ c.in_ok-body-in-DoWhile.ensures c.deref-in-DoWhile.ensures in
    let whole : do_while (plain.stmt_view c.in_ok-body-in-DoWhile.body.value) (expr_of (placed.expr_view c.deref-in-DoWhile-2.result.now)) ≡ stmt_of (placed.stmt_view c.args.tree.now) = (λ i. do_while (body' i) (x' i)) ∙ tree_says _ _ _ k.is (erased-DoWhile k.field-0 k.body k.condition) in
    subst (λ z. IfOk c.do_while.result (λ r. plain.stmt_view r ≡ z)) whole c.do_while.ensures

pub erased_stmt-returns-in_ok-clauses-in-Switch : goal.erased_stmt-returns-in_ok-clauses-in-Switch
erased_stmt-returns-in_ok-clauses-in-Switch t c =
    let k = c.in-Switch in
    let x' : expr_of (placed.expr_view c.deref-in-Switch.result.now) ≡ expr_of (placed.expr_view k.subject.value) = ap (λ e. expr_of (placed.expr_view e)) c.deref-in-Switch.ensures in
    let clauses' : plain.clauses_view (list_items c.in_ok-clauses-in-Switch.clauses) ≡ clauses_of (placed.clauses_view (list_items k.clauses)) = clauses_say _ _ _ c.in_ok-clauses-in-Switch.ensures c.as_slice-in-Switch.ensures in
    let whole : switches (expr_of (placed.expr_view c.deref-in-Switch.result.now)) (plain.clauses_view (list_items c.in_ok-clauses-in-Switch.clauses)) ≡ stmt_of (placed.stmt_view c.args.tree.now) = (λ i. switches (x' i) (clauses' i)) ∙ tree_says _ _ _ k.is (erased-Switch k.field-0 k.subject k.clauses) in
    subst (λ z. IfOk c.switches.result (λ r. plain.stmt_view r ≡ z)) whole c.switches.ensures

pub erased_stmt-returns-in_ok-body-in-For : goal.erased_stmt-returns-in_ok-body-in-For
erased_stmt-returns-in_ok-body-in-For t c =
    let k = c.in-For in
    let body' : plain.stmt_view c.in_ok-body-in-For.body.value ≡ stmt_of (placed.stmt_view k.body.value) = inner_says _ _ _ c.in_ok-body-in-For.ensures c.deref-in-For.ensures in
    let whole : for_loop (option_of (placed.expr_option c.deref-in-For-2.result.now.start)) (option_of (placed.expr_option c.deref-in-For-2.result.now.condition)) (option_of (placed.expr_option c.deref-in-For-2.result.now.step)) (plain.stmt_view c.in_ok-body-in-For.body.value) ≡ stmt_of (placed.stmt_view c.args.tree.now) =
    ap (λ (h : ForHeadTree). for_loop (option_of (placed.expr_option h.start)) (option_of (placed.expr_option h.condition)) (option_of (placed.expr_option h.step)) (plain.stmt_view c.in_ok-body-in-For.body.value)) c.deref-in-For-2.ensures ∙ ap (for_loop (option_of (placed.expr_option k.head.value.start)) (option_of (placed.expr_option k.head.value.condition)) (option_of (placed.expr_option k.head.value.step))) body' ∙ tree_says _ _ _ k.is (erased-For k.field-0 k.head k.body) in
    subst (λ z. IfOk c.for_loop.result (λ r. plain.stmt_view r ≡ z)) whole c.for_loop.ensures

pub erased_stmt-returns-in_ok-body-in-Labelled : goal.erased_stmt-returns-in_ok-body-in-Labelled
erased_stmt-returns-in_ok-body-in-Labelled t c =
    let k = c.in-Labelled in
    let b = plain.stmt_view c.in_ok-body-in-Labelled.body.value in
    let body' : b ≡ stmt_of (placed.stmt_view k.body.value) = inner_says _ _ _ c.in_ok-body-in-Labelled.ensures c.deref-in-Labelled.ensures in
    let whole : with_labels (label_texts (placed.words_view c.as_slice-in-Labelled.result.now)) b ≡ stmt_of (placed.stmt_view c.args.tree.now) =
    ap (λ ls. with_labels (label_texts (placed.words_view ls)) b) c.as_slice-in-Labelled.ensures ∙ ap (with_labels (label_texts (placed.words_view (list_items k.labels)))) body' ∙ tree_says _ _ _ k.is (erased-Labelled k.labels k.body) in
    subst (λ z. IfOk c.with_labels.result (λ r. plain.stmt_view r ≡ z)) whole c.with_labels.ensures

pub erased_stmts-loop-tree-preserved : goal.erased_stmts-loop-tree-preserved
erased_stmts-loop-tree-preserved t c =
    let l = c.loop-tree in
    stmt_done (list_items l.stmts) (list_items c.in_ok-stmts.stmts) c.args.trees.now l.tree-index c.tree-item.result c.in_ok-stmt.stmt (omega arith) c.tree-item.is c.in_ok-stmts.ensures c.in_ok-stmt.ensures l.invariant

pub erased_stmts-returns : goal.erased_stmts-returns
erased_stmts-returns t c =
    let l = c.loop-tree in
    let rest : drop l.tree-index c.args.trees.now ≡ [] = drop_of_length-le c.args.trees.now (omega arith) in
    sym (stmts_none (list_items l.stmts)) ∙ ap (λ xs. stmts_before (map plain.stmt_view (list_items l.stmts)) (stmts_of (placed.stmts_view xs))) (sym rest) ∙ l.invariant

pub erased_clauses-loop-tree-preserved : goal.erased_clauses-loop-tree-preserved
erased_clauses-loop-tree-preserved t c =
    let l = c.loop-tree in
    let x = c.tree-item.result in
    let body : plain.stmts_view (list_items c.in_ok-body.body) ≡ stmts_of (placed.stmts_view (list_items x.body)) = search rules in
    clause_done (list_items l.clauses) (list_items c.in_ok-clauses.clauses) c.args.trees.now l.tree-index x (record { value = c.value_of-value.result; body = c.in_ok-body.body }) (omega arith) c.tree-item.is c.in_ok-clauses.ensures c.value_of-value.ensures body l.invariant

pub erased_clauses-returns : goal.erased_clauses-returns
erased_clauses-returns t c =
    let l = c.loop-tree in
    let rest : drop l.tree-index c.args.trees.now ≡ [] = drop_of_length-le c.args.trees.now (omega arith) in
    sym (clauses_none (list_items l.clauses)) ∙ ap (λ xs. clauses_before (map plain.clause_view (list_items l.clauses)) (clauses_of (placed.clauses_view xs))) (sym rest) ∙ l.invariant
