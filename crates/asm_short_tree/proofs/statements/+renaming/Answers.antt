use Rattle.std.specs.Prelude.{IfOk}
use Rattle.std.proofs.Common.{rules, length, subst, ◌+◌, ◌≡◌, ap, refl, sym, ◌∙◌, arith}
use Rattle.sem_words.specs.Lists.{list_items}
use Rattle.asm_tree.specs.Views.{stmt_view, stmts_view, clauses_view}
use Rattle.asm_tree.proofs.Views.{stmt_view-Block, stmt_view-While, stmt_view-DoWhile, stmt_view-For, stmt_view-Labelled, stmt_view-Switch}
use Rattle.asm_lang_valid.specs.Rows.{stmt_count, stmts_count, clauses_count}
use Rattle.asm_short_lang.specs.Renaming.{labels_in, labels_in_all, labels_in_clauses}
use Rattle.asm_short_tree.specs.Bodies.{new_labels, stmt_inside, stmts_by, clauses_by}
use Rattle.asm_short_tree.proofs.Counts.{texts_count}
use Rattle.asm_short_tree.proofs.Blocks.{all_count, none_count, clauses_labels, no_clauses_count, all_size, clauses_size, stmt_done, stmts_done, clause_done, clauses_done, first_count, first_size, both_count, second_size, labelled_is}
use Rattle.asm_short_tree.proofs.statements.+renaming.Goals as goal

pub renamed_stmt-renamed_stmts-requires : goal.renamed_stmt-renamed_stmts-requires
renamed_stmt-renamed_stmts-requires t c =
    let k = c.in-Block in
    let room = c.requires in
    let is = ap stmt_view k.is ∙ stmt_view-Block k.body in
    let count = ap labels_in is in
    let size = ap stmt_count is in
    let part = ap (λ l. labels_in_all (stmts_view l)) c.as_slice.ensures in
    let small = ap (λ l. stmts_count (stmts_view l)) c.as_slice.ensures in
    let d0 = c.decreases in
    (omega arith, omega arith)

pub renamed_stmt-renamed_body-requires : goal.renamed_stmt-renamed_body-requires
renamed_stmt-renamed_body-requires t c =
    let k = c.in-If in
    let room = c.requires in
    let count = first_count c.args.stmt.now k.first k.second k.condition k.is in
    let size = first_size c.args.stmt.now k.first k.second k.condition k.is in
    let same = ap (λ s. labels_in (stmt_view s)) c.deref.ensures in
    let small = ap (λ s. stmt_count (stmt_view s)) c.deref.ensures in
    let d0 = c.decreases in
    (omega arith, omega arith)

pub renamed_stmt-renamed_body-requires-in-Some : goal.renamed_stmt-renamed_body-requires-in-Some
renamed_stmt-renamed_body-requires-in-Some t c =
    let k = c.in-If in
    let room = c.requires in
    let count = both_count c.args.stmt.now k.first k.second c.in-Some.second k.condition k.is c.in-Some.is in
    let size = second_size c.args.stmt.now k.first k.second c.in-Some.second k.condition k.is c.in-Some.is in
    let same = ap (λ s. labels_in (stmt_view s)) c.deref.ensures in
    let other = ap (λ s. labels_in (stmt_view s)) c.deref-in-Some.ensures in
    let small = ap (λ s. stmt_count (stmt_view s)) c.deref-in-Some.ensures in
    let counted = c.in_ok-first-in-If.ensures.counted in
    let d0 = c.decreases in
    (omega arith, omega arith)

pub renamed_stmt-renamed_body-requires-in-While : goal.renamed_stmt-renamed_body-requires-in-While
renamed_stmt-renamed_body-requires-in-While t c =
    let k = c.in-While in
    let room = c.requires in
    let is = ap stmt_view k.is ∙ stmt_view-While k.condition k.body in
    let count = ap labels_in is in
    let size = ap stmt_count is in
    let part = ap (λ s. labels_in (stmt_view s)) c.deref-in-While.ensures in
    let small = ap (λ s. stmt_count (stmt_view s)) c.deref-in-While.ensures in
    let d0 = c.decreases in
    (omega arith, omega arith)

pub renamed_stmt-renamed_body-requires-in-DoWhile : goal.renamed_stmt-renamed_body-requires-in-DoWhile
renamed_stmt-renamed_body-requires-in-DoWhile t c =
    let k = c.in-DoWhile in
    let room = c.requires in
    let is = ap stmt_view k.is ∙ stmt_view-DoWhile k.body k.condition in
    let count = ap labels_in is in
    let size = ap stmt_count is in
    let part = ap (λ s. labels_in (stmt_view s)) c.deref-in-DoWhile.ensures in
    let small = ap (λ s. stmt_count (stmt_view s)) c.deref-in-DoWhile.ensures in
    let d0 = c.decreases in
    (omega arith, omega arith)

pub renamed_stmt-renamed_body-requires-in-For : goal.renamed_stmt-renamed_body-requires-in-For
renamed_stmt-renamed_body-requires-in-For t c =
    let k = c.in-For in
    let room = c.requires in
    let is = ap stmt_view k.is ∙ stmt_view-For k.head k.body in
    let count = ap labels_in is in
    let size = ap stmt_count is in
    let part = ap (λ s. labels_in (stmt_view s)) c.deref-in-For.ensures in
    let small = ap (λ s. stmt_count (stmt_view s)) c.deref-in-For.ensures in
    let d0 = c.decreases in
    (omega arith, omega arith)

pub renamed_stmt-renamed_labelled-requires : goal.renamed_stmt-renamed_labelled-requires
renamed_stmt-renamed_labelled-requires t c =
    let k = c.in-Labelled in
    let room = c.requires in
    let is = ap stmt_view k.is ∙ stmt_view-Labelled k.labels k.body in
    let count = ap labels_in is in
    let size = ap stmt_count is in
    let small = ap (λ s. stmt_count (stmt_view s)) c.deref-in-Labelled.ensures in
    let texts = texts_count (list_items k.labels) in
    let names = ap (λ l. length l) c.as_slice-in-Labelled.ensures in
    let same = ap (λ s. labels_in (stmt_view s)) c.deref-in-Labelled.ensures in
    let d0 = c.decreases in
    (omega arith, omega arith)

pub renamed_stmt-returns-in-Labelled-clause-counted : goal.renamed_stmt-returns-in-Labelled-clause-counted
renamed_stmt-returns-in-Labelled-clause-counted t c =
    let k = c.in-Labelled in
    let count : labels_in (stmt_view c.args.stmt.now) ≡ length c.as_slice-in-Labelled.result.now + labels_in (stmt_view c.deref-in-Labelled.result.now) =
    ap (λ s. labels_in (stmt_view s)) k.is ∙ ap labels_in (stmt_view-Labelled k.labels k.body)
    ∙ (λ i. (texts_count (list_items k.labels) ∙ ap (λ l. length l) (sym c.as_slice-in-Labelled.ensures)) i + labels_in (stmt_view (sym c.deref-in-Labelled.ensures i))) in
    subst (λ n. IfOk c.renamed_labelled.result (λ _. c.renamed_labelled.new.before ≡ c.args.before.now + n)) (sym count) c.renamed_labelled.ensures.counted

pub renamed_stmt-renamed_clauses-requires : goal.renamed_stmt-renamed_clauses-requires
renamed_stmt-renamed_clauses-requires t c =
    let k = c.in-Switch in
    let room = c.requires in
    let is = ap stmt_view k.is ∙ stmt_view-Switch k.subject k.clauses in
    let count = ap labels_in is in
    let size = ap stmt_count is in
    let part = ap (λ l. labels_in_clauses (clauses_view l)) c.as_slice-in-Switch.ensures in
    let small = ap (λ l. clauses_count (clauses_view l)) c.as_slice-in-Switch.ensures in
    let d0 = c.decreases in
    (omega arith, omega arith)

pub renamed_labelled-returns-clause-renamed : goal.renamed_labelled-returns-clause-renamed
renamed_labelled-returns-clause-renamed t c =
    let labels = c.in_ok-labels.labels.items in
    labelled_is c.args.renaming.now c.args.around.now c.args.names.now labels c.in_ok-texts.texts c.in_ok-stmt.stmt c.args.before.now _ (stmt_view c.args.stmt.now) (c.in_ok-texts.ensures ∙ ap new_labels c.as_slice-2.ensures.value) c.in_ok-labels.ensures.olds c.in_ok-labels.ensures.news refl
    (c.in_ok-stmt.ensures.renamed ∙ ap (λ ls. stmt_inside c.args.renaming.now ls c.args.around.now (c.args.before.now + length c.args.names.now) (stmt_view c.args.stmt.now)) c.as_slice.ensures.value)

pub renamed_stmts-renamed_stmt-requires : goal.renamed_stmts-renamed_stmt-requires
renamed_stmts-renamed_stmt-requires t c =
    let counts = all_count c.args.stmts.now c.loop-stmt.stmt-index c.stmt-item.result c.loop-stmt-test.true c.stmt-item.is in
    let sizes = all_size c.args.stmts.now c.loop-stmt.stmt-index c.stmt-item.result c.loop-stmt-test.true c.stmt-item.is in
    let left = c.loop-stmt.invariant.left in
    let counted = c.loop-stmt.invariant.counted in
    let room = c.requires in
    let d0 = c.decreases in
    (omega arith, omega arith)

pub renamed_stmts-loop-stmt-preserved : goal.renamed_stmts-loop-stmt-preserved
renamed_stmts-loop-stmt-preserved t c =
    let l = c.loop-stmt in
    let x = c.stmt-item.result in
    let counts = all_count c.args.stmts.now l.stmt-index x c.loop-stmt-test.true c.stmt-item.is in
    let more = c.in_ok-stmt.ensures.counted in
    let counted = l.invariant.counted in
    let sizes = all_size c.args.stmts.now l.stmt-index x c.loop-stmt-test.true c.stmt-item.is in
    let left = l.invariant.left in
    record {
      renamed = stmt_done c.args.renaming.now c.args.around.now (list_items l.list) (list_items c.in_ok-list.list) c.args.stmts.now l.stmt-index l.before c.renamed_stmt.new.before x c.in_ok-stmt.stmt _ c.loop-stmt-test.true c.stmt-item.is c.in_ok-list.ensures c.in_ok-stmt.ensures.renamed more l.invariant.renamed;
      left = omega arith;
      counted = omega arith;
    }

pub renamed_stmts-returns : goal.renamed_stmts-returns
renamed_stmts-returns t c =
    let l = c.loop-stmt in
    let none = none_count c.args.stmts.now l.stmt-index c.loop-stmt-test.false in
    let counted = l.invariant.counted in
    record {
      renamed = stmts_done c.args.renaming.now c.args.around.now (list_items l.list) c.args.stmts.now l.stmt-index l.before _ c.loop-stmt-test.false l.invariant.renamed;
      counted = omega arith;
    }

pub renamed_clauses-renamed_stmts-requires : goal.renamed_clauses-renamed_stmts-requires
renamed_clauses-renamed_stmts-requires t c =
    let counts = clauses_labels c.args.clauses.now c.loop-clause.clause-index c.clause-item.result c.loop-clause-test.true c.clause-item.is in
    let sizes = clauses_size c.args.clauses.now c.loop-clause.clause-index c.clause-item.result c.loop-clause-test.true c.clause-item.is in
    let small = ap (λ l. stmts_count (stmts_view l)) c.as_slice.ensures in
    let left = c.loop-clause.invariant.left in
    let counted = c.loop-clause.invariant.counted in
    let room = c.requires in
    let same = ap (λ l. labels_in_all (stmts_view l)) c.as_slice.ensures in
    let d0 = c.decreases in
    (omega arith, omega arith)

pub renamed_clauses-loop-clause-preserved : goal.renamed_clauses-loop-clause-preserved
renamed_clauses-loop-clause-preserved t c =
    let l = c.loop-clause in
    let x = c.clause-item.result in
    let counts = clauses_labels c.args.clauses.now l.clause-index x c.loop-clause-test.true c.clause-item.is in
    let more : c.renamed_stmts.new.before ≡ l.before + labels_in_all (stmts_view (list_items x.body)) = c.in_ok-body.ensures.counted ∙ ap (λ b. l.before + labels_in_all (stmts_view b)) c.as_slice.ensures in
    let body : stmts_view (list_items c.in_ok-body.body) ≡ stmts_by c.args.renaming.now c.args.around.now l.before (stmts_view (list_items x.body)) = c.in_ok-body.ensures.renamed ∙ ap (λ b. stmts_by c.args.renaming.now c.args.around.now l.before (stmts_view b)) c.as_slice.ensures in
    let counted = l.invariant.counted in
    let sizes = clauses_size c.args.clauses.now l.clause-index x c.loop-clause-test.true c.clause-item.is in
    let left = l.invariant.left in
    record {
      renamed = clause_done c.args.renaming.now c.args.around.now (list_items l.list) (list_items c.in_ok-list.list) c.args.clauses.now l.clause-index l.before c.renamed_stmts.new.before x _ _ c.loop-clause-test.true c.clause-item.is c.in_ok-list.ensures refl body more l.invariant.renamed;
      left = omega arith;
      counted = omega arith;
    }

pub renamed_clauses-returns : goal.renamed_clauses-returns
renamed_clauses-returns t c =
    let l = c.loop-clause in
    let none = no_clauses_count c.args.clauses.now l.clause-index c.loop-clause-test.false in
    let counted = l.invariant.counted in
    record {
      renamed = clauses_done c.args.renaming.now c.args.around.now (list_items l.list) c.args.clauses.now l.clause-index l.before _ c.loop-clause-test.false l.invariant.renamed;
      counted = omega arith;
    }
