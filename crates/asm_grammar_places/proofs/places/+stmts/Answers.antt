use Rattle.std.proofs.Common.{rules, ◌≡◌, length, List, [], ◌∷◌, ◌++◌, sym, ap, subst, ◌∙◌, arith}
use Rattle.std.specs.Prelude.{OnOk}
use Rattle.std.proofs.lemmas.Grind.{common_steps}
use Rattle.sem_words.specs.Lists.{list_items}
use Rattle.asm_lang.specs.Modules.{expr_places, option_places, stmt_places, stmts_places, clauses_places}
use Rattle.asm_grammar_nodes.specs.Views.{expr_view, expr_option, stmt_view, stmts_view, clauses_view}
use Rattle.asm_grammar_nodes.specs.declared.tree.ClauseTree.{ClauseTree}
use Rattle.asm_grammar_places.specs.Parts.{head_places}
use Rattle.asm_grammar_places.proofs.PlaceLemmas.{stmt_places_say, one_part, two_parts, clauses_places-step, item_done, nothing, places-Block, places-Plain, places-Return, places-While, places-DoWhile, places-For_head, places-Switch, places-Unlabelled}
use Rattle.asm_grammar_places.proofs.places.+stmts.Goals as goal

pub clauses_places-loop-clause-preserved : goal.clauses_places-loop-clause-preserved
clauses_places-loop-clause-preserved t c =
    let l = c.loop-clause in
    let a = c.clause-item.result in
    let more : list_items c.stmts_places.new.places ≡ list_items l.places ++ stmts_places (stmts_view (list_items a.body)) = search rules in
    item_done (λ (xs : List ClauseTree). clauses_places (clauses_view xs)) (λ (x : ClauseTree). stmts_places (stmts_view (list_items x.body))) clauses_places-step (list_items c.args.places.now) (list_items l.places) (list_items c.stmts_places.new.places)
    c.args.clauses.now l.clause-index a (omega arith) c.clause-item.is more l.invariant

pub stmt_places-returns-in-None-split_first : goal.stmt_places-returns-in-None-split_first
stmt_places-returns-in-None-split_first t c =
    let k = c.in-Labelled in
    let zero : length (list_items k.labels) ≡ 0 = grind (arith, common_steps) in
    let none = nothing (list_items k.labels) zero in
    let body : c.deref-in-None-split_first.result.now ≡ k.body.value = search rules in
    let whole : stmt_places (stmt_view c.deref-in-None-split_first.result.now) ≡ stmt_places (stmt_view c.args.tree.now) =
    ap (λ s. stmt_places (stmt_view s)) body ∙ sym (ap (λ s. stmt_places (stmt_view s)) k.is ∙ places-Unlabelled k.labels k.body none) in
    subst (λ z. OnOk c.stmt_places-in-None-split_first.result (list_items c.stmt_places-in-None-split_first.new.places ≡ list_items c.args.places.now ++ z)) whole c.stmt_places-in-None-split_first.ensures

pub stmt_places-returns-in_ok-put_place-in-Block : goal.stmt_places-returns-in_ok-put_place-in-Block
stmt_places-returns-in_ok-put_place-in-Block t c =
    let k = c.in-Block in
    let whole : stmt_places (stmt_view c.args.tree.now) ≡ k.at ∷ stmts_places (stmts_view c.as_slice.result.now) = stmt_places_say _ _ _ k.is (places-Block k.at k.body) ∙ sym (λ i. k.at ∷ stmts_places (stmts_view (c.as_slice.ensures i))) in
    subst (λ z. OnOk c.stmts_places.result (list_items c.stmts_places.new.places ≡ z)) (one_part (list_items c.args.places.now) (k.at ∷ []) (stmts_places (stmts_view c.as_slice.result.now)) (list_items c.put_place.new.places) (stmt_places (stmt_view c.args.tree.now)) c.in_ok-put_place-in-Block.ensures whole) c.stmts_places.ensures

pub stmt_places-returns-in_ok-put_place-in-Plain : goal.stmt_places-returns-in_ok-put_place-in-Plain
stmt_places-returns-in_ok-put_place-in-Plain t c =
    let k = c.in-Plain in
    let whole : stmt_places (stmt_view c.args.tree.now) ≡ k.at ∷ expr_places (expr_view c.deref.result.now) = stmt_places_say _ _ _ k.is (places-Plain k.at k.expr) ∙ sym (λ i. k.at ∷ expr_places (expr_view (c.deref.ensures i))) in
    subst (λ z. OnOk c.expr_places.result (list_items c.expr_places.new.places ≡ z)) (one_part (list_items c.args.places.now) (k.at ∷ []) (expr_places (expr_view c.deref.result.now)) (list_items c.put_place-in-Plain.new.places) (stmt_places (stmt_view c.args.tree.now)) c.in_ok-put_place-in-Plain.ensures whole) c.expr_places.ensures

pub stmt_places-returns-in_ok-put_place-in-Return : goal.stmt_places-returns-in_ok-put_place-in-Return
stmt_places-returns-in_ok-put_place-in-Return t c =
    let k = c.in-Return in
    let whole : stmt_places (stmt_view c.args.tree.now) ≡ k.at ∷ option_places (expr_option k.value) = stmt_places_say _ _ _ k.is (places-Return k.at k.value) in
    subst (λ z. OnOk c.option_places.result (list_items c.option_places.new.places ≡ z)) (one_part (list_items c.args.places.now) (k.at ∷ []) (option_places (expr_option k.value)) (list_items c.put_place-in-Return.new.places) (stmt_places (stmt_view c.args.tree.now)) c.in_ok-put_place-in-Return.ensures whole) c.option_places.ensures

pub stmt_places-returns-in_ok-expr_places-in-While : goal.stmt_places-returns-in_ok-expr_places-in-While
stmt_places-returns-in_ok-expr_places-in-While t c =
    let k = c.in-While in
    let whole : stmt_places (stmt_view c.args.tree.now) ≡ k.at ∷ (expr_places (expr_view c.deref-in-While.result.now) ++ stmt_places (stmt_view c.deref-in-While-2.result.now)) = stmt_places_say _ _ _ k.is (places-While k.at k.condition k.body) ∙ sym (λ i. k.at ∷ (expr_places (expr_view (c.deref-in-While.ensures i)) ++ stmt_places (stmt_view (c.deref-in-While-2.ensures i)))) in
    subst (λ z. OnOk c.stmt_places-in-While.result (list_items c.stmt_places-in-While.new.places ≡ z)) (two_parts (list_items c.args.places.now) (k.at ∷ []) (expr_places (expr_view c.deref-in-While.result.now)) (stmt_places (stmt_view c.deref-in-While-2.result.now)) (list_items c.put_place-in-While.new.places) (list_items c.expr_places-in-While.new.places) (stmt_places (stmt_view c.args.tree.now)) c.in_ok-put_place-in-While.ensures c.in_ok-expr_places-in-While.ensures whole) c.stmt_places-in-While.ensures

pub stmt_places-returns-in_ok-stmt_places-in-DoWhile : goal.stmt_places-returns-in_ok-stmt_places-in-DoWhile
stmt_places-returns-in_ok-stmt_places-in-DoWhile t c =
    let k = c.in-DoWhile in
    let whole : stmt_places (stmt_view c.args.tree.now) ≡ k.at ∷ (stmt_places (stmt_view c.deref-in-DoWhile.result.now) ++ expr_places (expr_view c.deref-in-DoWhile-2.result.now)) = stmt_places_say _ _ _ k.is (places-DoWhile k.at k.body k.condition) ∙ sym (λ i. k.at ∷ (stmt_places (stmt_view (c.deref-in-DoWhile.ensures i)) ++ expr_places (expr_view (c.deref-in-DoWhile-2.ensures i)))) in
    subst (λ z. OnOk c.expr_places-in-DoWhile.result (list_items c.expr_places-in-DoWhile.new.places ≡ z)) (two_parts (list_items c.args.places.now) (k.at ∷ []) (stmt_places (stmt_view c.deref-in-DoWhile.result.now)) (expr_places (expr_view c.deref-in-DoWhile-2.result.now)) (list_items c.put_place-in-DoWhile.new.places) (list_items c.stmt_places-in-DoWhile.new.places) (stmt_places (stmt_view c.args.tree.now)) c.in_ok-put_place-in-DoWhile.ensures c.in_ok-stmt_places-in-DoWhile.ensures whole) c.expr_places-in-DoWhile.ensures

pub stmt_places-returns-in_ok-head_places-in-For : goal.stmt_places-returns-in_ok-head_places-in-For
stmt_places-returns-in_ok-head_places-in-For t c =
    let k = c.in-For in
    let whole : stmt_places (stmt_view c.args.tree.now) ≡ k.at ∷ (head_places c.deref-in-For.result.now ++ stmt_places (stmt_view c.deref-in-For-2.result.now)) = stmt_places_say _ _ _ k.is (places-For_head k.at k.head k.body) ∙ sym (λ i. k.at ∷ (head_places (c.deref-in-For.ensures i) ++ stmt_places (stmt_view (c.deref-in-For-2.ensures i)))) in
    subst (λ z. OnOk c.stmt_places-in-For.result (list_items c.stmt_places-in-For.new.places ≡ z)) (two_parts (list_items c.args.places.now) (k.at ∷ []) (head_places c.deref-in-For.result.now) (stmt_places (stmt_view c.deref-in-For-2.result.now)) (list_items c.put_place-in-For.new.places) (list_items c.head_places.new.places) (stmt_places (stmt_view c.args.tree.now)) c.in_ok-put_place-in-For.ensures c.in_ok-head_places-in-For.ensures whole) c.stmt_places-in-For.ensures

pub stmt_places-returns-in_ok-expr_places-in-Switch : goal.stmt_places-returns-in_ok-expr_places-in-Switch
stmt_places-returns-in_ok-expr_places-in-Switch t c =
    let k = c.in-Switch in
    let whole : stmt_places (stmt_view c.args.tree.now) ≡ k.at ∷ (expr_places (expr_view c.deref-in-Switch.result.now) ++ clauses_places (clauses_view c.as_slice-in-Switch.result.now)) = stmt_places_say _ _ _ k.is (places-Switch k.at k.subject k.clauses) ∙ sym (λ i. k.at ∷ (expr_places (expr_view (c.deref-in-Switch.ensures i)) ++ clauses_places (clauses_view (c.as_slice-in-Switch.ensures i)))) in
    subst (λ z. OnOk c.clauses_places.result (list_items c.clauses_places.new.places ≡ z)) (two_parts (list_items c.args.places.now) (k.at ∷ []) (expr_places (expr_view c.deref-in-Switch.result.now)) (clauses_places (clauses_view c.as_slice-in-Switch.result.now)) (list_items c.put_place-in-Switch.new.places) (list_items c.expr_places-in-Switch.new.places) (stmt_places (stmt_view c.args.tree.now)) c.in_ok-put_place-in-Switch.ensures c.in_ok-expr_places-in-Switch.ensures whole) c.clauses_places.ensures
