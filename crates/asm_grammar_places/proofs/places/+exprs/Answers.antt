use Rattle.std.proofs.Common.{rules, ◌≡◌, List, [], ◌∷◌, ◌++◌, map, ◌&&◌, sym, ap, subst, ◌∙◌, arith}
use Rattle.std.specs.Prelude.{OnOk}
use Rattle.sem_words.specs.Lists.{list_items}
use Rattle.asm_lang.specs.Modules.{is_sum, expr_of, expr_places, exprs_places}
use Rattle.asm_grammar_nodes.specs.Heights.{is_chain}
use Rattle.asm_grammar_nodes.specs.Views.{expr_view, exprs_view, addend_view}
use Rattle.asm_grammar_nodes.specs.declared.tree.Addend.{Addend}
use Rattle.asm_grammar_places.specs.Parts.{own_place, sum_place, addends_places}
use Rattle.asm_grammar_places.proofs.PlaceLemmas.{places_say, one_part, two_parts, three_parts, addends_places-step, item_done, places-Element, places-Call, places-TableCall, places-Assignment, places-Store, places-Unary, places-Conditional, places-Listed, places-Binary, places-Sum}
use Rattle.asm_grammar_places.proofs.places.+exprs.Goals as goal

pub addends_places-loop-addend-preserved : goal.addends_places-loop-addend-preserved
addends_places-loop-addend-preserved t c =
    let l = c.loop-addend in
    let a = c.addend-item.result in
    let more : list_items c.expr_places.new.places ≡ list_items l.places ++ expr_places (expr_view a.operand) = search rules in
    item_done (λ (xs : List Addend). addends_places (map addend_view xs)) (λ (x : Addend). expr_places (expr_view x.operand)) addends_places-step (list_items c.args.places.now) (list_items l.places) (list_items c.expr_places.new.places)
    c.args.addends.now l.addend-index a (omega arith) c.addend-item.is more l.invariant

pub expr_places-returns-in_ok-put_place-in-Element : goal.expr_places-returns-in_ok-put_place-in-Element
expr_places-returns-in_ok-put_place-in-Element t c =
    let k = c.in-Element in
    let whole : expr_places (expr_view c.args.tree.now) ≡ k.at ∷ expr_places (expr_view c.deref.result.now) = places_say _ _ _ k.is (places-Element k.at k.field-1 k.index) ∙ sym (λ i. k.at ∷ expr_places (expr_view (c.deref.ensures i))) in
    subst (λ z. OnOk c.expr_places.result (list_items c.expr_places.new.places ≡ z)) (one_part (list_items c.args.places.now) (k.at ∷ []) (expr_places (expr_view c.deref.result.now)) (list_items c.put_place-in-Element.new.places) (expr_places (expr_view c.args.tree.now)) c.in_ok-put_place-in-Element.ensures whole) c.expr_places.ensures

pub expr_places-returns-in_ok-put_place-in-Call : goal.expr_places-returns-in_ok-put_place-in-Call
expr_places-returns-in_ok-put_place-in-Call t c =
    let k = c.in-Call in
    let whole : expr_places (expr_view c.args.tree.now) ≡ k.at ∷ exprs_places (exprs_view c.as_slice.result.now) = places_say _ _ _ k.is (places-Call k.at k.field-1 k.arguments) ∙ sym (λ i. k.at ∷ exprs_places (exprs_view (c.as_slice.ensures i))) in
    subst (λ z. OnOk c.exprs_places.result (list_items c.exprs_places.new.places ≡ z)) (one_part (list_items c.args.places.now) (k.at ∷ []) (exprs_places (exprs_view c.as_slice.result.now)) (list_items c.put_place-in-Call.new.places) (expr_places (expr_view c.args.tree.now)) c.in_ok-put_place-in-Call.ensures whole) c.exprs_places.ensures

pub expr_places-returns-in_ok-expr_places-in-TableCall : goal.expr_places-returns-in_ok-expr_places-in-TableCall
expr_places-returns-in_ok-expr_places-in-TableCall t c =
    let k = c.in-TableCall in
    let whole : expr_places (expr_view c.args.tree.now) ≡ k.at ∷ (expr_places (expr_view c.deref-in-TableCall.result.now) ++ exprs_places (exprs_view c.as_slice-in-TableCall.result.now)) = places_say _ _ _ k.is (places-TableCall k.at k.field-1 k.index k.arguments) ∙ sym (λ i. k.at ∷ (expr_places (expr_view (c.deref-in-TableCall.ensures i)) ++ exprs_places (exprs_view (c.as_slice-in-TableCall.ensures i)))) in
    subst (λ z. OnOk c.exprs_places-in-TableCall.result (list_items c.exprs_places-in-TableCall.new.places ≡ z)) (two_parts (list_items c.args.places.now) (k.at ∷ []) (expr_places (expr_view c.deref-in-TableCall.result.now)) (exprs_places (exprs_view c.as_slice-in-TableCall.result.now)) (list_items c.put_place-in-TableCall.new.places) (list_items c.expr_places-in-TableCall.new.places) (expr_places (expr_view c.args.tree.now)) c.in_ok-put_place-in-TableCall.ensures c.in_ok-expr_places-in-TableCall.ensures whole) c.exprs_places-in-TableCall.ensures

pub expr_places-returns-in_ok-put_place-in-Assignment : goal.expr_places-returns-in_ok-put_place-in-Assignment
expr_places-returns-in_ok-put_place-in-Assignment t c =
    let k = c.in-Assignment in
    let whole : expr_places (expr_view c.args.tree.now) ≡ k.at ∷ expr_places (expr_view c.deref-in-Assignment.result.now) = places_say _ _ _ k.is (places-Assignment k.at k.field-1 k.value) ∙ sym (λ i. k.at ∷ expr_places (expr_view (c.deref-in-Assignment.ensures i))) in
    subst (λ z. OnOk c.expr_places-in-Assignment.result (list_items c.expr_places-in-Assignment.new.places ≡ z)) (one_part (list_items c.args.places.now) (k.at ∷ []) (expr_places (expr_view c.deref-in-Assignment.result.now)) (list_items c.put_place-in-Assignment.new.places) (expr_places (expr_view c.args.tree.now)) c.in_ok-put_place-in-Assignment.ensures whole) c.expr_places-in-Assignment.ensures

pub expr_places-returns-in_ok-expr_places-in-Store : goal.expr_places-returns-in_ok-expr_places-in-Store
expr_places-returns-in_ok-expr_places-in-Store t c =
    let k = c.in-Store in
    let whole : expr_places (expr_view c.args.tree.now) ≡ k.at ∷ (expr_places (expr_view c.deref-in-Store.result.now) ++ expr_places (expr_view c.deref-in-Store-2.result.now)) = places_say _ _ _ k.is (places-Store k.at k.field-1 k.index k.value) ∙ sym (λ i. k.at ∷ (expr_places (expr_view (c.deref-in-Store.ensures i)) ++ expr_places (expr_view (c.deref-in-Store-2.ensures i)))) in
    subst (λ z. OnOk c.expr_places-in-Store-2.result (list_items c.expr_places-in-Store-2.new.places ≡ z)) (two_parts (list_items c.args.places.now) (k.at ∷ []) (expr_places (expr_view c.deref-in-Store.result.now)) (expr_places (expr_view c.deref-in-Store-2.result.now)) (list_items c.put_place-in-Store.new.places) (list_items c.expr_places-in-Store.new.places) (expr_places (expr_view c.args.tree.now)) c.in_ok-put_place-in-Store.ensures c.in_ok-expr_places-in-Store.ensures whole) c.expr_places-in-Store-2.ensures

pub expr_places-returns-in_ok-put_place-in-Unary : goal.expr_places-returns-in_ok-put_place-in-Unary
expr_places-returns-in_ok-put_place-in-Unary t c =
    let k = c.in-Unary in
    let whole : expr_places (expr_view c.args.tree.now) ≡ k.at ∷ expr_places (expr_view c.deref-in-Unary.result.now) = places_say _ _ _ k.is (places-Unary k.at k.field-1 k.operand) ∙ sym (λ i. k.at ∷ expr_places (expr_view (c.deref-in-Unary.ensures i))) in
    subst (λ z. OnOk c.expr_places-in-Unary.result (list_items c.expr_places-in-Unary.new.places ≡ z)) (one_part (list_items c.args.places.now) (k.at ∷ []) (expr_places (expr_view c.deref-in-Unary.result.now)) (list_items c.put_place-in-Unary.new.places) (expr_places (expr_view c.args.tree.now)) c.in_ok-put_place-in-Unary.ensures whole) c.expr_places-in-Unary.ensures

pub expr_places-returns-in_ok-expr_places-in-Conditional-2 : goal.expr_places-returns-in_ok-expr_places-in-Conditional-2
expr_places-returns-in_ok-expr_places-in-Conditional-2 t c =
    let k = c.in-Conditional in
    let whole : expr_places (expr_view c.args.tree.now) ≡ k.at ∷ (expr_places (expr_view c.deref-in-Conditional.result.now) ++ (expr_places (expr_view c.deref-in-Conditional-2.result.now) ++ expr_places (expr_view c.deref-in-Conditional-3.result.now))) = places_say _ _ _ k.is (places-Conditional k.at k.condition k.first k.second) ∙ sym (λ i. k.at ∷ (expr_places (expr_view (c.deref-in-Conditional.ensures i)) ++ (expr_places (expr_view (c.deref-in-Conditional-2.ensures i)) ++ expr_places (expr_view (c.deref-in-Conditional-3.ensures i))))) in
    subst (λ z. OnOk c.expr_places-in-Conditional-3.result (list_items c.expr_places-in-Conditional-3.new.places ≡ z)) (three_parts (list_items c.args.places.now) (k.at ∷ []) (expr_places (expr_view c.deref-in-Conditional.result.now)) (expr_places (expr_view c.deref-in-Conditional-2.result.now)) (expr_places (expr_view c.deref-in-Conditional-3.result.now)) (list_items c.put_place-in-Conditional.new.places) (list_items c.expr_places-in-Conditional.new.places) (list_items c.expr_places-in-Conditional-2.new.places) (expr_places (expr_view c.args.tree.now)) c.in_ok-put_place-in-Conditional.ensures c.in_ok-expr_places-in-Conditional.ensures c.in_ok-expr_places-in-Conditional-2.ensures whole) c.expr_places-in-Conditional-3.ensures

pub expr_places-returns-in_ok-put_place-in-Listed : goal.expr_places-returns-in_ok-put_place-in-Listed
expr_places-returns-in_ok-put_place-in-Listed t c =
    let k = c.in-Listed in
    let whole : expr_places (expr_view c.args.tree.now) ≡ k.at ∷ exprs_places (exprs_view c.as_slice-in-Listed.result.now) = places_say _ _ _ k.is (places-Listed k.at k.parts) ∙ sym (λ i. k.at ∷ exprs_places (exprs_view (c.as_slice-in-Listed.ensures i))) in
    subst (λ z. OnOk c.exprs_places-in-Listed.result (list_items c.exprs_places-in-Listed.new.places ≡ z)) (one_part (list_items c.args.places.now) (k.at ∷ []) (exprs_places (exprs_view c.as_slice-in-Listed.result.now)) (list_items c.put_place-in-Listed.new.places) (expr_places (expr_view c.args.tree.now)) c.in_ok-put_place-in-Listed.ensures whole) c.exprs_places-in-Listed.ensures

pub expr_places-returns-in_ok-expr_places-in-Binary : goal.expr_places-returns-in_ok-expr_places-in-Binary
expr_places-returns-in_ok-expr_places-in-Binary t c =
    let k = c.in-Binary in
    let own = own_place (is_sum k.operator && is_chain (expr_of (expr_view c.deref-in-Binary.result.now))) k.at in
    let left = expr_places (expr_view c.deref-in-Binary-2.result.now) in
    let right = expr_places (expr_view c.deref-in-Binary-3.result.now) in
    let whole : expr_places (expr_view c.args.tree.now) ≡ own ++ (left ++ right) = places_say _ _ _ k.is (places-Binary k.at k.left k.operator k.right)
    ∙ sym (λ i. own_place (is_sum k.operator && is_chain (expr_of (expr_view (c.deref-in-Binary.ensures i)))) k.at ++ (expr_places (expr_view (c.deref-in-Binary-2.ensures i)) ++ expr_places (expr_view (c.deref-in-Binary-3.ensures i)))) in
    subst (λ z. OnOk c.expr_places-in-Binary-2.result (list_items c.expr_places-in-Binary-2.new.places ≡ z)) (two_parts (list_items c.args.places.now) own left right (list_items c.binary_place.new.places) (list_items c.expr_places-in-Binary.new.places) (expr_places (expr_view c.args.tree.now)) c.in_ok-binary_place-in-Binary.ensures c.in_ok-expr_places-in-Binary.ensures whole) c.expr_places-in-Binary-2.ensures

pub expr_places-returns-in_ok-expr_places-in-Sum : goal.expr_places-returns-in_ok-expr_places-in-Sum
expr_places-returns-in_ok-expr_places-in-Sum t c =
    let k = c.in-Sum in
    let own = sum_place c.is_chain.result (map addend_view c.as_slice-in-Sum.result.now) in
    let first = expr_places (expr_view c.deref-in-Sum-2.result.now) in
    let others = addends_places (map addend_view c.as_slice-in-Sum-2.result.now) in
    let chain' : c.is_chain.result ≡ is_chain (expr_of (expr_view k.first.value)) = c.is_chain.ensures ∙ ap (λ e. is_chain (expr_of (expr_view e))) c.deref-in-Sum.ensures in
    let whole : expr_places (expr_view c.args.tree.now) ≡ own ++ (first ++ others) = places_say _ _ _ k.is (places-Sum k.first k.others)
    ∙ sym (λ i. sum_place (chain' i) (map addend_view (c.as_slice-in-Sum.ensures i)) ++ (expr_places (expr_view (c.deref-in-Sum-2.ensures i)) ++ addends_places (map addend_view (c.as_slice-in-Sum-2.ensures i)))) in
    subst (λ z. OnOk c.addends_places.result (list_items c.addends_places.new.places ≡ z)) (two_parts (list_items c.args.places.now) own first others (list_items c.sum_place.new.places) (list_items c.expr_places-in-Sum.new.places) (expr_places (expr_view c.args.tree.now)) c.in_ok-sum_place-in-Sum.ensures c.in_ok-expr_places-in-Sum.ensures whole) c.addends_places.ensures
