-- What a string stands for is nothing to the grammar.
use Rattle.std.proofs.Common.{◌≡◌, ℕ, List, [], ◌∷◌, refl, ap, ◌∙◌}
use Rattle.wat_lang.specs.Tokens.{string}
use Rattle.wat_lang.specs.Grammar.{Want, an_opening, a_closing, a_string, a_number, an_id, an_index, a_value_type, offset_atom, alignment_atom, a_word, Item, token, rule, Row, meets, rows, may_end}
use Rattle.wat_laws_grammar.specs.Machine.{if_true, pick, pick_by, by_row, feed}

meets_alike : (w : Want) (v u : List ℕ) → meets w (string v) ≡ meets w (string u)
meets_alike an_opening v u = refl
meets_alike a_closing v u = refl
meets_alike a_string v u = refl
meets_alike a_number v u = refl
meets_alike an_id v u = refl
meets_alike an_index v u = refl
meets_alike a_value_type v u = refl
meets_alike offset_atom v u = refl
meets_alike alignment_atom v u = refl
meets_alike (a_word w) v u = refl

picked_alike : (ws : List Row) (v u : List ℕ) → pick ws (string v) ≡ pick ws (string u)
picked_alike [] v u = refl
picked_alike (w ∷ ws) v u = ap (pick_by w (pick ws (string v))) (meets_alike w.want v u) ∙ ap (λ x. pick_by w x (meets w.want (string u))) (picked_alike ws v u)

pub fed_alike : (is : List Item) (v u : List ℕ) → feed is (string v) ≡ feed is (string u)
fed_alike [] v u = refl
fed_alike (token w m ∷ is) v u = ap (if_true _) (meets_alike w v u)
fed_alike (rule r ∷ is) v u =
    ap (by_row is (if_true (feed is (string v)) (may_end r))) (picked_alike (rows r) v u)
    ∙ ap (λ x. by_row is (if_true x (may_end r)) (pick (rows r) (string u))) (fed_alike is v u)
