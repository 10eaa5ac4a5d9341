-- The equations of the heights of trees.
use Rattle.std.proofs.Common.{◌≡◌, ℕ, ◌+◌, min, max, Bool, true, false, ◌&&◌, if◌then◌else◌, List, [], ◌∷◌, ◌++◌, map, refl, ap, ◌∙◌, arith}
use Rattle.sem_words.specs.declared.text.Text.{Text}
use Rattle.std.specs.Global.{Global}
use Rattle.std.specs.declared.boxed.Box.{Box}
use Rattle.sem_words.specs.Lists.{list_items}
use Rattle.sem_words.specs.declared.list.List.{List as Listed}
use Rattle.sem_words.specs.declared.js_value.JsOp.{JsOp}
use Rattle.sem_words.specs.declared.js_value.JsOp.TheVariants.{Add, Sub}
use Rattle.sem_words.specs.declared.js_value.JsUnary.{JsUnary}
use Rattle.asm_lang.specs.Trees.{ExprTree, binary}
use Rattle.asm_lang.specs.Modules.{Expr, chain, chained, binary_of, is_sum, expr_of}
use Rattle.asm_lang.specs.Heights.{expr_height}
use Rattle.asm_lang.specs.TreeHeights.{height, all_height}
use Rattle.asm_laws_height.specs.Rises.{Rise, risen, one_more, second_operand, chain_floor, binary_floor, capped_rise}
use Rattle.asm_laws_height.proofs.Sizes.{binary_height, more_height}
use Rattle.asm_grammar_nodes.specs.declared.tree.ExprTree.{ExprTree as CodeExpr}
use Rattle.asm_grammar_nodes.specs.declared.tree.ExprTree.TheVariants as exprs
use Rattle.asm_grammar_nodes.specs.declared.tree.Addend.{Addend as CodeAddend}
use Rattle.asm_grammar_nodes.specs.Heights.{is_chain}
use Rattle.asm_grammar_nodes.specs.Views.{AddendView, addend_view, sign_of, sum_in, expr_view, exprs_view}
use Rattle.asm_grammar_nodes.proofs.Views.{expr_view-Literal, expr_view-Negative, expr_view-Decimals, expr_view-Variable, expr_view-Element, expr_view-Call, expr_view-TableCall, expr_view-Assignment, expr_view-Store, expr_view-Unary, expr_view-Binary, expr_view-Sum, expr_view-Conditional, expr_view-Listed, exprs_view-last, views}

pub height-Literal : (at : ℕ) (v : ℕ) → height (expr_view (exprs.Literal at v)) ≡ 1
height-Literal at v = ap height (expr_view-Literal at v)

pub height-Negative : (at : ℕ) (v : ℕ) → height (expr_view (exprs.Negative at v)) ≡ 1
height-Negative at v = ap height (expr_view-Negative at v)

pub height-Decimals : (at : ℕ) (t : Text) → height (expr_view (exprs.Decimals at t)) ≡ 1
height-Decimals at t = ap height (expr_view-Decimals at t)

pub height-Variable : (at : ℕ) (n : Text) → height (expr_view (exprs.Variable at n)) ≡ 1
height-Variable at n = ap height (expr_view-Variable at n)

pub height-Element : (at : ℕ) (n : Text) (i : Box CodeExpr Global) → height (expr_view (exprs.Element at n i)) ≡ 1 + height (expr_view i.value)
height-Element at n i = ap height (expr_view-Element at n i)

pub height-Call : (at : ℕ) (n : Text) (es : Listed CodeExpr) → height (expr_view (exprs.Call at n es)) ≡ 1 + all_height (exprs_view (list_items es))
height-Call at n es = ap height (expr_view-Call at n es)

pub height-TableCall : (at : ℕ) (n : Text) (i : Box CodeExpr Global) (es : Listed CodeExpr) → height (expr_view (exprs.TableCall at n i es)) ≡ 1 + max (height (expr_view i.value)) (all_height (exprs_view (list_items es)))
height-TableCall at n i es = ap height (expr_view-TableCall at n i es)

pub height-Assignment : (at : ℕ) (n : Text) (e : Box CodeExpr Global) → height (expr_view (exprs.Assignment at n e)) ≡ 1 + height (expr_view e.value)
height-Assignment at n e = ap height (expr_view-Assignment at n e)

pub height-Store : (at : ℕ) (n : Text) (i : Box CodeExpr Global) (e : Box CodeExpr Global) → height (expr_view (exprs.Store at n i e)) ≡ 1 + max (height (expr_view i.value)) (height (expr_view e.value))
height-Store at n i e = ap height (expr_view-Store at n i e)

pub height-Unary : (at : ℕ) (op : JsUnary) (e : Box CodeExpr Global) → height (expr_view (exprs.Unary at op e)) ≡ 1 + height (expr_view e.value)
height-Unary at op e = ap height (expr_view-Unary at op e)

pub height-Conditional : (at : ℕ) (c : Box CodeExpr Global) (a : Box CodeExpr Global) (b : Box CodeExpr Global) → height (expr_view (exprs.Conditional at c a b)) ≡ 1 + max (height (expr_view c.value)) (max (height (expr_view a.value)) (height (expr_view b.value)))
height-Conditional at c a b = ap height (expr_view-Conditional at c a b)

pub height-Listed : (at : ℕ) (es : Listed CodeExpr) → height (expr_view (exprs.Listed at es)) ≡ 1 + all_height (exprs_view (list_items es))
height-Listed at es = ap height (expr_view-Listed at es)

pub height-last : (es : List CodeExpr) (e : CodeExpr) → all_height (exprs_view (es ++ e ∷ [])) ≡ max (all_height (exprs_view es)) (height (expr_view e))
height-last es e = ap all_height (exprs_view-last es e) ∙ more_height (exprs_view es) (expr_view e)

-- ---- chains

chained_is : (l : Expr) (minus : Bool) (r : Expr) → is_chain (chained l minus r) ≡ true
chained_is (chain e ls) minus r = refl
chained_is _ minus r = refl

pub binary_is : (op : JsOp) (l r : Expr) → is_chain (binary_of op l r) ≡ is_sum op
binary_is Add l r = chained_is l _ r
binary_is Sub l r = chained_is l _ r
binary_is _ l r = refl

pub sign_is : (minus : Bool) → is_sum (sign_of minus) ≡ true
sign_is true = refl
sign_is false = refl

sum_goes_on : (e : ExprTree) (others : List AddendView) → is_chain (expr_of e) ≡ true → is_chain (expr_of (sum_in e others)) ≡ true
sum_goes_on e [] h = h
sum_goes_on e (a ∷ others) h = sum_goes_on (binary a.at e (sign_of a.minus) a.operand) others (binary_is (sign_of a.minus) (expr_of e) (expr_of a.operand) ∙ sign_is a.minus)

sum_is : (e : ExprTree) (a : AddendView) (others : List AddendView) → is_chain (expr_of (sum_in e (a ∷ others))) ≡ true
sum_is e a others = sum_goes_on (binary a.at e (sign_of a.minus) a.operand) others (binary_is (sign_of a.minus) (expr_of e) (expr_of a.operand) ∙ sign_is a.minus)

tree_is : CodeExpr → Bool
tree_is e = is_chain (expr_of (expr_view e))

pub chain-Binary : (at : ℕ) (l : Box CodeExpr Global) (op : JsOp) (r : Box CodeExpr Global) → is_chain (expr_of (expr_view (exprs.Binary at l op r))) ≡ is_sum op
chain-Binary at l op r = ap (λ e. is_chain (expr_of e)) (expr_view-Binary at l op r) ∙ binary_is op (expr_of (expr_view l.value)) (expr_of (expr_view r.value))

sum_by_list : (e : ExprTree) (others : List CodeAddend) → (others ≡ [] → ⊥) → is_chain (expr_of (sum_in e (map addend_view others))) ≡ true
sum_by_list e [] h = absurd (h refl)
sum_by_list e (a ∷ others) h = sum_is e (addend_view a) (map addend_view others)

pub chain-Sum : (e : Box CodeExpr Global) (others : Listed CodeAddend) → (list_items others ≡ [] → ⊥) → is_chain (expr_of (expr_view (exprs.Sum e others))) ≡ true
chain-Sum e others h = ap (λ x. is_chain (expr_of x)) (expr_view-Sum e others) ∙ sum_by_list (expr_view e.value) (list_items others) h

sum_of_none : (e : ExprTree) (others : List CodeAddend) → others ≡ [] → is_chain (expr_of (sum_in e (map addend_view others))) ≡ is_chain (expr_of e)
sum_of_none e others h = ap (λ (os : List CodeAddend). is_chain (expr_of (sum_in e (map addend_view os)))) h

pub chain-Sum_of_none : (e : Box CodeExpr Global) (others : Listed CodeAddend) → list_items others ≡ [] → is_chain (expr_of (expr_view (exprs.Sum e others))) ≡ is_chain (expr_of (expr_view e.value))
chain-Sum_of_none e others h = ap (λ x. is_chain (expr_of x)) (expr_view-Sum e others) ∙ sum_of_none (expr_view e.value) (list_items others) h

pub chain-Literal : (at : ℕ) (v : ℕ) → is_chain (expr_of (expr_view (exprs.Literal at v))) ≡ false
chain-Literal at v = ap (λ x. is_chain (expr_of x)) (expr_view-Literal at v)

pub chain-Negative : (at : ℕ) (v : ℕ) → is_chain (expr_of (expr_view (exprs.Negative at v))) ≡ false
chain-Negative at v = ap (λ x. is_chain (expr_of x)) (expr_view-Negative at v)

pub chain-Decimals : (at : ℕ) (t : Text) → is_chain (expr_of (expr_view (exprs.Decimals at t))) ≡ false
chain-Decimals at t = ap (λ x. is_chain (expr_of x)) (expr_view-Decimals at t)

pub chain-Variable : (at : ℕ) (n : Text) → is_chain (expr_of (expr_view (exprs.Variable at n))) ≡ false
chain-Variable at n = ap (λ x. is_chain (expr_of x)) (expr_view-Variable at n)

pub chain-Element : (at : ℕ) (n : Text) (i : Box CodeExpr Global) → is_chain (expr_of (expr_view (exprs.Element at n i))) ≡ false
chain-Element at n i = ap (λ x. is_chain (expr_of x)) (expr_view-Element at n i)

pub chain-Call : (at : ℕ) (n : Text) (es : Listed CodeExpr) → is_chain (expr_of (expr_view (exprs.Call at n es))) ≡ false
chain-Call at n es = ap (λ x. is_chain (expr_of x)) (expr_view-Call at n es)

pub chain-TableCall : (at : ℕ) (n : Text) (i : Box CodeExpr Global) (es : Listed CodeExpr) → is_chain (expr_of (expr_view (exprs.TableCall at n i es))) ≡ false
chain-TableCall at n i es = ap (λ x. is_chain (expr_of x)) (expr_view-TableCall at n i es)

pub chain-Assignment : (at : ℕ) (n : Text) (e : Box CodeExpr Global) → is_chain (expr_of (expr_view (exprs.Assignment at n e))) ≡ false
chain-Assignment at n e = ap (λ x. is_chain (expr_of x)) (expr_view-Assignment at n e)

pub chain-Store : (at : ℕ) (n : Text) (i : Box CodeExpr Global) (e : Box CodeExpr Global) → is_chain (expr_of (expr_view (exprs.Store at n i e))) ≡ false
chain-Store at n i e = ap (λ x. is_chain (expr_of x)) (expr_view-Store at n i e)

pub chain-Unary : (at : ℕ) (op : JsUnary) (e : Box CodeExpr Global) → is_chain (expr_of (expr_view (exprs.Unary at op e))) ≡ false
chain-Unary at op e = ap (λ x. is_chain (expr_of x)) (expr_view-Unary at op e)

pub chain-Conditional : (at : ℕ) (c : Box CodeExpr Global) (a : Box CodeExpr Global) (b : Box CodeExpr Global) → is_chain (expr_of (expr_view (exprs.Conditional at c a b))) ≡ false
chain-Conditional at c a b = ap (λ x. is_chain (expr_of x)) (expr_view-Conditional at c a b)

pub chain-Listed : (at : ℕ) (es : Listed CodeExpr) → is_chain (expr_of (expr_view (exprs.Listed at es))) ≡ false
chain-Listed at es = ap (λ x. is_chain (expr_of x)) (expr_view-Listed at es)

pub ruleset chains = (chain-Literal, chain-Negative, chain-Decimals, chain-Variable, chain-Element, chain-Call, chain-TableCall, chain-Assignment, chain-Store, chain-Unary, chain-Binary, chain-Sum, chain-Sum_of_none, chain-Conditional, chain-Listed)

chain_floor_by : (e : Expr) → chain_floor e ≡ (if is_chain e then expr_height e else 1 + expr_height e)
chain_floor_by (chain e ls) = refl
chain_floor_by _ = refl

floor_by : (op : JsOp) (e : Expr) → binary_floor op e ≡ (if is_sum op && is_chain e then expr_height e else 1 + expr_height e)
floor_by Add e = chain_floor_by e
floor_by Sub e = chain_floor_by e
floor_by _ e = refl

floor_on : (op : JsOp) (e : Expr) → is_sum op ≡ true → is_chain e ≡ true → binary_floor op e ≡ expr_height e
floor_on op e a b = floor_by op e ∙ (rw a (rw b refl))

floor_no_sum : (op : JsOp) (e : Expr) → is_sum op ≡ false → binary_floor op e ≡ 1 + expr_height e
floor_no_sum op e a = floor_by op e ∙ (rw a refl)

floor_no_chain : (op : JsOp) (e : Expr) → is_sum op ≡ true → is_chain e ≡ false → binary_floor op e ≡ 1 + expr_height e
floor_no_chain op e a b = floor_by op e ∙ (rw a (rw b refl))

pub same_rise : (r s : Rise) → r.floor ≡ s.floor → r.steps ≡ s.steps → r ≡ s
same_rise r s f t = λ i. record { floor = f i; steps = t i }

pub second-on : (op : JsOp) (e : Expr) (h : ℕ) → h ≡ min (expr_height e) 1001 → is_sum op ≡ true → is_chain e ≡ true → (record { floor = h; steps = 1 }) ≡ capped_rise 1001 (second_operand op e)
second-on op e h c a b = same_rise (record { floor = h; steps = 1 }) (capped_rise 1001 (second_operand op e)) (omega (arith, c, floor_on op e a b)) refl

pub second-no_sum : (op : JsOp) (e : Expr) (h : ℕ) → h ≡ min (expr_height e) 1001 → is_sum op ≡ false → capped_rise 1001 (one_more h) ≡ capped_rise 1001 (second_operand op e)
second-no_sum op e h c a = same_rise (capped_rise 1001 (one_more h)) (capped_rise 1001 (second_operand op e)) (omega (arith, c, floor_no_sum op e a)) refl

pub second-no_chain : (op : JsOp) (e : Expr) (h : ℕ) → h ≡ min (expr_height e) 1001 → is_sum op ≡ true → is_chain e ≡ false → capped_rise 1001 (one_more h) ≡ capped_rise 1001 (second_operand op e)
second-no_chain op e h c a b = same_rise (capped_rise 1001 (one_more h)) (capped_rise 1001 (second_operand op e)) (omega (arith, c, floor_no_chain op e a b)) refl

pub binary_count : (at : ℕ) (l : ExprTree) (op : JsOp) (r e : ExprTree) (rise : Rise) (h : ℕ) → e ≡ binary at l op r → rise ≡ capped_rise 1001 (second_operand op (expr_of l)) → h ≡ min (height r) 1001 → min (risen rise h) 1001 ≡ min (height e) 1001
binary_count at l op r e rise h is rises c =
    let floor : rise.floor ≡ min (binary_floor op (expr_of l)) 1001 = ap (λ (x : Rise). x.floor) rises in
    let steps : rise.steps ≡ 1 = ap (λ (x : Rise). x.steps) rises in
    omega (arith, floor, steps, c, ap height is, binary_height op (expr_of l) (expr_of r))

pub ruleset second_operands = (chains, second-on, second-no_sum, second-no_chain, binary_count)

pub ruleset expression_levels = (height-Literal, height-Negative, height-Decimals, height-Variable, height-Element, height-Call, height-TableCall, height-Assignment, height-Store, height-Unary, height-Conditional, height-Listed, height-last, views)
