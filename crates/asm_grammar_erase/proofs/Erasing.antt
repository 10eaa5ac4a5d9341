-- The expressions that trees say, variant by variant.
use Rattle.std.proofs.Common.{◌≡◌, ℕ, ◌+◌, ◌<◌, Bool, true, false, List, [], ◌∷◌, ◌++◌, map, length, get_or, drop, refl, sym, ap, ◌∙◌}
use Rattle.std.proofs.lemmas.List.{drop_more}
use Rattle.std.specs.Prelude.{pos, neg_ℤ}
use Rattle.sem_words.specs.declared.text.Text.{Text}
use Rattle.std.specs.Global.{Global}
use Rattle.std.specs.declared.boxed.Box.{Box}
use Rattle.sem_words.specs.Lists.{list_items, text_bytes}
use Rattle.sem_words.specs.declared.list.List.{List as Listed}
use Rattle.sem_words.specs.declared.js_value.JsOp.{JsOp}
use Rattle.sem_words.specs.declared.js_value.JsUnary.{JsUnary}
use Rattle.asm_lang.specs.Trees.{ExprTree}
use Rattle.asm_lang.specs.Trees as trees
use Rattle.asm_lang.specs.Modules.{Expr, lit, decimal, var, index, call, table_call, assign, store, unary, cond, comma, Exprs, no_exprs, exprs, chained, binary_of, expr_of, exprs_of}
use Rattle.asm_grammar_nodes.specs.declared.tree.ExprTree.{ExprTree as CodeExpr}
use Rattle.asm_grammar_nodes.specs.declared.tree.ExprTree.TheVariants as placed_exprs
use Rattle.asm_grammar_nodes.specs.declared.tree.Addend.{Addend as CodeAddend}
use Rattle.asm_grammar_nodes.specs.Views.{AddendView, addend_view, sign_of, sum_in, expr_view, exprs_view}
use Rattle.asm_grammar_nodes.proofs.Views.{addend_view-is, expr_view-Literal, expr_view-Negative, expr_view-Decimals, expr_view-Variable, expr_view-Element, expr_view-Call, expr_view-TableCall, expr_view-Assignment, expr_view-Store, expr_view-Unary, expr_view-Binary, expr_view-Conditional, expr_view-Listed, expr_view-Sum}
use Rattle.asm_tree.specs.declared.tree.Expr.{Expr as PlainExpr}
use Rattle.asm_tree.specs.Views as plain
use Rattle.asm_tree.proofs.Views.{views}
use Rattle.asm_grammar_erase.specs.Parts.{links_on}

pub erased-Literal : (at : ℕ) (v : ℕ) → expr_of (expr_view (placed_exprs.Literal at v)) ≡ lit (pos v)
erased-Literal at v = ap expr_of (expr_view-Literal at v)

pub erased-Negative : (at : ℕ) (v : ℕ) → expr_of (expr_view (placed_exprs.Negative at v)) ≡ lit (neg_ℤ (pos v))
erased-Negative at v = ap expr_of (expr_view-Negative at v)

pub erased-Decimals : (at : ℕ) (t : Text) → expr_of (expr_view (placed_exprs.Decimals at t)) ≡ decimal (text_bytes t)
erased-Decimals at t = ap expr_of (expr_view-Decimals at t)

pub erased-Variable : (at : ℕ) (n : Text) → expr_of (expr_view (placed_exprs.Variable at n)) ≡ var (text_bytes n)
erased-Variable at n = ap expr_of (expr_view-Variable at n)

pub erased-Element : (at : ℕ) (n : Text) (i : Box CodeExpr Global) → expr_of (expr_view (placed_exprs.Element at n i)) ≡ index (text_bytes n) (expr_of (expr_view i.value))
erased-Element at n i = ap expr_of (expr_view-Element at n i)

pub erased-Call : (at : ℕ) (n : Text) (es : Listed CodeExpr) → expr_of (expr_view (placed_exprs.Call at n es)) ≡ call (text_bytes n) (exprs_of (exprs_view (list_items es)))
erased-Call at n es = ap expr_of (expr_view-Call at n es)

pub erased-TableCall : (at : ℕ) (n : Text) (i : Box CodeExpr Global) (es : Listed CodeExpr) → expr_of (expr_view (placed_exprs.TableCall at n i es)) ≡ table_call (text_bytes n) (expr_of (expr_view i.value)) (exprs_of (exprs_view (list_items es)))
erased-TableCall at n i es = ap expr_of (expr_view-TableCall at n i es)

pub erased-Assignment : (at : ℕ) (n : Text) (e : Box CodeExpr Global) → expr_of (expr_view (placed_exprs.Assignment at n e)) ≡ assign (text_bytes n) (expr_of (expr_view e.value))
erased-Assignment at n e = ap expr_of (expr_view-Assignment at n e)

pub erased-Store : (at : ℕ) (n : Text) (i : Box CodeExpr Global) (e : Box CodeExpr Global) → expr_of (expr_view (placed_exprs.Store at n i e)) ≡ store (text_bytes n) (expr_of (expr_view i.value)) (expr_of (expr_view e.value))
erased-Store at n i e = ap expr_of (expr_view-Store at n i e)

pub erased-Unary : (at : ℕ) (op : JsUnary) (e : Box CodeExpr Global) → expr_of (expr_view (placed_exprs.Unary at op e)) ≡ unary op (expr_of (expr_view e.value))
erased-Unary at op e = ap expr_of (expr_view-Unary at op e)

pub erased-Binary : (at : ℕ) (l : Box CodeExpr Global) (op : JsOp) (r : Box CodeExpr Global) → expr_of (expr_view (placed_exprs.Binary at l op r)) ≡ binary_of op (expr_of (expr_view l.value)) (expr_of (expr_view r.value))
erased-Binary at l op r = ap expr_of (expr_view-Binary at l op r)

pub erased-Conditional : (at : ℕ) (c : Box CodeExpr Global) (a : Box CodeExpr Global) (b : Box CodeExpr Global) → expr_of (expr_view (placed_exprs.Conditional at c a b)) ≡ cond (expr_of (expr_view c.value)) (expr_of (expr_view a.value)) (expr_of (expr_view b.value))
erased-Conditional at c a b = ap expr_of (expr_view-Conditional at c a b)

pub erased-Listed : (at : ℕ) (es : Listed CodeExpr) → expr_of (expr_view (placed_exprs.Listed at es)) ≡ comma (exprs_of (exprs_view (list_items es)))
erased-Listed at es = ap expr_of (expr_view-Listed at es)

sign_chains : (minus : Bool) (l r : Expr) → binary_of (sign_of minus) l r ≡ chained l minus r
sign_chains true l r = refl
sign_chains false l r = refl

sum_links : (e : ExprTree) (others : List AddendView) → expr_of (sum_in e others) ≡ links_on (expr_of e) others
sum_links e [] = refl
sum_links e (a ∷ others) = sum_links (trees.binary a.at e (sign_of a.minus) a.operand) others ∙ ap (λ x. links_on x others) (sign_chains a.minus (expr_of e) (expr_of a.operand))

pub erased-Sum : (e : Box CodeExpr Global) (others : Listed CodeAddend) → expr_of (expr_view (placed_exprs.Sum e others)) ≡ links_on (expr_of (expr_view e.value)) (map addend_view (list_items others))
erased-Sum e others = ap expr_of (expr_view-Sum e others) ∙ sum_links (expr_view e.value) (map addend_view (list_items others))

pub links_on-step : (e : Expr) (a : CodeAddend) (rest : List CodeAddend) → links_on e (map addend_view (a ∷ rest)) ≡ links_on (chained e a.minus (expr_of (expr_view a.operand))) (map addend_view rest)
links_on-step e a rest = ap (λ (v : AddendView). links_on (chained e v.minus (expr_of v.operand)) (map addend_view rest)) (addend_view-is a)

pub links_done : (e : Expr) (sum : Expr) (more : Expr) (items : List CodeAddend) (i : ℕ) (x : CodeAddend) → i < length items → x ≡ get_or items i x
    → more ≡ chained sum x.minus (expr_of (expr_view x.operand)) → links_on sum (map addend_view (drop i items)) ≡ links_on e (map addend_view items) → links_on more (map addend_view (drop (i + 1) items)) ≡ links_on e (map addend_view items)
links_done e sum more items i x low is h had =
    let here : drop i items ≡ x ∷ drop (i + 1) items = drop_more items i x low ∙ ap (λ y. y ∷ drop (i + 1) items) (sym is) in
    ap (λ s. links_on s (map addend_view (drop (i + 1) items))) h ∙ sym (ap (λ xs. links_on sum (map addend_view xs)) here ∙ links_on-step sum x (drop (i + 1) items)) ∙ had

-- what a tree says, by its variant, and what its parts say
pub tree_says : (tree variant : CodeExpr) (x : Expr) → tree ≡ variant → expr_of (expr_view variant) ≡ x → x ≡ expr_of (expr_view tree)
tree_says tree variant x is h = sym (ap (λ e. expr_of (expr_view e)) is ∙ h)

pub inner_says : (x : Expr) (d e : CodeExpr) → x ≡ expr_of (expr_view d) → d ≡ e → x ≡ expr_of (expr_view e)
inner_says x d e h is = h ∙ ap (λ y. expr_of (expr_view y)) is

pub all_say : (xs : Exprs) (ds es : List CodeExpr) → xs ≡ exprs_of (exprs_view ds) → ds ≡ es → xs ≡ exprs_of (exprs_view es)
all_say xs ds es h is = h ∙ ap (λ ys. exprs_of (exprs_view ys)) is

-- expressions before others
abbrev pub before : List Expr → Exprs → Exprs
before [] es = es
before (x ∷ xs) es = exprs x (before xs es)

pub before_more : (done : List PlainExpr) (x : PlainExpr) (es : Exprs) → before (map plain.expr_view (done ++ x ∷ [])) es ≡ before (map plain.expr_view done) (exprs (plain.expr_view x) es)
before_more [] x es = refl
before_more (y ∷ done) x es = ap (exprs (plain.expr_view y)) (before_more done x es)

pub before_none : (done : List PlainExpr) → before (map plain.expr_view done) no_exprs ≡ plain.exprs_view done
before_none [] = refl
before_none (y ∷ done) = ap (exprs (plain.expr_view y)) (before_none done)

pub expr_done : (done more : List PlainExpr) (items : List CodeExpr) (i : ℕ) (x : CodeExpr) (y : PlainExpr) → i < length items → x ≡ get_or items i x → more ≡ done ++ y ∷ [] → plain.expr_view y ≡ expr_of (expr_view x)
    → before (map plain.expr_view done) (exprs_of (exprs_view (drop i items))) ≡ exprs_of (exprs_view items) → before (map plain.expr_view more) (exprs_of (exprs_view (drop (i + 1) items))) ≡ exprs_of (exprs_view items)
expr_done done more items i x y low is h view had =
    let here : drop i items ≡ x ∷ drop (i + 1) items = drop_more items i x low ∙ ap (λ z. z ∷ drop (i + 1) items) (sym is) in
    let rest = exprs_of (exprs_view (drop (i + 1) items)) in
    ap (λ ds. before (map plain.expr_view ds) rest) h ∙ before_more done y rest ∙ ap (λ v. before (map plain.expr_view done) (exprs v rest)) view
    ∙ sym (ap (λ xs. before (map plain.expr_view done) (exprs_of (exprs_view xs))) here) ∙ had

pub ruleset expressions = (erased-Literal, erased-Negative, erased-Decimals, erased-Variable, erased-Element, erased-Call, erased-TableCall, erased-Assignment, erased-Store, erased-Unary, erased-Binary, erased-Conditional, erased-Listed, erased-Sum, views)
