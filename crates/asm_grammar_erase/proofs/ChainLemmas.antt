-- How chains grow.
use Rattle.std.proofs.Common.{◌≡◌, Bool, false, [], ◌∷◌, ◌++◌, refl, sym, ap, ◌∙◌}
use Rattle.std.specs.Global.{Global}
use Rattle.std.specs.declared.boxed.Box.{Box}
use Rattle.sem_words.specs.Lists.{list_items}
use Rattle.sem_words.specs.declared.list.List.{List as Listed}
use Rattle.asm_lang.specs.Modules.{Expr, chain, no_links, links, chained}
use Rattle.asm_tree.specs.declared.tree.Expr.{Expr as CodeExpr, Expr-F, fold-roll-Expr}
use Rattle.asm_tree.specs.declared.tree.Expr.TheOpen as layers
use Rattle.asm_tree.specs.declared.tree.Expr.TheViews.{out-Expr, roll-Expr, roll-out-Expr}
use Rattle.asm_tree.specs.declared.tree.Expr.TheVariants as exprs
use Rattle.asm_tree.specs.declared.tree.Link.{Link as CodeLink}
use Rattle.std.proofs.lemmas.Bool.{true≢false}
use Rattle.asm_grammar_nodes.specs.Heights.{is_chain}
use Rattle.asm_tree.specs.Views.{LinkView, expr_layer, link_layer, expr_view, links_view, link_view}
use Rattle.asm_tree.proofs.Views.{expr_view-Chain, links_view-last, views}

-- a chain with one more operand
pub goes_on : (left : CodeExpr) (first : Box CodeExpr Global) (ls rs : Listed CodeLink) (minus : Bool) (right : CodeExpr) → left ≡ exprs.Chain first ls → list_items rs ≡ list_items ls ++ (record { minus = minus; operand = right }) ∷ []
    → expr_view (exprs.Chain first rs) ≡ chained (expr_view left) minus (expr_view right)
goes_on left first ls rs minus right is more =
    expr_view-Chain first rs ∙ ap (λ us. chain (expr_view first.value) (links_view us)) more ∙ ap (chain (expr_view first.value)) (links_view-last (list_items ls) (record { minus = minus; operand = right }))
    ∙ sym (ap (λ e. chained (expr_view e) minus (expr_view right)) is ∙ ap (λ e. chained e minus (expr_view right)) (expr_view-Chain first ls))

pub ruleset chains = (views)

is_chain_or_not : (o : Expr-F CodeExpr CodeLink) → ((first : Box CodeExpr Global) (ls : Listed CodeLink) → roll-Expr o ≡ exprs.Chain first ls → ⊥) → is_chain (expr_view (roll-Expr o)) ≡ false
unfolding expr_view link_view
is_chain_or_not (layers.Chain first ls) h = absurd (h first ls (exprs.rolls-Chain first ls))
is_chain_or_not o h = ap is_chain (fold-roll-Expr Expr LinkView expr_layer link_layer o)

no_chain : (e : CodeExpr) → ((first : Box CodeExpr Global) (ls : Listed CodeLink) → e ≡ exprs.Chain first ls → ⊥) → is_chain (expr_view e) ≡ false
no_chain e h = ap (λ x. is_chain (expr_view x)) (sym (roll-out-Expr e)) ∙ is_chain_or_not (out-Expr e) (λ first ls is. h first ls (sym (roll-out-Expr e) ∙ is))

begins_by : (x : Expr) (minus : Bool) (r : Expr) → is_chain x ≡ false → chained x minus r ≡ chain x (links minus r no_links)
begins_by (chain e ls) minus r h = absurd (true≢false h)
begins_by _ minus r h = refl

-- any other expression begins a chain
pub begins : (left right : CodeExpr) (first : Box CodeExpr Global) (rs : Listed CodeLink) (minus : Bool) → ((x : Box CodeExpr Global) (ls : Listed CodeLink) → left ≡ exprs.Chain x ls → ⊥) → first.value ≡ left
    → list_items rs ≡ (record { minus = minus; operand = right }) ∷ [] → expr_view (exprs.Chain first rs) ≡ chained (expr_view left) minus (expr_view right)
begins left right first rs minus not is more =
    expr_view-Chain first rs ∙ ap (λ us. chain (expr_view first.value) (links_view us)) more ∙ ap (chain (expr_view first.value)) (links_view-last [] (record { minus = minus; operand = right }))
    ∙ ap (λ e. chain (expr_view e) (links minus (expr_view right) no_links)) is ∙ sym (begins_by (expr_view left) minus (expr_view right) (no_chain left not))
