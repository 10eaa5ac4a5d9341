-- Names that are added one after the other.
use Rattle.std.proofs.Common.{◌≡◌, ℕ, ◌+◌, ◌<◌, List, [], ◌∷◌, ◌++◌, map, length, get_or, take, refl, sym, ap, ◌∙◌, append_assoc, append-nil}
use Rattle.std.proofs.lemmas.List.{take_more, take_all, map-append}
use Rattle.asm_tree.specs.declared.tree.Expr.{Expr as CodeExpr}
use Rattle.asm_tree.specs.declared.tree.Link.{Link as CodeLink}
use Rattle.asm_tree.specs.declared.tree.Stmt.{Stmt as CodeStmt}
use Rattle.asm_tree.specs.declared.tree.Clause.{Clause as CodeClause}
use Rattle.sem_words.specs.Lists.{list_items}
use Rattle.asm_tree.specs.Views.{LinkView, ClauseView, links_in, clauses_in, expr_view, link_view, exprs_view, links_view, stmt_view, stmts_view, clause_view, clauses_view}
use Rattle.asm_tree.proofs.Views.{link_view-is, clause_view-is}
use Rattle.asm_short_lang.specs.Uses.{Use, expr_uses, exprs_uses, links_uses, stmt_uses, stmts_uses, clauses_uses}
use Rattle.asm_short_uses.specs.declared.naming.Use.{Use as CodeUse}
use Rattle.asm_short_uses.specs.Views.{use_view, uses_view}

-- one name more
pub use_added : (us vs : List CodeUse) (u : CodeUse) → vs ≡ us ++ u ∷ [] → uses_view vs ≡ uses_view us ++ use_view u ∷ []
use_added us vs u e = ap uses_view e ∙ map-append use_view us (u ∷ [])

-- a name, and those of two parts after it
pub called : (us : List Use) (u : Use) (vs ws : List Use) → ((us ++ u ∷ []) ++ vs) ++ ws ≡ us ++ (u ∷ (vs ++ ws))
called us u vs ws = append_assoc (us ++ u ∷ []) vs ws ∙ append_assoc us (u ∷ []) (vs ++ ws)

-- those of the items of a list, one after the other
last_of_all : {X : Type 0} (f : List X → List Use) (g : X → List Use) → f [] ≡ [] → ((x : X) (xs : List X) → f (x ∷ xs) ≡ g x ++ f xs) → (xs : List X) (x : X) → f (xs ++ x ∷ []) ≡ f xs ++ g x
last_of_all f g none some [] x = some x [] ∙ (ap (λ (r : List Use). g x ++ r) none ∙ (append-nil (g x) ∙ sym (ap (λ (r : List Use). r ++ g x) none)))
last_of_all f g none some (y ∷ ys) x =
    some y (ys ++ x ∷ []) ∙ (ap (λ (r : List Use). g y ++ r) (last_of_all f g none some ys x)
    ∙ (sym (append_assoc (g y) (f ys) (g x)) ∙ sym (ap (λ (r : List Use). r ++ g x) (some y ys))))

next_of_all : {X : Type 0} (f : List X → List Use) (g : X → List Use) → f [] ≡ [] → ((x : X) (xs : List X) → f (x ∷ xs) ≡ g x ++ f xs)
    → (us : List Use) (xs : List X) (i : ℕ) (x : X) → i < length xs → x ≡ get_or xs i x → (us ++ f (take i xs)) ++ g x ≡ us ++ f (take (i + 1) xs)
next_of_all f g none some us xs i x lt is =
    let more_is : take (i + 1) xs ≡ take i xs ++ x ∷ [] = take_more xs i x lt ∙ ap (λ y. take i xs ++ y ∷ []) (sym is) in
    append_assoc us (f (take i xs)) (g x) ∙ sym (ap (λ ys. us ++ f ys) more_is ∙ ap (λ ys. us ++ ys) (last_of_all f g none some (take i xs) x))

pub next_expr : (us : List Use) (xs : List CodeExpr) (i : ℕ) (x : CodeExpr) → i < length xs → x ≡ get_or xs i x → (us ++ exprs_uses (exprs_view (take i xs))) ++ expr_uses (expr_view x) ≡ us ++ exprs_uses (exprs_view (take (i + 1) xs))
next_expr = next_of_all (λ xs. exprs_uses (exprs_view xs)) (λ x. expr_uses (expr_view x)) refl (λ x xs. refl)

links_first : (l : CodeLink) (ls : List CodeLink) → links_uses (links_view (l ∷ ls)) ≡ expr_uses (expr_view l.operand) ++ links_uses (links_view ls)
links_first l ls = ap (λ (v : LinkView). links_uses (links_in (v ∷ map link_view ls))) (link_view-is l)

pub next_link : (us : List Use) (xs : List CodeLink) (i : ℕ) (x : CodeLink) → i < length xs → x ≡ get_or xs i x → (us ++ links_uses (links_view (take i xs))) ++ expr_uses (expr_view x.operand) ≡ us ++ links_uses (links_view (take (i + 1) xs))
next_link = next_of_all (λ xs. links_uses (links_view xs)) (λ x. expr_uses (expr_view x.operand)) refl links_first

pub next_stmt : (us : List Use) (xs : List CodeStmt) (i : ℕ) (x : CodeStmt) → i < length xs → x ≡ get_or xs i x → (us ++ stmts_uses (stmts_view (take i xs))) ++ stmt_uses (stmt_view x) ≡ us ++ stmts_uses (stmts_view (take (i + 1) xs))
next_stmt = next_of_all (λ xs. stmts_uses (stmts_view xs)) (λ x. stmt_uses (stmt_view x)) refl (λ x xs. refl)

clauses_first : (c : CodeClause) (cs : List CodeClause) → clauses_uses (clauses_view (c ∷ cs)) ≡ stmts_uses (stmts_view (list_items c.body)) ++ clauses_uses (clauses_view cs)
clauses_first c cs = ap (λ (v : ClauseView). clauses_uses (clauses_in (v ∷ map clause_view cs))) (clause_view-is c)

pub next_clause : (us : List Use) (xs : List CodeClause) (i : ℕ) (x : CodeClause) → i < length xs → x ≡ get_or xs i x → (us ++ clauses_uses (clauses_view (take i xs))) ++ stmts_uses (stmts_view (list_items x.body)) ≡ us ++ clauses_uses (clauses_view (take (i + 1) xs))
next_clause = next_of_all (λ xs. clauses_uses (clauses_view xs)) (λ x. stmts_uses (stmts_view (list_items x.body))) refl clauses_first

pub ruleset added = (use_added, append_assoc, append-nil, next_expr, next_link, next_stmt, next_clause, take_all)
