-- The first row of rows after one another.
use Rattle.std.proofs.Common.{◌≡◌, ℕ, ◌+◌, ◌<◌, List, [], ◌∷◌, ◌++◌, length, drop, get_or, Some, None, Result, Ok, Err, refl, sym, ap, ◌∙◌}
use Rattle.std.specs.Prelude.{IfOk}
use Rattle.std.proofs.lemmas.List.{at_drop_more}
use Rattle.asm_tree.specs.declared.tree.Expr.{Expr}
use Rattle.sem_words.specs.Lists.{list_items}
use Rattle.asm_tree.specs.declared.tree.Clause.{Clause}
use Rattle.asm_tree.specs.declared.tree.Stmt.{Stmt}
use Rattle.asm_tree.specs.declared.tree.Link.{Link}
use Rattle.asm_tree.specs.Views.{LinkView, ClauseView, expr_view, link_view, exprs_view, links_view, clause_view, stmts_view, clauses_view}
use Rattle.asm_tree.proofs.Views.{views, link_view-is, clause_view-is}
use Rattle.asm_lang_valid.specs.declared.rule.Met.{Met}
use Rattle.asm_lang_valid.specs.Rows.{first, expr_count, exprs_count, links_count, stmts_count, clauses_count}
use Rattle.asm_lang_valid.specs.Typing.{Scope}
use Rattle.asm_validate_names.specs.Found.{row_of}
use Rattle.asm_lang_valid.specs.NameRows.{expr_names, links_names, stmts_names, clauses_names}

pub first_before : (xs ys : List Met) (x : Met) → first xs ≡ Some x → first (xs ++ ys) ≡ Some x
first_before [] ys x h = cc
first_before (y ∷ xs) ys x h = h

pub first_after : (xs ys : List Met) → first xs ≡ None → first (xs ++ ys) ≡ first ys
first_after [] ys h = refl
first_after (y ∷ xs) ys h = cc

pub link_operand : (l : Link) → (link_view l).operand ≡ expr_view l.operand
link_operand l = ap (λ (v : LinkView). v.operand) (link_view-is l)

pub if_ok : {P : Type 0} (r : Result (Unit {0}) Met) → P → IfOk r (λ u. P)
if_ok (Ok u) p = p
if_ok (Err x) p = tt

-- a pass that stops at a part's row, and one that goes on
pub stops : (all xs ys : List Met) (r : Result (Unit {0}) Met) (x : Met) → first all ≡ first (xs ++ ys) → first xs ≡ Some x → r ≡ Err x → first all ≡ row_of r
stops all xs ys r x split h e = split ∙ first_before xs ys x h ∙ ap row_of (sym e)

pub passes : (all xs ys : List Met) → first all ≡ first (xs ++ ys) → first xs ≡ None → first all ≡ first ys
passes all xs ys split none = split ∙ first_after xs ys none

pub not_ok : (P : Unit {0} → Type 0) (r : Result (Unit {0}) Met) (x : Met) → r ≡ Err x → IfOk r P
not_ok P (Ok u) x e = cc
not_ok P (Err y) x e = tt

-- an element of a list counts among those that are left
pub exprs_step : (es : List Expr) (i : ℕ) (e : Expr) → i < length es → e ≡ get_or es i e → exprs_count (exprs_view (drop i es)) ≡ expr_count (expr_view e) + exprs_count (exprs_view (drop (i + 1) es))
exprs_step es i e h is = at_drop_more (λ l. exprs_count (exprs_view l)) es i e h ∙ ap (λ (x : Expr). expr_count (expr_view x) + exprs_count (exprs_view (drop (i + 1) es))) (sym is)

pub links_step : (ls : List Link) (i : ℕ) (l : Link) → i < length ls → l ≡ get_or ls i l → links_count (links_view (drop i ls)) ≡ expr_count (expr_view l.operand) + links_count (links_view (drop (i + 1) ls))
links_step ls i l h is =
    at_drop_more (λ k. links_count (links_view k)) ls i l h
    ∙ ap (λ (x : Link). expr_count (link_view x).operand + links_count (links_view (drop (i + 1) ls))) (sym is)
    ∙ ap (λ n. expr_count n + links_count (links_view (drop (i + 1) ls))) (link_operand l)

-- the rows of those that are left, where the first of them has none
pub links_after : (c : Scope) (ls : List Link) (i : ℕ) (l : Link) (at next : ℕ) → i < length ls → l ≡ get_or ls i l → first (expr_names c at (expr_view l.operand)) ≡ None → next ≡ at + expr_count (expr_view l.operand) → first (links_names c at (links_view (drop i ls))) ≡ first (links_names c next (links_view (drop (i + 1) ls)))
links_after c ls i l at next h is none count =
    at_drop_more (λ k. first (links_names c at (links_view k))) ls i l h
    ∙ ap (λ (x : Link). first (expr_names c at (link_view x).operand ++ links_names c (at + expr_count (link_view x).operand) (links_view (drop (i + 1) ls)))) (sym is)
    ∙ ap (λ n. first (expr_names c at n ++ links_names c (at + expr_count n) (links_view (drop (i + 1) ls)))) (link_operand l)
    ∙ first_after (expr_names c at (expr_view l.operand)) _ none
    ∙ ap (λ a. first (links_names c a (links_view (drop (i + 1) ls)))) (sym count)

-- .. and where it has one
pub links_within : (c : Scope) (ls : List Link) (i : ℕ) (l : Link) (at : ℕ) (x : Met) → i < length ls → l ≡ get_or ls i l → first (expr_names c at (expr_view l.operand)) ≡ Some x → first (links_names c at (links_view (drop i ls))) ≡ Some x
links_within c ls i l at x h is some =
    at_drop_more (λ k. first (links_names c at (links_view k))) ls i l h
    ∙ ap (λ (x : Link). first (expr_names c at (link_view x).operand ++ links_names c (at + expr_count (link_view x).operand) (links_view (drop (i + 1) ls)))) (sym is)
    ∙ ap (λ n. first (expr_names c at n ++ links_names c (at + expr_count n) (links_view (drop (i + 1) ls)))) (link_operand l)
    ∙ first_before (expr_names c at (expr_view l.operand)) _ x some

pub clause_body : (k : Clause) (ss : List Stmt) → ss ≡ list_items k.body → (clause_view k).body ≡ stmts_view ss
clause_body k ss h = ap (λ (v : ClauseView). v.body) (clause_view-is k) ∙ ap stmts_view (sym h)

pub clauses_step : (ks : List Clause) (i : ℕ) (k : Clause) (ss : List Stmt) → i < length ks → k ≡ get_or ks i k → ss ≡ list_items k.body → clauses_count (clauses_view (drop i ks)) ≡ stmts_count (stmts_view ss) + clauses_count (clauses_view (drop (i + 1) ks))
clauses_step ks i k ss h is body =
    at_drop_more (λ l. clauses_count (clauses_view l)) ks i k h
    ∙ ap (λ (x : Clause). stmts_count (clause_view x).body + clauses_count (clauses_view (drop (i + 1) ks))) (sym is)
    ∙ ap (λ n. stmts_count n + clauses_count (clauses_view (drop (i + 1) ks))) (clause_body k ss body)

clauses_rest : (c : Scope) (ks : List Clause) (i : ℕ) (k : Clause) (ss : List Stmt) (at : ℕ) → i < length ks → k ≡ get_or ks i k → ss ≡ list_items k.body → first (clauses_names c at (clauses_view (drop i ks))) ≡ first (stmts_names c at (stmts_view ss) ++ clauses_names c (at + stmts_count (stmts_view ss)) (clauses_view (drop (i + 1) ks)))
clauses_rest c ks i k ss at h is body =
    at_drop_more (λ l. first (clauses_names c at (clauses_view l))) ks i k h
    ∙ ap (λ (x : Clause). first (stmts_names c at (clause_view x).body ++ clauses_names c (at + stmts_count (clause_view x).body) (clauses_view (drop (i + 1) ks)))) (sym is)
    ∙ ap (λ n. first (stmts_names c at n ++ clauses_names c (at + stmts_count n) (clauses_view (drop (i + 1) ks)))) (clause_body k ss body)

pub clauses_after : (c : Scope) (ks : List Clause) (i : ℕ) (k : Clause) (ss : List Stmt) (at next : ℕ) → i < length ks → k ≡ get_or ks i k → ss ≡ list_items k.body → first (stmts_names c at (stmts_view ss)) ≡ None → next ≡ at + stmts_count (stmts_view ss) → first (clauses_names c at (clauses_view (drop i ks))) ≡ first (clauses_names c next (clauses_view (drop (i + 1) ks)))
clauses_after c ks i k ss at next h is body none count =
    clauses_rest c ks i k ss at h is body
    ∙ first_after (stmts_names c at (stmts_view ss)) _ none
    ∙ ap (λ a. first (clauses_names c a (clauses_view (drop (i + 1) ks)))) (sym count)

pub clauses_within : (c : Scope) (ks : List Clause) (i : ℕ) (k : Clause) (ss : List Stmt) (at : ℕ) (x : Met) → i < length ks → k ≡ get_or ks i k → ss ≡ list_items k.body → first (stmts_names c at (stmts_view ss)) ≡ Some x → first (clauses_names c at (clauses_view (drop i ks))) ≡ Some x
clauses_within c ks i k ss at x h is body some = clauses_rest c ks i k ss at h is body ∙ first_before (stmts_names c at (stmts_view ss)) _ x some

pub ruleset steps = (views, link_operand, first_before, first_after)
