-- Counts that go on from one another.
use Rattle.std.proofs.Common.{◌≡◌, ℕ, ◌+◌, ◌<◌, ◌≤◌, ◌^◌, List, length, drop, get_or, Option, None, SomeIff, sym, ap, ◌∙◌, subst, arith}
use Rattle.std.proofs.lemmas.List.{at_drop_more}
use Rattle.sem_words.specs.Lists.{list_items}
use Rattle.asm_tree.specs.declared.tree.Expr.{Expr}
use Rattle.asm_tree.specs.declared.tree.Link.{Link}
use Rattle.asm_tree.specs.declared.tree.Stmt.{Stmt}
use Rattle.asm_tree.specs.declared.tree.Clause.{Clause}
use Rattle.asm_tree.specs.Views.{LinkView, ClauseView, expr_view, link_view, links_view, stmt_view, clause_view, stmts_view, clauses_view}
use Rattle.asm_tree.specs.declared.tree.Stmt.TheVariants as code
use Rattle.sem_words.specs.declared.list.List.{List as Listed}
use Rattle.asm_tree.proofs.Views.{views, link_view-is, clause_view-is, stmt_view-Switch}
use Rattle.asm_lang.specs.Modules as plain
use Rattle.asm_lang_valid.specs.Rows.{expr_count, links_count, stmt_count, stmts_count, clauses_count}
use Rattle.key_hashes.specs.declared.seed.Seed.{Seed}
use Rattle.asm_validate_nodes.specs.Labelled.{with_stmts, with_clauses}

-- a number that is reached in another way
pub whole : (r : Option ℕ) (n m : ℕ) → SomeIff r (n < 2 ^ 64) n → n ≡ m → SomeIff r (m < 2 ^ 64) m
whole r n m h e = subst (λ (n : ℕ). SomeIff r (n < 2 ^ 64) n) e h

-- a number past a part that is too large
pub past : (n m : ℕ) → (¬ (n < 2 ^ 64)) → n ≤ m → ¬ (m < 2 ^ 64)
past n m h le = λ k. h (omega arith)

pub stopped : (r : Option ℕ) (n m : ℕ) → r ≡ None → (¬ (n < 2 ^ 64)) → n ≤ m → SomeIff r (m < 2 ^ 64) m
stopped r n m e h le = subst (λ (r : Option ℕ). SomeIff r (m < 2 ^ 64) m) (sym e) (past n m h le)

-- ---- each node counts

pub positive : (e : plain.Expr) → 1 ≤ expr_count e
positive (plain.lit v) = omega arith
positive (plain.decimal bs) = omega arith
positive (plain.var n) = omega arith
positive (plain.index n i) = omega arith
positive (plain.call n es) = omega arith
positive (plain.table_call n i es) = omega arith
positive (plain.assign n e) = omega arith
positive (plain.store n i e) = omega arith
positive (plain.unary op e) = omega arith
positive (plain.binary op l r) = omega arith
positive (plain.chain e ls) = omega arith
positive (plain.cond c a b) = omega arith
positive (plain.comma es) = omega arith

pub stmt_positive : (s : plain.Stmt) → 1 ≤ stmt_count s
stmt_positive (plain.block ss) = omega arith
stmt_positive (plain.plain e) = omega arith
stmt_positive plain.empty = omega arith
stmt_positive (plain.if_only c s) = omega arith
stmt_positive (plain.if_else c s r) = omega arith
stmt_positive (plain.returns o) = omega arith
stmt_positive (plain.while_loop c s) = omega arith
stmt_positive (plain.do_while s c) = omega arith
stmt_positive (plain.for_loop a b c s) = omega arith
stmt_positive (plain.breaks l) = omega arith
stmt_positive (plain.continues l) = omega arith
stmt_positive (plain.labelled ls s) = omega arith
stmt_positive (plain.switches e cs) = omega arith

pub switch_is : (s : Stmt) (e : Expr) (l : Listed Clause) (ks : List Clause) → s ≡ code.Switch l e → ks ≡ list_items l → stmt_view s ≡ plain.switches (expr_view e) (clauses_view ks)
switch_is s e l ks h k = ap stmt_view h ∙ stmt_view-Switch e l ∙ ap (λ x. plain.switches (expr_view e) (clauses_view x)) (sym k)

-- ---- an element of a list counts among those that are left

pub link_operand : (l : Link) → (link_view l).operand ≡ expr_view l.operand
link_operand l = ap (λ (v : LinkView). v.operand) (link_view-is l)

pub links_step : (ls : List Link) (i : ℕ) (l : Link) → i < length ls → l ≡ get_or ls i l → links_count (links_view (drop i ls)) ≡ expr_count (expr_view l.operand) + links_count (links_view (drop (i + 1) ls))
links_step ls i l h is =
    at_drop_more (λ k. links_count (links_view k)) ls i l h
    ∙ ap (λ (x : Link). expr_count (link_view x).operand + links_count (links_view (drop (i + 1) ls))) (sym is)
    ∙ ap (λ n. expr_count n + links_count (links_view (drop (i + 1) ls))) (link_operand l)

clause_body : (k : Clause) (ss : List Stmt) → ss ≡ list_items k.body → (clause_view k).body ≡ stmts_view ss
clause_body k ss h = ap (λ (v : ClauseView). v.body) (clause_view-is k) ∙ ap stmts_view (sym h)

pub clauses_step : (ks : List Clause) (i : ℕ) (k : Clause) (ss : List Stmt) → i < length ks → k ≡ get_or ks i k → ss ≡ list_items k.body → clauses_count (clauses_view (drop i ks)) ≡ stmts_count (stmts_view ss) + clauses_count (clauses_view (drop (i + 1) ks))
clauses_step ks i k ss h is body =
    at_drop_more (λ l. clauses_count (clauses_view l)) ks i k h
    ∙ ap (λ (x : Clause). stmts_count (clause_view x).body + clauses_count (clauses_view (drop (i + 1) ks))) (sym is)
    ∙ ap (λ n. stmts_count n + clauses_count (clauses_view (drop (i + 1) ks))) (clause_body k ss body)

pub labels_step : (seed : Seed) (ks : List Clause) (i : ℕ) (k : Clause) (ss : List Stmt) → i < length ks → k ≡ get_or ks i k → ss ≡ list_items k.body → with_clauses seed (clauses_view (drop i ks)) ≡ with_clauses (with_stmts seed (stmts_view ss)) (clauses_view (drop (i + 1) ks))
labels_step seed ks i k ss h is body =
    at_drop_more (λ l. with_clauses seed (clauses_view l)) ks i k h
    ∙ ap (λ (x : Clause). with_clauses (with_stmts seed (clause_view x).body) (clauses_view (drop (i + 1) ks))) (sym is)
    ∙ ap (λ n. with_clauses (with_stmts seed n) (clauses_view (drop (i + 1) ks))) (clause_body k ss body)

pub ruleset counts = (views, link_operand, whole, past)
