-- Statements and clauses, from the last one to the first.
use Rattle.std.proofs.Common.{◌≡◌, ℕ, zero, suc, ◌+◌, ◌<◌, ◌≤◌, List, [], ◌∷◌, length, drop, get_or, Option, Some, None, sym, ap, ◌∙◌, arith}
use Rattle.std.proofs.lemmas.List.{at_drop_more, at_drop_all}
use Rattle.sem_words.specs.Lists.{list_items}
use Rattle.asm_lang.specs.Modules.{Expr, Stmt}
use Rattle.asm_lang_valid.specs.Typing.{Scope}
use Rattle.asm_lang_valid.specs.Rows.{stmt_count, stmts_count, clauses_count}
use Rattle.asm_tree.specs.declared.tree.Stmt.{Stmt as CodeStmt}
use Rattle.asm_tree.specs.declared.tree.Clause.{Clause}
use Rattle.asm_tree.specs.Views.{ClauseView, stmt_view, stmts_view, clauses_view}
use Rattle.asm_tree.proofs.Views.{clause_view-is}
use Rattle.switch_cases.proofs.CaseValues.{clauses_put}
use Rattle.asm_run_code.specs.declared.op.Op.{Op}
use Rattle.asm_run_code.specs.Bodies.{Around, Placed, placed_before, stmt, stmts_code, clauses_code}
use Rattle.asm_run_emit_bodies.specs.Choices.{choice, otherwise_count}

-- ---- an item has at most as many nodes as all

pub stmt_within : (ss : List CodeStmt) (i : ℕ) (s : CodeStmt) → i < length ss → s ≡ get_or ss i s → stmt_count (stmt_view s) ≤ stmts_count (stmts_view ss)
stmt_within [] i s h is = absurd (omega arith)
stmt_within (x ∷ xs) zero s h is = omega (arith, ap (λ (y : CodeStmt). stmt_count (stmt_view y)) is)
stmt_within (x ∷ xs) (suc i) s h is = omega (arith, stmt_within xs i s (omega arith) is)

clause_count : (k : Clause) (ks : List Clause) → clauses_count (clauses_view (k ∷ ks)) ≡ stmts_count (stmts_view (list_items k.body)) + clauses_count (clauses_view ks)
clause_count k ks = ap (λ (v : ClauseView). stmts_count v.body + clauses_count (clauses_view ks)) (clause_view-is k)

pub clause_within : (ks : List Clause) (i : ℕ) (k : Clause) → i < length ks → k ≡ get_or ks i k → stmts_count (stmts_view (list_items k.body)) ≤ clauses_count (clauses_view ks)
clause_within [] i k h is = absurd (omega arith)
clause_within (x ∷ xs) zero k h is = omega (arith, clause_count x xs, ap (λ (y : Clause). stmts_count (stmts_view (list_items y.body))) is)
clause_within (x ∷ xs) (suc i) k h is = omega (arith, clause_count x xs, clause_within xs i k (omega arith) is)

-- the arms of a choice are in it
pub choice_count : (e : Expr) (s : Stmt) (x : Option Stmt) → stmt_count s + otherwise_count x < stmt_count (choice e s x)
choice_count e s None = omega arith
choice_count e s (Some r) = omega arith

-- ---- code

module _ (c : Scope) (around : List Around) (d : ℕ) (o : List Op) where
  pub stmt_put : (ss : List CodeStmt) (i j : ℕ) (s : CodeStmt) → j ≡ i + 1 → i < length ss → s ≡ get_or ss i s → stmts_code c around d (stmts_view (drop i ss)) o ≡ stmt c around [] d (stmt_view s) (stmts_code c around d (stmts_view (drop j ss)) o)
  unfolding stmts_code
  stmt_put ss i j s p h is =
      at_drop_more (λ l. stmts_code c around d (stmts_view l) o) ss i s h
      ∙ ap (λ (x : CodeStmt). stmt c around [] d (stmt_view x) (stmts_code c around d (stmts_view (drop (i + 1) ss)) o)) (sym is)
      ∙ ap (λ m. stmt c around [] d (stmt_view s) (stmts_code c around d (stmts_view (drop m ss)) o)) (sym p)

  pub stmt_none : (ss : List CodeStmt) → stmts_code c around d (stmts_view (drop (length ss) ss)) o ≡ o
  unfolding stmts_code
  stmt_none ss = at_drop_all (λ l. stmts_code c around d (stmts_view l) o) ss (length ss) (omega arith)

  pub clause_put : (ks : List Clause) (i j : ℕ) (k : Clause) → j ≡ i + 1 → i < length ks → k ≡ get_or ks i k →
      clauses_code c around d (clauses_view (drop i ks)) o ≡ placed_before (stmts_code c around d (stmts_view (list_items k.body)) (clauses_code c around d (clauses_view (drop j ks)) o).code) (clauses_code c around d (clauses_view (drop j ks)) o).starts
  unfolding clauses_code
  clause_put ks i j k p h is = ap (λ cs. clauses_code c around d cs o) (clauses_put ks i j k p h is)

  pub clause_none : (ks : List Clause) → clauses_code c around d (clauses_view (drop (length ks) ks)) o ≡ record { code = o; starts = length o ∷ [] }
  unfolding clauses_code
  clause_none ks = at_drop_all (λ l. clauses_code c around d (clauses_view l) o) ks (length ks) (omega arith)

  -- ---- a pass from the last one to the first: the code so far is that of those passed

  pub stmts_begin : (ss : List CodeStmt) → o ≡ stmts_code c around d (stmts_view (drop (length ss) ss)) o
  stmts_begin ss = sym (stmt_none ss)

  pub stmts_turn : (ss : List CodeStmt) (a b : List Op) (i j : ℕ) (s : CodeStmt) → j ≡ i + 1 → i < length ss → s ≡ get_or ss i s → a ≡ stmts_code c around d (stmts_view (drop j ss)) o → b ≡ stmt c around [] d (stmt_view s) a → b ≡ stmts_code c around d (stmts_view (drop i ss)) o
  stmts_turn ss a b i j s hj h is ha hb = hb ∙ ap (stmt c around [] d (stmt_view s)) ha ∙ sym (stmt_put ss i j s hj h is)

  pub stmts_end : (ss : List CodeStmt) (a : List Op) (i : ℕ) → i ≡ 0 → a ≡ stmts_code c around d (stmts_view (drop i ss)) o → a ≡ stmts_code c around d (stmts_view ss) o
  stmts_end ss a i hi ha = ha ∙ ap (λ i. stmts_code c around d (stmts_view (drop i ss)) o) hi

  pub code_begin : (ks : List Clause) → o ≡ (clauses_code c around d (clauses_view (drop (length ks) ks)) o).code
  code_begin ks = ap (λ (p : Placed). p.code) (sym (clause_none ks))

  pub starts_begin : (ks : List Clause) (a : List ℕ) → a ≡ length o ∷ [] → a ≡ (clauses_code c around d (clauses_view (drop (length ks) ks)) o).starts
  starts_begin ks a ha = ha ∙ ap (λ (p : Placed). p.starts) (sym (clause_none ks))

  module _ (ks : List Clause) (i j : ℕ) (k : Clause) (hj : j ≡ i + 1) (h : i < length ks) (is : k ≡ get_or ks i k) where
    pub code_turn : (ss : List CodeStmt) (a b : List Op) → ss ≡ list_items k.body → a ≡ (clauses_code c around d (clauses_view (drop j ks)) o).code → b ≡ stmts_code c around d (stmts_view ss) a → b ≡ (clauses_code c around d (clauses_view (drop i ks)) o).code
    code_turn ss a b hs ha hb =
        hb ∙ ap (λ (ss : List CodeStmt). stmts_code c around d (stmts_view ss) a) hs ∙ ap (stmts_code c around d (stmts_view (list_items k.body))) ha
        ∙ ap (λ (p : Placed). p.code) (sym (clause_put ks i j k hj h is))

    pub starts_turn : (ss : List CodeStmt) (a b : List Op) (at : ℕ) (x y : List ℕ) → ss ≡ list_items k.body → a ≡ (clauses_code c around d (clauses_view (drop j ks)) o).code → b ≡ stmts_code c around d (stmts_view ss) a →
        at ≡ length b → x ≡ (clauses_code c around d (clauses_view (drop j ks)) o).starts → y ≡ at ∷ x → y ≡ (clauses_code c around d (clauses_view (drop i ks)) o).starts
    starts_turn ss a b at x y hs ha hb hat hx hy =
        let made = hb ∙ ap (λ (ss : List CodeStmt). stmts_code c around d (stmts_view ss) a) hs ∙ ap (stmts_code c around d (stmts_view (list_items k.body))) ha in
        hy ∙ ap (λ l. at ∷ l) hx ∙ ap (λ n. n ∷ (clauses_code c around d (clauses_view (drop j ks)) o).starts) (hat ∙ ap length made)
        ∙ ap (λ (p : Placed). p.starts) (sym (clause_put ks i j k hj h is))

  pub code_end : (ks : List Clause) (a : List Op) (i : ℕ) → i ≡ 0 → a ≡ (clauses_code c around d (clauses_view (drop i ks)) o).code → a ≡ (clauses_code c around d (clauses_view ks) o).code
  code_end ks a i hi ha = ha ∙ ap (λ i. (clauses_code c around d (clauses_view (drop i ks)) o).code) hi

  pub starts_end : (ks : List Clause) (x : List ℕ) (i : ℕ) → i ≡ 0 → x ≡ (clauses_code c around d (clauses_view (drop i ks)) o).starts → x ≡ (clauses_code c around d (clauses_view ks) o).starts
  starts_end ks x i hi hx = hx ∙ ap (λ i. (clauses_code c around d (clauses_view (drop i ks)) o).starts) hi
