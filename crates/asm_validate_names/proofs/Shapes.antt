-- How many nodes an expression has, by its form.
use Rattle.std.proofs.Common.{◌≡◌, ◌≤◌, List, sym, ap, ◌∙◌, arith}
use Rattle.std.specs.declared.boxed.Box.{Box}
use Rattle.std.specs.Global.{Global}
use Rattle.sem_words.specs.declared.text.Text.{Text}
use Rattle.sem_words.specs.declared.list.List.{List as Listed}
use Rattle.sem_words.specs.declared.js_value.JsOp.{JsOp}
use Rattle.sem_words.specs.declared.js_value.JsUnary.{JsUnary}
use Rattle.sem_words.specs.Lists.{list_items, text_bytes}
use Rattle.asm_lang.specs.Modules.{Expr, lit, decimal, var, index, call, table_call, assign, store, unary, binary, chain, cond, comma, Stmt, block, plain, empty, if_only, if_else, returns, while_loop, do_while, for_loop, breaks, continues, labelled, switches}
use Rattle.asm_tree.specs.declared.tree.Expr.{Expr as CodeExpr}
use Rattle.asm_tree.specs.declared.tree.Link.{Link as CodeLink}
use Rattle.asm_tree.specs.declared.tree.Expr.TheVariants as code
use Rattle.asm_tree.specs.declared.tree.Stmt.{Stmt as CodeStmt}
use Rattle.asm_tree.specs.declared.tree.Stmt.TheVariants as stmts
use Rattle.asm_tree.specs.declared.tree.Clause.{Clause as CodeClause}
use Rattle.asm_tree.specs.Views.{expr_view, exprs_view, links_view, stmt_view, clauses_view}
use Rattle.asm_tree.proofs.Views.{expr_view-Index, expr_view-Call, expr_view-TableCall, expr_view-Assign, expr_view-Store, expr_view-Unary, expr_view-Binary, expr_view-Chain, expr_view-Cond, expr_view-Comma, stmt_view-Switch}
use Rattle.asm_lang_valid.specs.Rows.{expr_count, stmt_count}

pub positive : (e : Expr) → 1 ≤ expr_count e
positive (lit v) = omega arith
positive (decimal bs) = omega arith
positive (var n) = omega arith
positive (index n i) = omega arith
positive (call n es) = omega arith
positive (table_call n i es) = omega arith
positive (assign n e) = omega arith
positive (store n i e) = omega arith
positive (unary op e) = omega arith
positive (binary op l r) = omega arith
positive (chain e ls) = omega arith
positive (cond c a b) = omega arith
positive (comma es) = omega arith

pub stmt_positive : (s : Stmt) → 1 ≤ stmt_count s
stmt_positive (block ss) = omega arith
stmt_positive (plain e) = omega arith
stmt_positive empty = omega arith
stmt_positive (if_only c s) = omega arith
stmt_positive (if_else c s r) = omega arith
stmt_positive (returns o) = omega arith
stmt_positive (while_loop c s) = omega arith
stmt_positive (do_while s c) = omega arith
stmt_positive (for_loop a b c s) = omega arith
stmt_positive (breaks l) = omega arith
stmt_positive (continues l) = omega arith
stmt_positive (labelled ls s) = omega arith
stmt_positive (switches e cs) = omega arith

pub switch_is : (s : CodeStmt) (e : CodeExpr) (l : Listed CodeClause) (ks : List CodeClause) → s ≡ stmts.Switch l e → ks ≡ list_items l → stmt_view s ≡ switches (expr_view e) (clauses_view ks)
switch_is s e l ks h k = ap stmt_view h ∙ stmt_view-Switch e l ∙ ap (λ x. switches (expr_view e) (clauses_view x)) (sym k)

module _ (e : CodeExpr) where
  pub index_is : (n : Text) (b : Box CodeExpr Global) (i : CodeExpr) → e ≡ code.Index n b → i ≡ b.value → expr_view e ≡ index (text_bytes n) (expr_view i)
  index_is n b i h k = ap expr_view h ∙ expr_view-Index n b ∙ ap (λ x. index (text_bytes n) (expr_view x)) (sym k)

  pub call_is : (n : Text) (l : Listed CodeExpr) (es : List CodeExpr) → e ≡ code.Call n l → es ≡ list_items l → expr_view e ≡ call (text_bytes n) (exprs_view es)
  call_is n l es h k = ap expr_view h ∙ expr_view-Call n l ∙ ap (λ x. call (text_bytes n) (exprs_view x)) (sym k)

  pub table_call_is : (n : Text) (b : Box CodeExpr Global) (l : Listed CodeExpr) (i : CodeExpr) (es : List CodeExpr) → e ≡ code.TableCall n b l → i ≡ b.value → es ≡ list_items l → expr_view e ≡ table_call (text_bytes n) (expr_view i) (exprs_view es)
  table_call_is n b l i es h k m = ap expr_view h ∙ expr_view-TableCall n b l ∙ ap (λ x. table_call (text_bytes n) (expr_view x) (exprs_view (list_items l))) (sym k) ∙ ap (λ x. table_call (text_bytes n) (expr_view i) (exprs_view x)) (sym m)

  pub assign_is : (n : Text) (b : Box CodeExpr Global) (x : CodeExpr) → e ≡ code.Assign n b → x ≡ b.value → expr_view e ≡ assign (text_bytes n) (expr_view x)
  assign_is n b x h k = ap expr_view h ∙ expr_view-Assign n b ∙ ap (λ x. assign (text_bytes n) (expr_view x)) (sym k)

  pub unary_is : (op : JsUnary) (b : Box CodeExpr Global) (x : CodeExpr) → e ≡ code.Unary op b → x ≡ b.value → expr_view e ≡ unary op (expr_view x)
  unary_is op b x h k = ap expr_view h ∙ expr_view-Unary op b ∙ ap (λ x. unary op (expr_view x)) (sym k)

  pub comma_is : (l : Listed CodeExpr) (es : List CodeExpr) → e ≡ code.Comma l → es ≡ list_items l → expr_view e ≡ comma (exprs_view es)
  comma_is l es h k = ap expr_view h ∙ expr_view-Comma l ∙ ap (λ x. comma (exprs_view x)) (sym k)

  -- those with two parts or three, in terms of what the boxes hold
  pub store_is : (n : Text) (b d : Box CodeExpr Global) → e ≡ code.Store n b d → expr_view e ≡ store (text_bytes n) (expr_view b.value) (expr_view d.value)
  store_is n b d h = ap expr_view h ∙ expr_view-Store n b d

  pub binary_is : (op : JsOp) (b d : Box CodeExpr Global) → e ≡ code.Binary op b d → expr_view e ≡ binary op (expr_view b.value) (expr_view d.value)
  binary_is op b d h = ap expr_view h ∙ expr_view-Binary op b d

  pub chain_is : (b : Box CodeExpr Global) (l : Listed CodeLink) → e ≡ code.Chain b l → expr_view e ≡ chain (expr_view b.value) (links_view (list_items l))
  chain_is b l h = ap expr_view h ∙ expr_view-Chain b l

  pub cond_is : (b d f : Box CodeExpr Global) → e ≡ code.Cond b d f → expr_view e ≡ cond (expr_view b.value) (expr_view d.value) (expr_view f.value)
  cond_is b d f h = ap expr_view h ∙ expr_view-Cond b d f
