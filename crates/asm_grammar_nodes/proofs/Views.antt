-- The equations of the views of trees.
use Rattle.std.proofs.Common.{◌≡◌, ℕ, List, [], ◌∷◌, ◌++◌, Option, Some, None, map, refl, sym, ap, ◌∙◌}
use Rattle.std.specs.Prelude.{pos, neg_ℤ}
use Rattle.sem_words.specs.declared.text.Text.{Text}
use Rattle.std.specs.Global.{Global}
use Rattle.std.specs.declared.boxed.Box.{Box}
use Rattle.sem_words.specs.Lists.{list_items, text_bytes}
use Rattle.sem_words.specs.declared.list.List.{List as Listed}
use Rattle.sem_words.specs.declared.js_value.JsOp.{JsOp}
use Rattle.sem_words.specs.declared.js_value.JsUnary.{JsUnary}
use Rattle.asm_lang.specs.Machine.{more_exprs, more_stmts_of}
use Rattle.asm_lang.specs.Trees.{ExprTree, literal, decimals, variable, element, call, table_call, assignment, store, unary, binary, conditional, listed, one_expr, StmtTree, block, plain, empty, if_only, if_else, returns, while_loop, do_loop, for_loop, breaks, continues, switches, one_stmt, one_clause}
use Rattle.asm_grammar_nodes.specs.declared.lexeme.Word.{Word}
use Rattle.asm_grammar_nodes.specs.declared.tree.ExprTree.{ExprTree as CodeExpr, fold-roll-ExprTree}
use Rattle.asm_grammar_nodes.specs.declared.tree.ExprTree.TheOpen as expr_layers
use Rattle.asm_grammar_nodes.specs.declared.tree.ExprTree.TheVariants as exprs
use Rattle.asm_grammar_nodes.specs.declared.tree.Addend.{Addend as CodeAddend, fold-roll-Addend}
use Rattle.asm_grammar_nodes.specs.declared.tree.StmtTree.{StmtTree as CodeStmt, fold-roll-StmtTree}
use Rattle.asm_grammar_nodes.specs.declared.tree.StmtTree.TheOpen as stmt_layers
use Rattle.asm_grammar_nodes.specs.declared.tree.StmtTree.TheVariants as stmts
use Rattle.asm_grammar_nodes.specs.declared.tree.ClauseTree.{ClauseTree as CodeClause, fold-roll-ClauseTree}
use Rattle.asm_grammar_nodes.specs.declared.tree.ForHeadTree.{ForHeadTree}
use Rattle.asm_grammar_nodes.specs.Views.{words_view, expr_layer, addend_layer, AddendView, expr_view, addend_view, exprs_view, expr_option, sum_in, sign_of, stmt_layer, clause_layer, ClauseView, stmt_view, stmts_view, clause_view, clauses_view, clauses_in, name_option, under_all, more_clauses}

pub expr_view-Literal : (at : ℕ) (v : ℕ) → expr_view (exprs.Literal at v) ≡ literal at (pos v)
unfolding expr_view addend_view
expr_view-Literal at v = ap expr_view (sym (exprs.rolls-Literal at v)) ∙ fold-roll-ExprTree ExprTree AddendView expr_layer addend_layer (expr_layers.Literal at v)

pub expr_view-Negative : (at : ℕ) (v : ℕ) → expr_view (exprs.Negative at v) ≡ literal at (neg_ℤ (pos v))
unfolding expr_view addend_view
expr_view-Negative at v = ap expr_view (sym (exprs.rolls-Negative at v)) ∙ fold-roll-ExprTree ExprTree AddendView expr_layer addend_layer (expr_layers.Negative at v)

pub expr_view-Decimals : (at : ℕ) (t : Text) → expr_view (exprs.Decimals at t) ≡ decimals at (text_bytes t)
unfolding expr_view addend_view
expr_view-Decimals at t = ap expr_view (sym (exprs.rolls-Decimals at t)) ∙ fold-roll-ExprTree ExprTree AddendView expr_layer addend_layer (expr_layers.Decimals at t)

pub expr_view-Variable : (at : ℕ) (n : Text) → expr_view (exprs.Variable at n) ≡ variable at (text_bytes n)
unfolding expr_view addend_view
expr_view-Variable at n = ap expr_view (sym (exprs.rolls-Variable at n)) ∙ fold-roll-ExprTree ExprTree AddendView expr_layer addend_layer (expr_layers.Variable at n)

pub expr_view-Element : (at : ℕ) (n : Text) (i : Box CodeExpr Global) → expr_view (exprs.Element at n i) ≡ element at (text_bytes n) (expr_view i.value)
unfolding expr_view addend_view
expr_view-Element at n i = ap expr_view (sym (exprs.rolls-Element at n i)) ∙ fold-roll-ExprTree ExprTree AddendView expr_layer addend_layer (expr_layers.Element at n i)

pub expr_view-Call : (at : ℕ) (n : Text) (es : Listed CodeExpr) → expr_view (exprs.Call at n es) ≡ call at (text_bytes n) (exprs_view (list_items es))
unfolding expr_view addend_view
expr_view-Call at n es = ap expr_view (sym (exprs.rolls-Call at n es)) ∙ fold-roll-ExprTree ExprTree AddendView expr_layer addend_layer (expr_layers.Call at n es)

pub expr_view-TableCall : (at : ℕ) (n : Text) (i : Box CodeExpr Global) (es : Listed CodeExpr) → expr_view (exprs.TableCall at n i es) ≡ table_call at (text_bytes n) (expr_view i.value) (exprs_view (list_items es))
unfolding expr_view addend_view
expr_view-TableCall at n i es = ap expr_view (sym (exprs.rolls-TableCall at n i es)) ∙ fold-roll-ExprTree ExprTree AddendView expr_layer addend_layer (expr_layers.TableCall at n i es)

pub expr_view-Assignment : (at : ℕ) (n : Text) (e : Box CodeExpr Global) → expr_view (exprs.Assignment at n e) ≡ assignment at (text_bytes n) (expr_view e.value)
unfolding expr_view addend_view
expr_view-Assignment at n e = ap expr_view (sym (exprs.rolls-Assignment at n e)) ∙ fold-roll-ExprTree ExprTree AddendView expr_layer addend_layer (expr_layers.Assignment at n e)

pub expr_view-Store : (at : ℕ) (n : Text) (i : Box CodeExpr Global) (e : Box CodeExpr Global) → expr_view (exprs.Store at n i e) ≡ store at (text_bytes n) (expr_view i.value) (expr_view e.value)
unfolding expr_view addend_view
expr_view-Store at n i e = ap expr_view (sym (exprs.rolls-Store at n i e)) ∙ fold-roll-ExprTree ExprTree AddendView expr_layer addend_layer (expr_layers.Store at n i e)

pub expr_view-Unary : (at : ℕ) (op : JsUnary) (e : Box CodeExpr Global) → expr_view (exprs.Unary at op e) ≡ unary at op (expr_view e.value)
unfolding expr_view addend_view
expr_view-Unary at op e = ap expr_view (sym (exprs.rolls-Unary at op e)) ∙ fold-roll-ExprTree ExprTree AddendView expr_layer addend_layer (expr_layers.Unary at op e)

pub expr_view-Binary : (at : ℕ) (l : Box CodeExpr Global) (op : JsOp) (r : Box CodeExpr Global) → expr_view (exprs.Binary at l op r) ≡ binary at (expr_view l.value) op (expr_view r.value)
unfolding expr_view addend_view
expr_view-Binary at l op r = ap expr_view (sym (exprs.rolls-Binary at l op r)) ∙ fold-roll-ExprTree ExprTree AddendView expr_layer addend_layer (expr_layers.Binary at l op r)

pub expr_view-Sum : (e : Box CodeExpr Global) (others : Listed CodeAddend) → expr_view (exprs.Sum e others) ≡ sum_in (expr_view e.value) (map addend_view (list_items others))
unfolding expr_view addend_view
expr_view-Sum e others = ap expr_view (sym (exprs.rolls-Sum e others)) ∙ fold-roll-ExprTree ExprTree AddendView expr_layer addend_layer (expr_layers.Sum e others)

pub expr_view-Conditional : (at : ℕ) (c : Box CodeExpr Global) (a : Box CodeExpr Global) (b : Box CodeExpr Global) → expr_view (exprs.Conditional at c a b) ≡ conditional at (expr_view c.value) (expr_view a.value) (expr_view b.value)
unfolding expr_view addend_view
expr_view-Conditional at c a b = ap expr_view (sym (exprs.rolls-Conditional at c a b)) ∙ fold-roll-ExprTree ExprTree AddendView expr_layer addend_layer (expr_layers.Conditional at c a b)

pub expr_view-Listed : (at : ℕ) (es : Listed CodeExpr) → expr_view (exprs.Listed at es) ≡ listed at (exprs_view (list_items es))
unfolding expr_view addend_view
expr_view-Listed at es = ap expr_view (sym (exprs.rolls-Listed at es)) ∙ fold-roll-ExprTree ExprTree AddendView expr_layer addend_layer (expr_layers.Listed at es)

pub stmt_view-Block : (at : ℕ) (ss : Listed CodeStmt) → stmt_view (stmts.Block at ss) ≡ block at (stmts_view (list_items ss))
unfolding stmt_view clause_view
stmt_view-Block at ss = ap stmt_view (sym (stmts.rolls-Block at ss)) ∙ fold-roll-StmtTree StmtTree ClauseView stmt_layer clause_layer (stmt_layers.Block at ss)

pub stmt_view-Plain : (at : ℕ) (e : Box CodeExpr Global) → stmt_view (stmts.Plain at e) ≡ plain at (expr_view e.value)
unfolding stmt_view clause_view
stmt_view-Plain at e = ap stmt_view (sym (stmts.rolls-Plain at e)) ∙ fold-roll-StmtTree StmtTree ClauseView stmt_layer clause_layer (stmt_layers.Plain at e)

pub stmt_view-Empty : (at : ℕ) → stmt_view (stmts.Empty at) ≡ empty at
unfolding stmt_view clause_view
stmt_view-Empty at = ap stmt_view (sym (stmts.rolls-Empty at)) ∙ fold-roll-StmtTree StmtTree ClauseView stmt_layer clause_layer (stmt_layers.Empty at)

pub stmt_view-If_only : (at : ℕ) (c : Box CodeExpr Global) (s : Box CodeStmt Global) → stmt_view (stmts.If at c s None) ≡ if_only at (expr_view c.value) (stmt_view s.value)
unfolding stmt_view clause_view
stmt_view-If_only at c s = ap stmt_view (sym (stmts.rolls-If at c s None)) ∙ fold-roll-StmtTree StmtTree ClauseView stmt_layer clause_layer (stmt_layers.If at c s None)

pub stmt_view-If_else : (at : ℕ) (c : Box CodeExpr Global) (s : Box CodeStmt Global) (r : Box CodeStmt Global) → stmt_view (stmts.If at c s (Some r)) ≡ if_else at (expr_view c.value) (stmt_view s.value) (stmt_view r.value)
unfolding stmt_view clause_view
stmt_view-If_else at c s r = ap stmt_view (sym (stmts.rolls-If at c s (Some r))) ∙ fold-roll-StmtTree StmtTree ClauseView stmt_layer clause_layer (stmt_layers.If at c s (Some r))

pub stmt_view-Return : (at : ℕ) (o : Option (Box CodeExpr Global)) → stmt_view (stmts.Return at o) ≡ returns at (expr_option o)
unfolding stmt_view clause_view
stmt_view-Return at o = ap stmt_view (sym (stmts.rolls-Return at o)) ∙ fold-roll-StmtTree StmtTree ClauseView stmt_layer clause_layer (stmt_layers.Return at o)

pub stmt_view-While : (at : ℕ) (c : Box CodeExpr Global) (s : Box CodeStmt Global) → stmt_view (stmts.While at c s) ≡ while_loop at (expr_view c.value) (stmt_view s.value)
unfolding stmt_view clause_view
stmt_view-While at c s = ap stmt_view (sym (stmts.rolls-While at c s)) ∙ fold-roll-StmtTree StmtTree ClauseView stmt_layer clause_layer (stmt_layers.While at c s)

pub stmt_view-DoWhile : (at : ℕ) (s : Box CodeStmt Global) (c : Box CodeExpr Global) → stmt_view (stmts.DoWhile at s c) ≡ do_loop at (stmt_view s.value) (expr_view c.value)
unfolding stmt_view clause_view
stmt_view-DoWhile at s c = ap stmt_view (sym (stmts.rolls-DoWhile at s c)) ∙ fold-roll-StmtTree StmtTree ClauseView stmt_layer clause_layer (stmt_layers.DoWhile at s c)

pub stmt_view-For : (at : ℕ) (h : Box ForHeadTree Global) (s : Box CodeStmt Global) → stmt_view (stmts.For at h s) ≡ for_loop at (expr_option h.value.start) (expr_option h.value.condition) (expr_option h.value.step) (stmt_view s.value)
unfolding stmt_view clause_view
stmt_view-For at h s = ap stmt_view (sym (stmts.rolls-For at h s)) ∙ fold-roll-StmtTree StmtTree ClauseView stmt_layer clause_layer (stmt_layers.For at h s)

pub stmt_view-Break : (at : ℕ) (l : Option (Text)) → stmt_view (stmts.Break at l) ≡ breaks at (name_option l)
unfolding stmt_view clause_view
stmt_view-Break at l = ap stmt_view (sym (stmts.rolls-Break at l)) ∙ fold-roll-StmtTree StmtTree ClauseView stmt_layer clause_layer (stmt_layers.Break at l)

pub stmt_view-Continue : (at : ℕ) (l : Option (Text)) → stmt_view (stmts.Continue at l) ≡ continues at (name_option l)
unfolding stmt_view clause_view
stmt_view-Continue at l = ap stmt_view (sym (stmts.rolls-Continue at l)) ∙ fold-roll-StmtTree StmtTree ClauseView stmt_layer clause_layer (stmt_layers.Continue at l)

pub stmt_view-Labelled : (ls : Listed Word) (s : Box CodeStmt Global) → stmt_view (stmts.Labelled ls s) ≡ under_all (words_view (list_items ls)) (stmt_view s.value)
unfolding stmt_view clause_view
stmt_view-Labelled ls s = ap stmt_view (sym (stmts.rolls-Labelled ls s)) ∙ fold-roll-StmtTree StmtTree ClauseView stmt_layer clause_layer (stmt_layers.Labelled ls s)

pub stmt_view-Switch : (at : ℕ) (e : Box CodeExpr Global) (cs : Listed CodeClause) → stmt_view (stmts.Switch at e cs) ≡ switches at (expr_view e.value) (clauses_view (list_items cs))
unfolding stmt_view clause_view
stmt_view-Switch at e cs = ap stmt_view (sym (stmts.rolls-Switch at e cs)) ∙ fold-roll-StmtTree StmtTree ClauseView stmt_layer clause_layer (stmt_layers.Switch at e cs)

pub addend_view-is : (a : CodeAddend) → addend_view a ≡ record { at = a.at; minus = a.minus; operand = expr_view a.operand }
unfolding addend_view expr_view
addend_view-is a = fold-roll-Addend ExprTree AddendView expr_layer addend_layer (record { at = a.at; minus = a.minus; operand = a.operand })

pub clause_view-is : (c : CodeClause) → clause_view c ≡ record { value = c.value; body = stmts_view (list_items c.body) }
unfolding clause_view stmt_view
clause_view-is c = fold-roll-ClauseTree StmtTree ClauseView stmt_layer clause_layer (record { value = c.value; body = c.body })

pub exprs_view-last : (es : List CodeExpr) (e : CodeExpr) → exprs_view (es ++ e ∷ []) ≡ more_exprs (exprs_view es) (expr_view e)
exprs_view-last [] e = refl
exprs_view-last (x ∷ es) e = ap (one_expr (expr_view x)) (exprs_view-last es e)

pub sum_in-last : (x : ExprTree) (others : List AddendView) (a : AddendView) → sum_in x (others ++ a ∷ []) ≡ binary a.at (sum_in x others) (sign_of a.minus) a.operand
sum_in-last x [] a = refl
sum_in-last x (o ∷ others) a = sum_in-last (binary o.at x (sign_of o.minus) o.operand) others a

pub addends_view-last : (others : List CodeAddend) (a : CodeAddend) → map addend_view (others ++ a ∷ []) ≡ map addend_view others ++ addend_view a ∷ []
addends_view-last [] a = refl
addends_view-last (o ∷ others) a = ap (λ r. addend_view o ∷ r) (addends_view-last others a)

pub sum_view-last : (x : ExprTree) (others : List CodeAddend) (a : CodeAddend) → sum_in x (map addend_view (others ++ a ∷ [])) ≡ binary a.at (sum_in x (map addend_view others)) (sign_of a.minus) (expr_view a.operand)
sum_view-last x others a =
    ap (sum_in x) (addends_view-last others a) ∙ sum_in-last x (map addend_view others) (addend_view a)
    ∙ ap (λ (v : AddendView). binary v.at (sum_in x (map addend_view others)) (sign_of v.minus) v.operand) (addend_view-is a)

pub stmts_view-last : (ss : List CodeStmt) (s : CodeStmt) → stmts_view (ss ++ s ∷ []) ≡ more_stmts_of (stmts_view ss) (stmt_view s)
stmts_view-last [] s = refl
stmts_view-last (x ∷ ss) s = ap (one_stmt (stmt_view x)) (stmts_view-last ss s)

pub clauses_in-last : (cs : List ClauseView) (c : ClauseView) → clauses_in (cs ++ c ∷ []) ≡ more_clauses (clauses_in cs) c.value c.body
clauses_in-last [] c = refl
clauses_in-last (x ∷ cs) c = ap (one_clause x.value x.body) (clauses_in-last cs c)

clause_views-last : (cs : List CodeClause) (c : CodeClause) → map clause_view (cs ++ c ∷ []) ≡ map clause_view cs ++ clause_view c ∷ []
clause_views-last [] c = refl
clause_views-last (x ∷ cs) c = ap (λ r. clause_view x ∷ r) (clause_views-last cs c)

pub clauses_view-last : (cs : List CodeClause) (c : CodeClause) → clauses_view (cs ++ c ∷ []) ≡ more_clauses (clauses_view cs) c.value (stmts_view (list_items c.body))
clauses_view-last cs c =
    ap clauses_in (clause_views-last cs c) ∙ clauses_in-last (map clause_view cs) (clause_view c)
    ∙ ap (λ (v : ClauseView). more_clauses (clauses_view cs) v.value v.body) (clause_view-is c)

pub ruleset views = (expr_view-Literal, expr_view-Negative, expr_view-Decimals, expr_view-Variable, expr_view-Element, expr_view-Call, expr_view-TableCall, expr_view-Assignment, expr_view-Store, expr_view-Unary, expr_view-Binary, expr_view-Sum, expr_view-Conditional, expr_view-Listed, stmt_view-Block, stmt_view-Plain, stmt_view-Empty, stmt_view-If_only, stmt_view-If_else, stmt_view-Return, stmt_view-While, stmt_view-DoWhile, stmt_view-For, stmt_view-Break, stmt_view-Continue, stmt_view-Labelled, stmt_view-Switch, clauses_view-last, addend_view-is, clause_view-is, exprs_view-last, sum_view-last, stmts_view-last)
