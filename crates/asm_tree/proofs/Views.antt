-- The equations of the views of trees.
use Rattle.std.proofs.Common.{◌≡◌, List, [], ◌∷◌, ◌++◌, Option, Some, None, map, refl, sym, ap, ◌∙◌}
use Rattle.std.specs.Prelude.{ℤ}
use Rattle.sem_words.specs.declared.text.Text.{Text}
use Rattle.std.specs.Global.{Global}
use Rattle.std.specs.declared.boxed.Box.{Box}
use Rattle.sem_words.specs.Lists.{list_items, text_bytes}
use Rattle.sem_words.specs.declared.list.List.{List as Listed}
use Rattle.sem_words.specs.declared.js_value.JsOp.{JsOp}
use Rattle.sem_words.specs.declared.js_value.JsUnary.{JsUnary}
use Rattle.asm_lang.specs.Modules.{Expr, lit, decimal, var, index, call, table_call, assign, store, unary, binary, chain, cond, comma, links, more_links, Stmt, block, plain, empty, if_only, if_else, returns, while_loop, do_while, for_loop, breaks, continues, labelled, switches}
use Rattle.asm_tree.specs.declared.tree.Expr.{Expr as CodeExpr, fold-roll-Expr}
use Rattle.asm_tree.specs.declared.tree.Expr.TheOpen as expr_layers
use Rattle.asm_tree.specs.declared.tree.Expr.TheVariants as code_exprs
use Rattle.asm_tree.specs.declared.tree.Link.{Link as CodeLink, fold-roll-Link}
use Rattle.asm_tree.specs.declared.tree.Stmt.{Stmt as CodeStmt, fold-roll-Stmt}
use Rattle.asm_tree.specs.declared.tree.Stmt.TheOpen as stmt_layers
use Rattle.asm_tree.specs.declared.tree.Stmt.TheVariants as code_stmts
use Rattle.asm_tree.specs.declared.tree.Clause.{Clause as CodeClause, fold-roll-Clause}
use Rattle.asm_tree.specs.declared.tree.ForHead.{ForHead}
use Rattle.asm_tree.specs.Views.{texts_view, text_option, LinkView, links_in, expr_layer, link_layer, expr_view, link_view, exprs_view, links_view, expr_option, ClauseView, stmt_layer, clause_layer, stmt_view, clause_view, stmts_view, clauses_view}

pub expr_view-Lit : (v : ℤ) → expr_view (code_exprs.Lit v) ≡ lit v
unfolding expr_view link_view
expr_view-Lit v = ap expr_view (sym (code_exprs.rolls-Lit v)) ∙ fold-roll-Expr Expr LinkView expr_layer link_layer (expr_layers.Lit v)

pub expr_view-Decimal : (t : Text) → expr_view (code_exprs.Decimal t) ≡ decimal (text_bytes t)
unfolding expr_view link_view
expr_view-Decimal t = ap expr_view (sym (code_exprs.rolls-Decimal t)) ∙ fold-roll-Expr Expr LinkView expr_layer link_layer (expr_layers.Decimal t)

pub expr_view-Var : (n : Text) → expr_view (code_exprs.Var n) ≡ var (text_bytes n)
unfolding expr_view link_view
expr_view-Var n = ap expr_view (sym (code_exprs.rolls-Var n)) ∙ fold-roll-Expr Expr LinkView expr_layer link_layer (expr_layers.Var n)

pub expr_view-Index : (n : Text) (i : Box CodeExpr Global) → expr_view (code_exprs.Index n i) ≡ index (text_bytes n) (expr_view i.value)
unfolding expr_view link_view
expr_view-Index n i = ap expr_view (sym (code_exprs.rolls-Index n i)) ∙ fold-roll-Expr Expr LinkView expr_layer link_layer (expr_layers.Index n i)

pub expr_view-Call : (n : Text) (es : Listed CodeExpr) → expr_view (code_exprs.Call n es) ≡ call (text_bytes n) (exprs_view (list_items es))
unfolding expr_view link_view
expr_view-Call n es = ap expr_view (sym (code_exprs.rolls-Call n es)) ∙ fold-roll-Expr Expr LinkView expr_layer link_layer (expr_layers.Call n es)

pub expr_view-TableCall : (n : Text) (i : Box CodeExpr Global) (es : Listed CodeExpr) → expr_view (code_exprs.TableCall n i es) ≡ table_call (text_bytes n) (expr_view i.value) (exprs_view (list_items es))
unfolding expr_view link_view
expr_view-TableCall n i es = ap expr_view (sym (code_exprs.rolls-TableCall n i es)) ∙ fold-roll-Expr Expr LinkView expr_layer link_layer (expr_layers.TableCall n i es)

pub expr_view-Assign : (n : Text) (e : Box CodeExpr Global) → expr_view (code_exprs.Assign n e) ≡ assign (text_bytes n) (expr_view e.value)
unfolding expr_view link_view
expr_view-Assign n e = ap expr_view (sym (code_exprs.rolls-Assign n e)) ∙ fold-roll-Expr Expr LinkView expr_layer link_layer (expr_layers.Assign n e)

pub expr_view-Store : (n : Text) (i : Box CodeExpr Global) (e : Box CodeExpr Global) → expr_view (code_exprs.Store n i e) ≡ store (text_bytes n) (expr_view i.value) (expr_view e.value)
unfolding expr_view link_view
expr_view-Store n i e = ap expr_view (sym (code_exprs.rolls-Store n i e)) ∙ fold-roll-Expr Expr LinkView expr_layer link_layer (expr_layers.Store n i e)

pub expr_view-Unary : (op : JsUnary) (e : Box CodeExpr Global) → expr_view (code_exprs.Unary op e) ≡ unary op (expr_view e.value)
unfolding expr_view link_view
expr_view-Unary op e = ap expr_view (sym (code_exprs.rolls-Unary op e)) ∙ fold-roll-Expr Expr LinkView expr_layer link_layer (expr_layers.Unary op e)

pub expr_view-Binary : (op : JsOp) (l : Box CodeExpr Global) (r : Box CodeExpr Global) → expr_view (code_exprs.Binary op l r) ≡ binary op (expr_view l.value) (expr_view r.value)
unfolding expr_view link_view
expr_view-Binary op l r = ap expr_view (sym (code_exprs.rolls-Binary op l r)) ∙ fold-roll-Expr Expr LinkView expr_layer link_layer (expr_layers.Binary op l r)

pub expr_view-Chain : (e : Box CodeExpr Global) (ls : Listed CodeLink) → expr_view (code_exprs.Chain e ls) ≡ chain (expr_view e.value) (links_view (list_items ls))
unfolding expr_view link_view
expr_view-Chain e ls = ap expr_view (sym (code_exprs.rolls-Chain e ls)) ∙ fold-roll-Expr Expr LinkView expr_layer link_layer (expr_layers.Chain e ls)

pub expr_view-Cond : (c : Box CodeExpr Global) (a : Box CodeExpr Global) (b : Box CodeExpr Global) → expr_view (code_exprs.Cond c a b) ≡ cond (expr_view c.value) (expr_view a.value) (expr_view b.value)
unfolding expr_view link_view
expr_view-Cond c a b = ap expr_view (sym (code_exprs.rolls-Cond c a b)) ∙ fold-roll-Expr Expr LinkView expr_layer link_layer (expr_layers.Cond c a b)

pub expr_view-Comma : (es : Listed CodeExpr) → expr_view (code_exprs.Comma es) ≡ comma (exprs_view (list_items es))
unfolding expr_view link_view
expr_view-Comma es = ap expr_view (sym (code_exprs.rolls-Comma es)) ∙ fold-roll-Expr Expr LinkView expr_layer link_layer (expr_layers.Comma es)

pub stmt_view-Block : (ss : Listed CodeStmt) → stmt_view (code_stmts.Block ss) ≡ block (stmts_view (list_items ss))
unfolding stmt_view clause_view
stmt_view-Block ss = ap stmt_view (sym (code_stmts.rolls-Block ss)) ∙ fold-roll-Stmt Stmt ClauseView stmt_layer clause_layer (stmt_layers.Block ss)

pub stmt_view-Plain : (e : CodeExpr) → stmt_view (code_stmts.Plain e) ≡ plain (expr_view e)
unfolding stmt_view clause_view
stmt_view-Plain e = ap stmt_view (sym (code_stmts.rolls-Plain e)) ∙ fold-roll-Stmt Stmt ClauseView stmt_layer clause_layer (stmt_layers.Plain e)

pub stmt_view-Empty : stmt_view (code_stmts.Empty) ≡ empty
unfolding stmt_view clause_view
stmt_view-Empty = ap stmt_view (sym (code_stmts.rolls-Empty)) ∙ fold-roll-Stmt Stmt ClauseView stmt_layer clause_layer stmt_layers.Empty

pub stmt_view-If_only : (c : CodeExpr) (s : Box CodeStmt Global) → stmt_view (code_stmts.If s None c) ≡ if_only (expr_view c) (stmt_view s.value)
unfolding stmt_view clause_view
stmt_view-If_only c s = ap stmt_view (sym (code_stmts.rolls-If s None c)) ∙ fold-roll-Stmt Stmt ClauseView stmt_layer clause_layer (stmt_layers.If s None c)

pub stmt_view-If_else : (c : CodeExpr) (s : Box CodeStmt Global) (r : Box CodeStmt Global) → stmt_view (code_stmts.If s (Some r) c) ≡ if_else (expr_view c) (stmt_view s.value) (stmt_view r.value)
unfolding stmt_view clause_view
stmt_view-If_else c s r = ap stmt_view (sym (code_stmts.rolls-If s (Some r) c)) ∙ fold-roll-Stmt Stmt ClauseView stmt_layer clause_layer (stmt_layers.If s (Some r) c)

pub stmt_view-Return : (o : Option CodeExpr) → stmt_view (code_stmts.Return o) ≡ returns (expr_option o)
unfolding stmt_view clause_view
stmt_view-Return o = ap stmt_view (sym (code_stmts.rolls-Return o)) ∙ fold-roll-Stmt Stmt ClauseView stmt_layer clause_layer (stmt_layers.Return o)

pub stmt_view-While : (c : CodeExpr) (s : Box CodeStmt Global) → stmt_view (code_stmts.While c s) ≡ while_loop (expr_view c) (stmt_view s.value)
unfolding stmt_view clause_view
stmt_view-While c s = ap stmt_view (sym (code_stmts.rolls-While c s)) ∙ fold-roll-Stmt Stmt ClauseView stmt_layer clause_layer (stmt_layers.While c s)

pub stmt_view-DoWhile : (s : Box CodeStmt Global) (c : CodeExpr) → stmt_view (code_stmts.DoWhile s c) ≡ do_while (stmt_view s.value) (expr_view c)
unfolding stmt_view clause_view
stmt_view-DoWhile s c = ap stmt_view (sym (code_stmts.rolls-DoWhile s c)) ∙ fold-roll-Stmt Stmt ClauseView stmt_layer clause_layer (stmt_layers.DoWhile s c)

pub stmt_view-For : (h : Box ForHead Global) (s : Box CodeStmt Global) → stmt_view (code_stmts.For h s) ≡ for_loop (expr_option h.value.start) (expr_option h.value.condition) (expr_option h.value.step) (stmt_view s.value)
unfolding stmt_view clause_view
stmt_view-For h s = ap stmt_view (sym (code_stmts.rolls-For h s)) ∙ fold-roll-Stmt Stmt ClauseView stmt_layer clause_layer (stmt_layers.For h s)

pub stmt_view-Break : (l : Option Text) → stmt_view (code_stmts.Break l) ≡ breaks (text_option l)
unfolding stmt_view clause_view
stmt_view-Break l = ap stmt_view (sym (code_stmts.rolls-Break l)) ∙ fold-roll-Stmt Stmt ClauseView stmt_layer clause_layer (stmt_layers.Break l)

pub stmt_view-Continue : (l : Option Text) → stmt_view (code_stmts.Continue l) ≡ continues (text_option l)
unfolding stmt_view clause_view
stmt_view-Continue l = ap stmt_view (sym (code_stmts.rolls-Continue l)) ∙ fold-roll-Stmt Stmt ClauseView stmt_layer clause_layer (stmt_layers.Continue l)

pub stmt_view-Labelled : (ls : Listed Text) (s : Box CodeStmt Global) → stmt_view (code_stmts.Labelled ls s) ≡ labelled (texts_view (list_items ls)) (stmt_view s.value)
unfolding stmt_view clause_view
stmt_view-Labelled ls s = ap stmt_view (sym (code_stmts.rolls-Labelled ls s)) ∙ fold-roll-Stmt Stmt ClauseView stmt_layer clause_layer (stmt_layers.Labelled ls s)

pub stmt_view-Switch : (e : CodeExpr) (cs : Listed CodeClause) → stmt_view (code_stmts.Switch cs e) ≡ switches (expr_view e) (clauses_view (list_items cs))
unfolding stmt_view clause_view
stmt_view-Switch e cs = ap stmt_view (sym (code_stmts.rolls-Switch cs e)) ∙ fold-roll-Stmt Stmt ClauseView stmt_layer clause_layer (stmt_layers.Switch cs e)

pub link_view-is : (l : CodeLink) → link_view l ≡ record { minus = l.minus; operand = expr_view l.operand }
unfolding link_view expr_view
link_view-is l = fold-roll-Link Expr LinkView expr_layer link_layer (record { minus = l.minus; operand = l.operand })

pub clause_view-is : (c : CodeClause) → clause_view c ≡ record { value = c.value; body = stmts_view (list_items c.body) }
unfolding clause_view stmt_view
clause_view-is c = fold-roll-Clause Stmt ClauseView stmt_layer clause_layer (record { value = c.value; body = c.body })

-- ---- one more at the end of a list

pub links_in-last : (ls : List LinkView) (l : LinkView) → links_in (ls ++ l ∷ []) ≡ more_links (links_in ls) l.minus l.operand
links_in-last [] l = refl
links_in-last (x ∷ ls) l = ap (links x.minus x.operand) (links_in-last ls l)

link_views-last : (ls : List CodeLink) (l : CodeLink) → map link_view (ls ++ l ∷ []) ≡ map link_view ls ++ link_view l ∷ []
link_views-last [] l = refl
link_views-last (x ∷ ls) l = ap (λ r. link_view x ∷ r) (link_views-last ls l)

pub links_view-last : (ls : List CodeLink) (l : CodeLink) → links_view (ls ++ l ∷ []) ≡ more_links (links_view ls) l.minus (expr_view l.operand)
links_view-last ls l =
    ap links_in (link_views-last ls l) ∙ links_in-last (map link_view ls) (link_view l)
    ∙ ap (λ (v : LinkView). more_links (links_view ls) v.minus v.operand) (link_view-is l)

pub ruleset views = (expr_view-Lit, expr_view-Decimal, expr_view-Var, expr_view-Index, expr_view-Call, expr_view-TableCall, expr_view-Assign, expr_view-Store, expr_view-Unary, expr_view-Binary, expr_view-Chain, expr_view-Cond, expr_view-Comma, stmt_view-Block, stmt_view-Plain, stmt_view-Empty, stmt_view-If_only, stmt_view-If_else, stmt_view-Return, stmt_view-While, stmt_view-DoWhile, stmt_view-For, stmt_view-Break, stmt_view-Continue, stmt_view-Labelled, stmt_view-Switch, link_view-is, clause_view-is, links_view-last)
