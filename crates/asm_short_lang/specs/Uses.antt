-- What statements use: the names that stand in them, each with what it is used for, in text order.
use Rattle.std.specs.Prelude.{ℕ, List, [], ◌∷◌, ◌++◌, Option, Some, None, map}
use Rattle.asm_lang.specs.Modules.{Expr, lit, decimal, var, index, call, table_call, assign, store, unary, binary, chain, cond, comma, Exprs, no_exprs, exprs, Links, no_links, links, Stmt, block, plain, empty, if_only, if_else, returns, while_loop, do_while, for_loop, breaks, continues, labelled, switches, Stmts, no_stmts, stmts, Clauses, no_clauses, clauses}

pub data Use : Type 0 where
  of_variable : List ℕ → Use  -- that is read or assigned
  of_view : List ℕ → Use
  of_callee : List ℕ → Use
  of_table : List ℕ → Use  -- of which a member is called

abbrev pub name_of : Use → List ℕ
name_of (of_variable n) = n
name_of (of_view n) = n
name_of (of_callee n) = n
name_of (of_table n) = n

abbrev mutual
  pub expr_uses : Expr → List Use
  expr_uses (lit z) = []
  expr_uses (decimal bs) = []
  expr_uses (var n) = of_variable n ∷ []
  expr_uses (index n i) = of_view n ∷ expr_uses i
  expr_uses (call n es) = of_callee n ∷ exprs_uses es
  expr_uses (table_call n i es) = of_table n ∷ expr_uses i ++ exprs_uses es
  expr_uses (assign n e) = of_variable n ∷ expr_uses e
  expr_uses (store n i e) = of_view n ∷ expr_uses i ++ expr_uses e
  expr_uses (unary op e) = expr_uses e
  expr_uses (binary op l r) = expr_uses l ++ expr_uses r
  expr_uses (chain e ls) = expr_uses e ++ links_uses ls
  expr_uses (cond e a b) = expr_uses e ++ (expr_uses a ++ expr_uses b)
  expr_uses (comma es) = exprs_uses es

  pub exprs_uses : Exprs → List Use
  exprs_uses no_exprs = []
  exprs_uses (exprs e es) = expr_uses e ++ exprs_uses es

  pub links_uses : Links → List Use
  links_uses no_links = []
  links_uses (links minus e ls) = expr_uses e ++ links_uses ls

abbrev pub option_uses : Option Expr → List Use
option_uses None = []
option_uses (Some e) = expr_uses e

abbrev mutual
  pub stmt_uses : Stmt → List Use
  stmt_uses (block ss) = stmts_uses ss
  stmt_uses (plain e) = expr_uses e
  stmt_uses empty = []
  stmt_uses (if_only e s) = expr_uses e ++ stmt_uses s
  stmt_uses (if_else e s r) = expr_uses e ++ (stmt_uses s ++ stmt_uses r)
  stmt_uses (returns o) = option_uses o
  stmt_uses (while_loop e s) = expr_uses e ++ stmt_uses s
  stmt_uses (do_while s e) = stmt_uses s ++ expr_uses e
  stmt_uses (for_loop x y z s) = option_uses x ++ (option_uses y ++ (option_uses z ++ stmt_uses s))
  stmt_uses (breaks l) = []
  stmt_uses (continues l) = []
  stmt_uses (labelled ls s) = stmt_uses s
  stmt_uses (switches e cs) = expr_uses e ++ clauses_uses cs

  pub stmts_uses : Stmts → List Use
  stmts_uses no_stmts = []
  stmts_uses (stmts s ss) = stmt_uses s ++ stmts_uses ss

  pub clauses_uses : Clauses → List Use
  clauses_uses no_clauses = []
  clauses_uses (clauses v ss cs) = stmts_uses ss ++ clauses_uses cs

abbrev pub names_used : Stmts → List (List ℕ)
names_used ss = map name_of (stmts_uses ss)
