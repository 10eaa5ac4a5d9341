-- Rows that nodes of a module meet. Nodes are numbered in text order, a whole before its parts; the module is node 0.
pub use Rattle.asm_lang_valid.specs.declared.rule.Met.{Met}
use Rattle.std.specs.Prelude.{ℕ, ◌+◌, Bool, true, false, List, [], ◌∷◌, length, Option, Some, None}
use Rattle.asm_lang.specs.Modules.{Expr, lit, decimal, var, index, call, table_call, assign, store, unary, binary, chain, cond, comma, Exprs, no_exprs, exprs, Links, no_links, links, Stmt, block, plain, empty, if_only, if_else, returns, while_loop, do_while, for_loop, breaks, continues, labelled, switches, Stmts, no_stmts, stmts, Clauses, no_clauses, clauses, Function, Exports, one, many, Module}
use Rattle.asm_lang_valid.specs.declared.rule.Rule.{Rule}

-- the row of a rule that has to hold at a node
abbrev pub need : Bool → Rule → ℕ → List Met
need true r at = []
need false r at = record { rule = r; node = at } ∷ []

abbrev pub first : List Met → Option Met
first [] = None
first (x ∷ xs) = Some x

-- ---- how many nodes there are

abbrev mutual
  pub expr_count : Expr → ℕ
  expr_count (lit v) = 1
  expr_count (decimal bs) = 1
  expr_count (var n) = 1
  expr_count (index n i) = 1 + expr_count i
  expr_count (call n es) = 1 + exprs_count es
  expr_count (table_call n i es) = 1 + (expr_count i + exprs_count es)
  expr_count (assign n e) = 1 + expr_count e
  expr_count (store n i e) = 1 + (expr_count i + expr_count e)
  expr_count (unary op e) = 1 + expr_count e
  expr_count (binary op l r) = 1 + (expr_count l + expr_count r)
  expr_count (chain e ls) = 1 + (expr_count e + links_count ls)
  expr_count (cond c a b) = 1 + (expr_count c + (expr_count a + expr_count b))
  expr_count (comma es) = 1 + exprs_count es

  pub exprs_count : Exprs → ℕ
  exprs_count no_exprs = 0
  exprs_count (exprs e es) = expr_count e + exprs_count es

  pub links_count : Links → ℕ
  links_count no_links = 0
  links_count (links minus e ls) = expr_count e + links_count ls

abbrev pub option_count : Option Expr → ℕ
option_count None = 0
option_count (Some e) = expr_count e

abbrev mutual
  pub stmt_count : Stmt → ℕ
  stmt_count (block ss) = 1 + stmts_count ss
  stmt_count (plain e) = 1 + expr_count e
  stmt_count empty = 1
  stmt_count (if_only c s) = 1 + (expr_count c + stmt_count s)
  stmt_count (if_else c s r) = 1 + (expr_count c + (stmt_count s + stmt_count r))
  stmt_count (returns o) = 1 + option_count o
  stmt_count (while_loop c s) = 1 + (expr_count c + stmt_count s)
  stmt_count (do_while s c) = 1 + (stmt_count s + expr_count c)
  stmt_count (for_loop a b c s) = 1 + (option_count a + (option_count b + (option_count c + stmt_count s)))
  stmt_count (breaks l) = 1
  stmt_count (continues l) = 1
  stmt_count (labelled ls s) = 1 + stmt_count s
  stmt_count (switches e cs) = 1 + (expr_count e + clauses_count cs)

  pub stmts_count : Stmts → ℕ
  stmts_count no_stmts = 0
  stmts_count (stmts s ss) = stmt_count s + stmts_count ss

  pub clauses_count : Clauses → ℕ
  clauses_count no_clauses = 0
  clauses_count (clauses v ss cs) = stmts_count ss + clauses_count cs

-- the number of the first node of a function's body, where the function is node `at`
abbrev pub body_at : Function → ℕ → ℕ
body_at f at = at + (1 + (length f.params + length f.locals))

abbrev pub function_count : Function → ℕ
function_count f = body_at f 0 + stmts_count f.body

abbrev pub functions_count : List Function → ℕ
functions_count [] = 0
functions_count (f ∷ fs) = function_count f + functions_count fs

-- the first node of the functions, of the tables, of the exports
abbrev pub functions_at : Module → ℕ
functions_at m = 1 + length m.globals

abbrev pub tables_at : Module → ℕ
tables_at m = functions_at m + functions_count m.functions

abbrev pub exports_at : Module → ℕ
exports_at m = tables_at m + length m.tables

abbrev pub exports_count : Exports → ℕ
exports_count (one f) = 1
exports_count (many es) = length es

-- how many nodes a module has
abbrev pub module_count : Module → ℕ
module_count m = exports_at m + exports_count m.exports
