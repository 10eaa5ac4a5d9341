-- How deep the nodes of a module are nested. A node without parts has height 1, and any other one more than its highest part.
use Rattle.std.specs.Prelude.{ℕ, ◌+◌, ◌≤◌, ◌≡◌, List, [], ◌∷◌, Option, Some, None, max}
use Rattle.std.specs.List.{AllByRecursion}
use Rattle.asm_lang_tokens.specs.Text.{PlacedToken, HasForm}
use Rattle.asm_lang.specs.Lexemes.{lexemes_of}
use Rattle.asm_lang.specs.Trees.{ModuleTree}
use Rattle.asm_lang.specs.Grammar.{IsModule}
use Rattle.asm_lang.specs.Modules.{Expr, lit, decimal, var, index, call, table_call, assign, store, unary, binary, chain, cond, comma, Exprs, no_exprs, exprs, Links, no_links, links, Stmt, block, plain, empty, if_only, if_else, returns, while_loop, do_while, for_loop, breaks, continues, labelled, switches, Stmts, no_stmts, stmts, Clauses, no_clauses, clauses, Function, Exports, one, many, Module, module_of}

abbrev mutual
  pub expr_height : Expr → ℕ
  expr_height (lit v) = 1
  expr_height (decimal bs) = 1
  expr_height (var n) = 1
  expr_height (index n i) = 1 + expr_height i
  expr_height (call n es) = 1 + exprs_height es
  expr_height (table_call n i es) = 1 + max (expr_height i) (exprs_height es)
  expr_height (assign n e) = 1 + expr_height e
  expr_height (store n i e) = 1 + max (expr_height i) (expr_height e)
  expr_height (unary op e) = 1 + expr_height e
  expr_height (binary op l r) = 1 + max (expr_height l) (expr_height r)
  expr_height (chain e ls) = 1 + max (expr_height e) (links_height ls)
  expr_height (cond c a b) = 1 + max (expr_height c) (max (expr_height a) (expr_height b))
  expr_height (comma es) = 1 + exprs_height es

  -- the highest of them, or 0
  pub exprs_height : Exprs → ℕ
  exprs_height no_exprs = 0
  exprs_height (exprs e es) = max (expr_height e) (exprs_height es)

  pub links_height : Links → ℕ
  links_height no_links = 0
  links_height (links minus e ls) = max (expr_height e) (links_height ls)

abbrev pub option_height : Option Expr → ℕ
option_height None = 0
option_height (Some e) = expr_height e

-- The height of a statement, and what it adds to a loop or an `if` as its whole body: a block adds no height there, but an
-- empty one is a node without parts.
pub record Heights : Type 0 where
  pub height : ℕ
  pub as_body : ℕ

abbrev pub alone : ℕ → Heights
alone h = record { height = h; as_body = h }

abbrev pub block_heights : ℕ → Heights
block_heights inner = record { height = 1 + inner; as_body = max 1 inner }

abbrev mutual
  pub stmt_heights : Stmt → Heights
  stmt_heights (block ss) = block_heights (stmts_height ss)
  stmt_heights (plain e) = alone (1 + expr_height e)
  stmt_heights empty = alone 1
  stmt_heights (if_only c s) = alone (1 + max (expr_height c) (stmt_heights s).as_body)
  stmt_heights (if_else c s r) = alone (1 + max (expr_height c) (max (stmt_heights s).as_body (stmt_heights r).as_body))
  stmt_heights (returns o) = alone (1 + option_height o)
  stmt_heights (while_loop c s) = alone (1 + max (expr_height c) (stmt_heights s).as_body)
  stmt_heights (do_while s c) = alone (1 + max (stmt_heights s).as_body (expr_height c))
  stmt_heights (for_loop a b c s) = alone (1 + max (option_height a) (max (option_height b) (max (option_height c) (stmt_heights s).as_body)))
  stmt_heights (breaks l) = alone 1
  stmt_heights (continues l) = alone 1
  stmt_heights (labelled ls s) = alone (stmt_heights s).height
  stmt_heights (switches e cs) = alone (1 + max (expr_height e) (clauses_height cs))

  pub stmts_height : Stmts → ℕ
  stmts_height no_stmts = 0
  stmts_height (stmts s ss) = max (stmt_heights s).height (stmts_height ss)

  pub clauses_height : Clauses → ℕ
  clauses_height no_clauses = 0
  clauses_height (clauses v ss cs) = max (stmts_height ss) (clauses_height cs)

-- the height of nodes without parts, if there are any
abbrev pub leaves_height : {A : Type 0} → List A → ℕ
leaves_height [] = 0
leaves_height (x ∷ xs) = 1

abbrev pub function_height : Function → ℕ
function_height f = 1 + max (leaves_height f.params) (max (leaves_height f.locals) (stmts_height f.body))

abbrev pub functions_height : List Function → ℕ
functions_height [] = 0
functions_height (f ∷ fs) = max (function_height f) (functions_height fs)

abbrev pub exports_height : Exports → ℕ
exports_height (one f) = 1
exports_height (many es) = leaves_height es

abbrev pub module_height : Module → ℕ
module_height m = 1 + max (leaves_height m.globals) (max (functions_height m.functions) (max (leaves_height m.tables) (exports_height m.exports)))

-- the height that a module may have
abbrev pub height_limit : ℕ
height_limit = 1000

-- Some tokens are a spelling of the module, and it isn't too high.
pub record IsWellFormed (m : Module) : Type 0 where
  pub tokens : List PlacedToken
  pub tree : ModuleTree
  pub have_forms : AllByRecursion HasForm tokens
  pub is_module : IsModule tree (lexemes_of tokens)
  pub is_this : module_of tree ≡ m
  pub within : module_height m ≤ height_limit
