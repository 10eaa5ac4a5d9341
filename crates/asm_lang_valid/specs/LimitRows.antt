-- The rows of this product's limits on counts, which come last.
use Rattle.std.specs.Prelude.{ℕ, suc, ◌+◌, Bool, true, false, ◌&&◌, ◌||◌, List, [], ◌∷◌, ◌++◌, length, Option, Some, None, bytes_eq, ◌==◌, nat_le, nat_lt, if◌then◌else◌, map}
use Rattle.asm_lang.specs.Trees.{Init, foreign_int, foreign_double, member}
use Rattle.asm_lang.specs.Modules.{Expr, lit, decimal, var, index, call, table_call, assign, store, unary, binary, chain, cond, comma, Exprs, no_exprs, exprs, Links, no_links, links, Stmt, block, plain, empty, if_only, if_else, returns, while_loop, do_while, for_loop, breaks, continues, labelled, switches, Stmts, no_stmts, stmts, Clauses, no_clauses, clauses, Variable, Function, Table, Module}
use Rattle.asm_lang_valid.specs.declared.rule.Rule.TheVariants.{PastLimit}
use Rattle.asm_lang_valid.specs.Scope.{is_foreign, Meaning, a_foreign}
use Rattle.asm_lang_valid.specs.Rows.{Met, need, expr_count, option_count, stmt_count, stmts_count, body_at, function_count, functions_at, tables_at}
use Rattle.asm_lang_valid.specs.Typing.{Scope, named, exprs_length, same, is_call, or_zero}

abbrev pub most_functions : ℕ
most_functions = 50000

-- of a function, and of a call of a foreign one
abbrev pub most_params : ℕ
most_params = 2000

-- with the parameters
abbrev pub most_locals : ℕ
most_locals = 50000

abbrev pub most_globals : ℕ
most_globals = 100000

abbrev pub most_foreign_calls : ℕ
most_foreign_calls = 25000

abbrev pub most_members : ℕ
most_members = 65536

-- of all tables together
abbrev pub most_entries : ℕ
most_entries = 1048576

abbrev pub most_clauses : ℕ
most_clauses = 1000

-- bytes of the name of a foreign member
abbrev pub longest_name : ℕ
longest_name = 100000

-- ---- calls of foreign functions, which count once for each name, number of arguments and result

pub record ForeignCall : Type 0 where
  pub name : List ℕ
  pub params : ℕ
  pub result : Bool

-- what a node is to the limits: a row that it meets, or a call of a foreign function
pub data Mark : Type 0 where
  a_row : Met → Mark
  a_use : ForeignCall → ℕ → Mark

abbrev pub rows_of : List Met → List Mark
rows_of ms = map a_row ms

abbrev pub callee_marks : Meaning → Bool → ℕ → ℕ → List Mark
callee_marks (a_foreign p) result count at = rows_of (need (nat_le count most_params) PastLimit at) ++ a_use (record { name = p; params = count; result = result }) at ∷ []
callee_marks _ result count at = []

abbrev mutual
  -- an expression, as node `at`
  pub expr_marks : Scope → ℕ → Expr → List Mark
  expr_marks c at (lit v) = []
  expr_marks c at (decimal bs) = []
  expr_marks c at (var n) = []
  expr_marks c at (index n i) = expr_marks c (at + 1) i
  expr_marks c at (call n es) = exprs_marks c (at + 1) es
  expr_marks c at (table_call n i es) = expr_marks c (at + 1) i ++ exprs_marks c (at + 1 + expr_count i) es
  expr_marks c at (assign n e) = expr_marks c (at + 1) e
  expr_marks c at (store n i e) = expr_marks c (at + 1) i ++ expr_marks c (at + 1 + expr_count i) e
  expr_marks c at (unary op e) = expr_marks c (at + 1) e
  expr_marks c at (binary op l r) = if is_call c l && or_zero op r then call_marks c true (at + 1) l else expr_marks c (at + 1) l ++ expr_marks c (at + 1 + expr_count l) r
  expr_marks c at (chain e ls) = expr_marks c (at + 1) e ++ links_marks c (at + 1 + expr_count e) ls
  expr_marks c at (cond e a b) = expr_marks c (at + 1) e ++ (expr_marks c (at + 1 + expr_count e) a ++ expr_marks c (at + 1 + expr_count e + expr_count a) b)
  expr_marks c at (comma es) = comma_marks c (at + 1) es

  pub exprs_marks : Scope → ℕ → Exprs → List Mark
  exprs_marks c at no_exprs = []
  exprs_marks c at (exprs e es) = expr_marks c at e ++ exprs_marks c (at + expr_count e) es

  pub links_marks : Scope → ℕ → Links → List Mark
  links_marks c at no_links = []
  links_marks c at (links minus e ls) = expr_marks c at e ++ links_marks c (at + expr_count e) ls

  pub comma_marks : Scope → ℕ → Exprs → List Mark
  comma_marks c at no_exprs = []
  comma_marks c at (exprs e no_exprs) = expr_marks c at e
  comma_marks c at (exprs e (exprs x es)) = (if is_call c e then call_marks c false at e else expr_marks c at e) ++ comma_marks c (at + expr_count e) (exprs x es)

  -- a call with a result or without
  pub call_marks : Scope → Bool → ℕ → Expr → List Mark
  call_marks c result at (call n es) = exprs_marks c (at + 1) es ++ callee_marks (named c n) result (exprs_length es) at
  call_marks c result at (table_call n i es) = expr_marks c (at + 1) i ++ exprs_marks c (at + 1 + expr_count i) es
  call_marks c result at _ = []

abbrev pub effect_marks : Scope → ℕ → Expr → List Mark
effect_marks c at e = if is_call c e then call_marks c false at e else expr_marks c at e

abbrev pub part_marks : Scope → ℕ → Option Expr → List Mark
part_marks c at None = []
part_marks c at (Some e) = effect_marks c at e

abbrev pub option_marks : Scope → ℕ → Option Expr → List Mark
option_marks c at None = []
option_marks c at (Some e) = expr_marks c at e

-- ---- statements

abbrev pub clauses_length : Clauses → ℕ
clauses_length no_clauses = 0
clauses_length (clauses None ss cs) = clauses_length cs
clauses_length (clauses (Some v) ss cs) = suc (clauses_length cs)

abbrev mutual
  pub stmt_marks : Scope → ℕ → Stmt → List Mark
  stmt_marks c at (block ss) = stmts_marks c (at + 1) ss
  stmt_marks c at (plain e) = effect_marks c (at + 1) e
  stmt_marks c at empty = []
  stmt_marks c at (if_only e s) = expr_marks c (at + 1) e ++ stmt_marks c (at + 1 + expr_count e) s
  stmt_marks c at (if_else e s r) = expr_marks c (at + 1) e ++ (stmt_marks c (at + 1 + expr_count e) s ++ stmt_marks c (at + 1 + expr_count e + stmt_count s) r)
  stmt_marks c at (returns o) = option_marks c (at + 1) o
  stmt_marks c at (while_loop e s) = expr_marks c (at + 1) e ++ stmt_marks c (at + 1 + expr_count e) s
  stmt_marks c at (do_while s e) = stmt_marks c (at + 1) s ++ expr_marks c (at + 1 + stmt_count s) e
  stmt_marks c at (for_loop x y z s) =
      part_marks c (at + 1) x
      ++ (option_marks c (at + 1 + option_count x) y
      ++ (part_marks c (at + 1 + option_count x + option_count y) z ++ stmt_marks c (at + 1 + option_count x + option_count y + option_count z) s))
  stmt_marks c at (breaks l) = []
  stmt_marks c at (continues l) = []
  stmt_marks c at (labelled ls s) = stmt_marks c (at + 1) s
  stmt_marks c at (switches e cs) =
      expr_marks c (at + 1) e ++ (rows_of (need (nat_le (clauses_length cs) most_clauses) PastLimit at) ++ clauses_marks c (at + 1 + expr_count e) cs)

  pub stmts_marks : Scope → ℕ → Stmts → List Mark
  stmts_marks c at no_stmts = []
  stmts_marks c at (stmts s ss) = stmt_marks c at s ++ stmts_marks c (at + stmt_count s) ss

  pub clauses_marks : Scope → ℕ → Clauses → List Mark
  clauses_marks c at no_clauses = []
  clauses_marks c at (clauses v ss cs) = stmts_marks c at ss ++ clauses_marks c (at + stmts_count ss) cs

-- ---- declarations; the first numbers say how many stand before

abbrev pub counted : ℕ → ℕ → ℕ → List Mark
counted before limit at = rows_of (need (nat_lt before limit) PastLimit at)

abbrev pub member_length : Module → Init → ℕ
member_length m (foreign_int f p) = length p
member_length m (foreign_double f p) = length p
member_length m (member f p) = if is_foreign m f then length p else 0
member_length m _ = 0

abbrev pub globals_marks : Module → ℕ → ℕ → List Variable → List Mark
globals_marks m before at [] = []
globals_marks m before at (v ∷ vs) = counted before most_globals at ++ (rows_of (need (nat_le (member_length m v.init) longest_name) PastLimit at) ++ globals_marks m (before + 1) (at + 1) vs)

-- the nodes of parameters or locals
abbrev pub names_marks : {A : Type 0} → ℕ → ℕ → ℕ → List A → List Mark
names_marks before limit at [] = []
names_marks before limit at (x ∷ xs) = counted before limit at ++ names_marks (before + 1) limit (at + 1) xs

abbrev pub function_marks : Module → ℕ → ℕ → Function → List Mark
function_marks m before at f =
    counted before most_functions at
    ++ (names_marks 0 most_params (at + 1) f.params
    ++ (names_marks (length f.params) most_locals (at + 1 + length f.params) f.locals ++ stmts_marks (record { home = m; within = f }) (body_at f at) f.body))

abbrev pub functions_marks : Module → ℕ → ℕ → List Function → List Mark
functions_marks m before at [] = []
functions_marks m before at (f ∷ fs) = function_marks m before at f ++ functions_marks m (before + 1) (at + function_count f) fs

-- `before` counts members here
abbrev pub tables_marks : ℕ → ℕ → List Table → List Mark
tables_marks before at [] = []
tables_marks before at (t ∷ ts) =
    rows_of (need (nat_le (length t.members) most_members && nat_le (before + length t.members) most_entries) PastLimit at) ++ tables_marks (before + length t.members) (at + 1) ts

abbrev pub marks : Module → List Mark
marks m = globals_marks m 0 1 m.globals ++ (functions_marks m 0 (functions_at m) m.functions ++ tables_marks 0 (tables_at m) m.tables)

-- ---- the distinct calls of foreign functions

abbrev pub is_same : ForeignCall → ForeignCall → Bool
is_same a b = bytes_eq a.name b.name && ((a.params == b.params) && same a.result b.result)

abbrev pub is_among : ForeignCall → List ForeignCall → Bool
is_among f [] = false
is_among f (g ∷ gs) = is_same f g || is_among f gs

-- each once, in order of first use, after these
abbrev pub distinct_after : List ForeignCall → List Mark → List ForeignCall
distinct_after seen [] = seen
distinct_after seen (a_row x ∷ ms) = distinct_after seen ms
distinct_after seen (a_use f at ∷ ms) = if is_among f seen then distinct_after seen ms else distinct_after (seen ++ f ∷ []) ms

abbrev pub rows_after : List ForeignCall → List Mark → List Met
rows_after seen [] = []
rows_after seen (a_row x ∷ ms) = x ∷ rows_after seen ms
rows_after seen (a_use f at ∷ ms) =
    if is_among f seen then rows_after seen ms else need (nat_lt (length seen) most_foreign_calls) PastLimit at ++ rows_after (seen ++ f ∷ []) ms

abbrev pub limit_rows : Module → List Met
limit_rows m = rows_after [] (marks m)

abbrev pub foreign_calls : Module → List ForeignCall
foreign_calls m = distinct_after [] (marks m)
