-- The rows of names, which come first: what is declared twice or forbidden, and what is used without a fitting declaration.
use Rattle.std.specs.Prelude.{ℕ, ◌+◌, Bool, true, false, not, ◌&&◌, ◌||◌, List, [], ◌∷◌, ◌++◌, length, Option, Some, None, map, codes, bytes_eq, if◌then◌else◌}
use Rattle.asm_lang.specs.Trees.{Init, foreign_int, foreign_double, member, math, view}
use Rattle.asm_lang.specs.Modules.{Expr, lit, decimal as decimal_expr, var, index, call, table_call, assign, store, unary, binary, chain, cond, comma, Exprs, no_exprs, exprs, Links, no_links, links, Stmt, block, plain, empty, if_only, if_else, returns, while_loop, do_while, for_loop, breaks, continues, labelled, switches, Stmts, no_stmts, stmts, Clauses, no_clauses, clauses, Variable, Param, Function, Table, Export, Exports, one, many, Module}
use Rattle.asm_lang_valid.specs.declared.rule.Rule.TheVariants.{NameTaken, ForbiddenName, UnknownName, WrongKind}
use Rattle.asm_lang_valid.specs.Scope.{is_stdlib, is_foreign, is_heap, is_in, Meaning, nothing, an_int, an_outside, a_foreign, a_builtin, a_view, a_function, a_table, module_meaning}
use Rattle.asm_lang_valid.specs.Rows.{Met, need, expr_count, option_count, stmt_count, stmts_count, body_at, function_count, functions_at, tables_at, exports_at}
use Rattle.asm_lang_valid.specs.Typing.{Scope, named}

-- a name that may not be declared
abbrev pub is_forbidden : List ℕ → Bool
is_forbidden n = bytes_eq (codes "arguments") n || bytes_eq (codes "eval") n

-- a member of the foreign object or a key of an export that may not be one
abbrev pub is_forbidden_key : List ℕ → Bool
is_forbidden_key n = bytes_eq (codes "__proto__") n

-- the rows of a name that is declared at a node after these
abbrev pub declares : List (List ℕ) → List ℕ → ℕ → List Met
declares before n at = need (not (is_in n before)) NameTaken at ++ need (not (is_forbidden n)) ForbiddenName at

abbrev pub is_declared : Meaning → Bool
is_declared nothing = false
is_declared _ = true

-- the row of a name that is used at a node, where its meaning is such as it has to be or isn't
abbrev pub uses : Meaning → Bool → ℕ → List Met
uses m fits at = if is_declared m then need fits WrongKind at else need false UnknownName at

-- ---- expressions; what is accepted only unused is no matter of names

abbrev pub as_variable : Meaning → Bool
as_variable an_int = true
as_variable an_outside = true
as_variable _ = false

abbrev pub as_view : Meaning → Bool
as_view (a_view v) = true
as_view an_outside = true
as_view _ = false

abbrev pub as_callee : Meaning → Bool
as_callee (a_function f) = true
as_callee (a_foreign p) = true
as_callee (a_builtin b) = true
as_callee an_outside = true
as_callee _ = false

abbrev pub as_table : Meaning → Bool
as_table (a_table t) = true
as_table an_outside = true
as_table _ = false

abbrev mutual
  -- the expression is node `at`
  pub expr_names : Scope → ℕ → Expr → List Met
  expr_names c at (lit v) = []
  expr_names c at (decimal_expr bs) = []
  expr_names c at (var n) = uses (named c n) (as_variable (named c n)) at
  expr_names c at (index n i) = expr_names c (at + 1) i ++ uses (named c n) (as_view (named c n)) at
  expr_names c at (call n es) = exprs_names c (at + 1) es ++ uses (named c n) (as_callee (named c n)) at
  expr_names c at (table_call n i es) = expr_names c (at + 1) i ++ (exprs_names c (at + 1 + expr_count i) es ++ uses (named c n) (as_table (named c n)) at)
  expr_names c at (assign n e) = expr_names c (at + 1) e ++ uses (named c n) (as_variable (named c n)) at
  expr_names c at (store n i e) = expr_names c (at + 1) i ++ (expr_names c (at + 1 + expr_count i) e ++ uses (named c n) (as_view (named c n)) at)
  expr_names c at (unary op e) = expr_names c (at + 1) e
  expr_names c at (binary op l r) = expr_names c (at + 1) l ++ expr_names c (at + 1 + expr_count l) r
  expr_names c at (chain e ls) = expr_names c (at + 1) e ++ links_names c (at + 1 + expr_count e) ls
  expr_names c at (cond e a b) = expr_names c (at + 1) e ++ (expr_names c (at + 1 + expr_count e) a ++ expr_names c (at + 1 + expr_count e + expr_count a) b)
  expr_names c at (comma es) = exprs_names c (at + 1) es

  -- the first of them is node `at`, and likewise below
  pub exprs_names : Scope → ℕ → Exprs → List Met
  exprs_names c at no_exprs = []
  exprs_names c at (exprs e es) = expr_names c at e ++ exprs_names c (at + expr_count e) es

  pub links_names : Scope → ℕ → Links → List Met
  links_names c at no_links = []
  links_names c at (links minus e ls) = expr_names c at e ++ links_names c (at + expr_count e) ls

abbrev pub option_names : Scope → ℕ → Option Expr → List Met
option_names c at None = []
option_names c at (Some e) = expr_names c at e

-- ---- statements

abbrev mutual
  pub stmt_names : Scope → ℕ → Stmt → List Met
  stmt_names c at (block ss) = stmts_names c (at + 1) ss
  stmt_names c at (plain e) = expr_names c (at + 1) e
  stmt_names c at empty = []
  stmt_names c at (if_only e s) = expr_names c (at + 1) e ++ stmt_names c (at + 1 + expr_count e) s
  stmt_names c at (if_else e s r) = expr_names c (at + 1) e ++ (stmt_names c (at + 1 + expr_count e) s ++ stmt_names c (at + 1 + expr_count e + stmt_count s) r)
  stmt_names c at (returns o) = option_names c (at + 1) o
  stmt_names c at (while_loop e s) = expr_names c (at + 1) e ++ stmt_names c (at + 1 + expr_count e) s
  stmt_names c at (do_while s e) = stmt_names c (at + 1) s ++ expr_names c (at + 1 + stmt_count s) e
  stmt_names c at (for_loop x y z s) =
      option_names c (at + 1) x ++ (option_names c (at + 1 + option_count x) y ++ (option_names c (at + 1 + option_count x + option_count y) z ++ stmt_names c (at + 1 + option_count x + option_count y + option_count z) s))
  stmt_names c at (breaks l) = []
  stmt_names c at (continues l) = []
  stmt_names c at (labelled ls s) = stmt_names c (at + 1) s
  stmt_names c at (switches e cs) = expr_names c (at + 1) e ++ clauses_names c (at + 1 + expr_count e) cs

  pub stmts_names : Scope → ℕ → Stmts → List Met
  stmts_names c at no_stmts = []
  stmts_names c at (stmts s ss) = stmt_names c at s ++ stmts_names c (at + stmt_count s) ss

  pub clauses_names : Scope → ℕ → Clauses → List Met
  clauses_names c at no_clauses = []
  clauses_names c at (clauses v ss cs) = stmts_names c at ss ++ clauses_names c (at + stmts_count ss) cs

-- ---- global variables

-- the members of the foreign object that are imported as values, and as functions
pub record Imports : Type 0 where
  pub values : List (List ℕ)
  pub functions : List (List ℕ)

-- each name once, in order
abbrev pub added : List (List ℕ) → List ℕ → List (List ℕ)
added ns n = if is_in n ns then ns else ns ++ n ∷ []

-- with those of one more declaration
abbrev pub with_import : Module → Init → Imports → Imports
with_import m (foreign_int f p) is = if is_foreign m f then record { values = added is.values p; functions = is.functions } else is
with_import m (foreign_double f p) is = if is_foreign m f then record { values = added is.values p; functions = is.functions } else is
with_import m (member f p) is = if is_foreign m f then record { values = is.values; functions = added is.functions p } else is
with_import m _ is = is

abbrev pub clashes : Module → Imports → Init → Bool
clashes m is (foreign_int f p) = is_foreign m f && is_in p is.functions
clashes m is (foreign_double f p) = is_foreign m f && is_in p is.functions
clashes m is (member f p) = is_foreign m f && is_in p is.values
clashes m is _ = false

abbrev pub has_forbidden_member : Module → Init → Bool
has_forbidden_member m (foreign_int f p) = is_foreign m f && is_forbidden_key p
has_forbidden_member m (foreign_double f p) = is_foreign m f && is_forbidden_key p
has_forbidden_member m (member f p) = is_foreign m f && is_forbidden_key p
has_forbidden_member m _ = false

-- whether the names that a declaration uses are declared, and the parameters that they have to be
abbrev pub knows : Module → List ℕ → Bool
knows m n = is_declared (module_meaning m n)

abbrev pub knows_all : Module → Init → Bool
knows_all m (foreign_int f p) = knows m f
knows_all m (foreign_double f p) = knows m f
knows_all m (member f p) = knows m f
knows_all m (math f p) = knows m f
knows_all m (view f p h) = knows m f && knows m h
knows_all m _ = true

abbrev pub right_parameters : Module → Init → Bool
right_parameters m (foreign_int f p) = is_foreign m f
right_parameters m (foreign_double f p) = is_foreign m f
right_parameters m (member f p) = is_stdlib m f || is_foreign m f
right_parameters m (math f p) = is_stdlib m f
right_parameters m (view f p h) = is_stdlib m f && is_heap m h
right_parameters m _ = true

abbrev pub init_rows : Module → Init → ℕ → List Met
init_rows m i at = if knows_all m i then need (right_parameters m i) WrongKind at else need false UnknownName at

abbrev pub global_names : Module → List (List ℕ) → Imports → Variable → ℕ → List Met
global_names m before is v at =
    need (not (is_in v.name before || clashes m is v.init)) NameTaken at
    ++ (need (not (is_forbidden v.name || has_forbidden_member m v.init)) ForbiddenName at ++ init_rows m v.init at)

abbrev pub globals_names : Module → List (List ℕ) → Imports → List Variable → ℕ → List Met
globals_names m before is [] at = []
globals_names m before is (v ∷ vs) at = global_names m before is v at ++ globals_names m (before ++ v.name ∷ []) (with_import m v.init is) vs (at + 1)

-- ---- functions

abbrev pub params_names : List (List ℕ) → List Param → ℕ → List Met
params_names before [] at = []
params_names before (p ∷ ps) at = declares before p.name at ++ params_names (before ++ p.name ∷ []) ps (at + 1)

abbrev pub locals_names : List (List ℕ) → List Variable → ℕ → List Met
locals_names before [] at = []
locals_names before (v ∷ vs) at = declares before v.name at ++ locals_names (before ++ v.name ∷ []) vs (at + 1)

abbrev pub param_texts : List Param → List (List ℕ)
param_texts ps = map (λ (p : Param). p.name) ps

abbrev pub function_names : Module → List (List ℕ) → Function → ℕ → List Met
function_names m before f at =
    declares before f.name at
    ++ (params_names [] f.params (at + 1) ++ (locals_names (param_texts f.params) f.locals (at + 1 + length f.params) ++ stmts_names (record { home = m; within = f }) (body_at f at) f.body))

abbrev pub functions_names : Module → List (List ℕ) → List Function → ℕ → List Met
functions_names m before [] at = []
functions_names m before (f ∷ fs) at = function_names m before f at ++ functions_names m (before ++ f.name ∷ []) fs (at + function_count f)

-- ---- tables and exports

abbrev pub is_function : Meaning → Bool
is_function (a_function f) = true
is_function _ = false

abbrev pub all_known : Module → List (List ℕ) → Bool
all_known m [] = true
all_known m (n ∷ ns) = knows m n && all_known m ns

abbrev pub all_functions : Module → List (List ℕ) → Bool
all_functions m [] = true
all_functions m (n ∷ ns) = is_function (module_meaning m n) && all_functions m ns

abbrev pub function_uses : Module → List (List ℕ) → ℕ → List Met
function_uses m ns at = if all_known m ns then need (all_functions m ns) WrongKind at else need false UnknownName at

abbrev pub tables_names : Module → List (List ℕ) → List Table → ℕ → List Met
tables_names m before [] at = []
tables_names m before (t ∷ ts) at = declares before t.name at ++ (function_uses m t.members at ++ tables_names m (before ++ t.name ∷ []) ts (at + 1))

-- the rows of a key of an export
abbrev pub declares_key : List (List ℕ) → List ℕ → ℕ → List Met
declares_key before k at = need (not (is_in k before)) NameTaken at ++ need (not (is_forbidden_key k)) ForbiddenName at

abbrev pub keys_names : Module → List (List ℕ) → List Export → ℕ → List Met
keys_names m before [] at = []
keys_names m before (e ∷ es) at = declares_key before e.key at ++ (function_uses m (e.function ∷ []) at ++ keys_names m (before ++ e.key ∷ []) es (at + 1))

abbrev pub exports_names : Module → Exports → ℕ → List Met
exports_names m (one f) at = function_uses m (f ∷ []) at
exports_names m (many es) at = keys_names m [] es at

-- ---- modules

-- none of these names stands among those before it
abbrev pub all_new : List (List ℕ) → List (List ℕ) → Bool
all_new before [] = true
all_new before (n ∷ ns) = not (is_in n before) && all_new (before ++ n ∷ []) ns

abbrev pub own_name : Option (List ℕ) → List (List ℕ)
own_name None = []
own_name (Some n) = n ∷ []

abbrev pub any_forbidden : List (List ℕ) → Bool
any_forbidden [] = false
any_forbidden (n ∷ ns) = is_forbidden n || any_forbidden ns

abbrev pub global_texts : Module → List (List ℕ)
global_texts m = map (λ (v : Variable). v.name) m.globals

abbrev pub function_texts : Module → List (List ℕ)
function_texts m = map (λ (f : Function). f.name) m.functions

-- the module's own name isn't compared with others
abbrev pub name_rows : Module → List Met
name_rows m =
    need (all_new [] m.params) NameTaken 0
    ++ (need (not (any_forbidden (own_name m.name ++ m.params))) ForbiddenName 0
    ++ (globals_names m m.params (record { values = []; functions = [] }) m.globals 1
    ++ (functions_names m (m.params ++ global_texts m) m.functions (functions_at m)
    ++ (tables_names m (m.params ++ (global_texts m ++ function_texts m)) m.tables (tables_at m)
    ++ exports_names m m.exports (exports_at m)))))
