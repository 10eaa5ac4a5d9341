-- The names of a short form: declarations of the module, variables of a function and its labels get the first names of the
-- sequence, each kind for itself. All else is copied: the module's own name, members of the outside, keys of exports.
use Rattle.std.specs.Prelude.{ℕ, ◌+◌, List, [], ◌∷◌, ◌++◌, length, take, drop, Option, Some, None, map, filter_map, unwrap_or, option_map, bytes_eq, if◌then◌else◌}
use Rattle.asm_lang.specs.Trees.{Init, number, decimal, foreign_int, foreign_double, member, math, view}
use Rattle.asm_lang.specs.Modules.{Expr, lit, decimal as decimal_expr, var, index, call, table_call, assign, store, unary, binary, chain, cond, comma, Exprs, no_exprs, exprs, Links, no_links, links, Stmt, block, plain, empty, if_only, if_else, returns, while_loop, do_while, for_loop, breaks, continues, labelled, switches, Stmts, no_stmts, stmts, Clauses, no_clauses, clauses, Variable, Param, Function, Table, Export, Exports, one, many, Module}
use Rattle.asm_lang_valid.specs.Scope.{is_in, is_name}
use Rattle.asm_short_lang.specs.Sequence.{first_names}
use Rattle.asm_short_lang.specs.Uses.{names_used}

-- ---- from old names to new ones

-- the new name at the place where a name first stands among the old ones
abbrev pub in_place : (olds news : List (List ℕ)) → List ℕ → Option (List ℕ)
in_place [] news n = None
in_place (o ∷ os) [] n = None
in_place (o ∷ os) (w ∷ ws) n = if bytes_eq o n then Some w else in_place os ws n

-- a name that isn't among the old ones stays
abbrev pub replaced : (olds news : List (List ℕ)) → List ℕ → List ℕ
replaced olds news n = unwrap_or (in_place olds news n) n

-- ---- declarations of the module: parameters, globals, functions and tables, in this order

abbrev pub declared_names : Module → List (List ℕ)
declared_names m = m.params ++ (map (λ (v : Variable). v.name) m.globals ++ (map (λ (f : Function). f.name) m.functions ++ map (λ (t : Table). t.name) m.tables))

-- a single export is called by its function's name, which stays
abbrev pub kept_name : Exports → Option (List ℕ)
kept_name (one f) = Some f
kept_name (many es) = None

abbrev pub excluded_name : Option (List ℕ) → List (List ℕ)
excluded_name None = []
excluded_name (Some n) = n ∷ []

-- each declaration gets the next name, but the one whose name is kept
abbrev pub given_names : (kept : Option (List ℕ)) → (olds fresh : List (List ℕ)) → List (List ℕ)
given_names kept [] fresh = []
given_names kept (o ∷ os) [] = []
given_names kept (o ∷ os) (w ∷ ws) = if is_name o kept then o ∷ given_names kept os (w ∷ ws) else w ∷ given_names kept os ws

abbrev pub new_declared : Module → List (List ℕ)
new_declared m = given_names (kept_name m.exports) (declared_names m) (first_names (excluded_name (kept_name m.exports)) (length (declared_names m)))

-- what a name that stands outside functions becomes
abbrev pub declared_name : Module → List ℕ → List ℕ
declared_name m n = replaced (declared_names m) (new_declared m) n

-- ---- variables of a function: parameters, then locals

abbrev pub local_names : Function → List (List ℕ)
local_names f = map (λ (p : Param). p.name) f.params ++ map (λ (v : Variable). v.name) f.locals

-- the new name of the declaration for which a name stands, if it stands for one: a local variable hides it
abbrev pub used_name : Module → Function → List ℕ → Option (List ℕ)
used_name m f n = if is_in n (local_names f) then None else in_place (declared_names m) (new_declared m) n

-- the new names of the declarations that the statements use, which no variable gets
abbrev pub used_names : Module → Function → List (List ℕ)
used_names m f = filter_map (used_name m f) (names_used f.body)

abbrev pub new_locals : Module → Function → List (List ℕ)
new_locals m f = first_names (used_names m f) (length (local_names f))

-- what a name that stands in a function becomes
abbrev pub name_in : Module → Function → List ℕ → List ℕ
name_in m f n = unwrap_or (in_place (local_names f) (new_locals m f) n) (declared_name m n)

-- ---- expressions, where each name becomes what `look` gives

module _ (look : List ℕ → List ℕ) where
  abbrev mutual
    pub expr_with : Expr → Expr
    expr_with (lit z) = lit z
    expr_with (decimal_expr bs) = decimal_expr bs
    expr_with (var n) = var (look n)
    expr_with (index n i) = index (look n) (expr_with i)
    expr_with (call n es) = call (look n) (exprs_with es)
    expr_with (table_call n i es) = table_call (look n) (expr_with i) (exprs_with es)
    expr_with (assign n e) = assign (look n) (expr_with e)
    expr_with (store n i e) = store (look n) (expr_with i) (expr_with e)
    expr_with (unary op e) = unary op (expr_with e)
    expr_with (binary op l r) = binary op (expr_with l) (expr_with r)
    expr_with (chain e ls) = chain (expr_with e) (links_with ls)
    expr_with (cond e a b) = cond (expr_with e) (expr_with a) (expr_with b)
    expr_with (comma es) = comma (exprs_with es)

    pub exprs_with : Exprs → Exprs
    exprs_with no_exprs = no_exprs
    exprs_with (exprs e es) = exprs (expr_with e) (exprs_with es)

    pub links_with : Links → Links
    links_with no_links = no_links
    links_with (links minus e ls) = links minus (expr_with e) (links_with ls)

  abbrev pub option_with : Option Expr → Option Expr
  option_with None = None
  option_with (Some e) = Some (expr_with e)

-- ---- labels: each one, and each of a list by itself, gets the name of its number in text order

abbrev mutual
  pub labels_in : Stmt → ℕ
  labels_in (block ss) = labels_in_all ss
  labels_in (plain e) = 0
  labels_in empty = 0
  labels_in (if_only e s) = labels_in s
  labels_in (if_else e s r) = labels_in s + labels_in r
  labels_in (returns o) = 0
  labels_in (while_loop e s) = labels_in s
  labels_in (do_while s e) = labels_in s
  labels_in (for_loop x y z s) = labels_in s
  labels_in (breaks l) = 0
  labels_in (continues l) = 0
  labels_in (labelled ls s) = length ls + labels_in s
  labels_in (switches e cs) = labels_in_clauses cs

  pub labels_in_all : Stmts → ℕ
  labels_in_all no_stmts = 0
  labels_in_all (stmts s ss) = labels_in s + labels_in_all ss

  pub labels_in_clauses : Clauses → ℕ
  labels_in_clauses no_clauses = 0
  labels_in_clauses (clauses v ss cs) = labels_in_all ss + labels_in_clauses cs

-- the labels of the statements that stand round one, the innermost first
pub record Labels : Type 0 where
  pub olds : List (List ℕ)
  pub news : List (List ℕ)

abbrev pub no_labels : Labels
no_labels = record { olds = []; news = [] }

abbrev pub inside : (olds news : List (List ℕ)) → Labels → Labels
inside olds news around = record { olds = olds ++ around.olds; news = news ++ around.news }

abbrev pub label_with : Labels → Option (List ℕ) → Option (List ℕ)
label_with around l = option_map (λ n. replaced around.olds around.news n) l

-- ---- statements; `fresh` are the new labels of the function in order, and `before` says how many labels stand before a part

module _ (look : List ℕ → List ℕ) (fresh : List (List ℕ)) where
  -- the names of so many labels from a number on
  abbrev pub new_labels : (before count : ℕ) → List (List ℕ)
  new_labels before count = take count (drop before fresh)

  abbrev mutual
    pub stmt_with : Labels → (before : ℕ) → Stmt → Stmt
    stmt_with around before (block ss) = block (stmts_with around before ss)
    stmt_with around before (plain e) = plain (expr_with look e)
    stmt_with around before empty = empty
    stmt_with around before (if_only e s) = if_only (expr_with look e) (stmt_with around before s)
    stmt_with around before (if_else e s r) = if_else (expr_with look e) (stmt_with around before s) (stmt_with around (before + labels_in s) r)
    stmt_with around before (returns o) = returns (option_with look o)
    stmt_with around before (while_loop e s) = while_loop (expr_with look e) (stmt_with around before s)
    stmt_with around before (do_while s e) = do_while (stmt_with around before s) (expr_with look e)
    stmt_with around before (for_loop x y z s) = for_loop (option_with look x) (option_with look y) (option_with look z) (stmt_with around before s)
    stmt_with around before (breaks l) = breaks (label_with around l)
    stmt_with around before (continues l) = continues (label_with around l)
    stmt_with around before (labelled ls s) =
        labelled (new_labels before (length ls)) (stmt_with (inside ls (new_labels before (length ls)) around) (before + length ls) s)
    stmt_with around before (switches e cs) = switches (expr_with look e) (clauses_with around before cs)

    pub stmts_with : Labels → (before : ℕ) → Stmts → Stmts
    stmts_with around before no_stmts = no_stmts
    stmts_with around before (stmts s ss) = stmts (stmt_with around before s) (stmts_with around (before + labels_in s) ss)

    pub clauses_with : Labels → (before : ℕ) → Clauses → Clauses
    clauses_with around before no_clauses = no_clauses
    clauses_with around before (clauses v ss cs) = clauses v (stmts_with around before ss) (clauses_with around (before + labels_in_all ss) cs)

-- ---- functions

-- what a variable of a function becomes; the numbers with which locals begin stay
abbrev pub renamed_param : Module → Function → Param → Param
renamed_param m f p = record { name = name_in m f p.name; double = p.double }

abbrev pub renamed_local : Module → Function → Variable → Variable
renamed_local m f v = record { name = name_in m f v.name; init = v.init }

abbrev pub body_with : (look : List ℕ → List ℕ) → Stmts → Stmts
body_with look ss = stmts_with look (first_names [] (labels_in_all ss)) no_labels 0 ss

abbrev pub renamed_function : Module → Function → Function
renamed_function m f = record {
  name = declared_name m f.name;
  params = map (renamed_param m f) f.params;
  locals = map (renamed_local m f) f.locals;
  body = body_with (name_in m f) f.body;
}

-- ---- the module

-- the parameters of the module that a declaration names; members of the outside keep their names
abbrev pub init_with : (look : List ℕ → List ℕ) → Init → Init
init_with look (number v) = number v
init_with look (decimal bs) = decimal bs
init_with look (foreign_int f p) = foreign_int (look f) p
init_with look (foreign_double f p) = foreign_double (look f) p
init_with look (member f p) = member (look f) p
init_with look (math f p) = math (look f) p
init_with look (view f p h) = view (look f) p (look h)

abbrev pub renamed_global : Module → Variable → Variable
renamed_global m v = record { name = declared_name m v.name; init = init_with (declared_name m) v.init }

abbrev pub renamed_table : Module → Table → Table
renamed_table m t = record { name = declared_name m t.name; members = map (declared_name m) t.members }

abbrev pub renamed_exports : Module → Exports → Exports
renamed_exports m (one f) = one (declared_name m f)
renamed_exports m (many es) = many (map (λ (e : Export). record e { function = declared_name m e.function }) es)

abbrev pub renamed : Module → Module
renamed m = record {
  name = m.name;
  params = map (declared_name m) m.params;
  globals = map (renamed_global m) m.globals;
  functions = map (renamed_function m) m.functions;
  tables = map (renamed_table m) m.tables;
  exports = renamed_exports m m.exports;
}
