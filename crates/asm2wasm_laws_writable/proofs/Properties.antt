-- The name of each call of a foreign function is a property, where each name that means one is.
use Rattle.std.proofs.Common.{ℕ, ◌+◌, Bool, true, false, List, [], ◌∷◌, ◌++◌, length, Option, Some, None}
use Rattle.std.specs.Prelude.{nat_le, nat_lt, bytes_eq, codes, ◌&&◌, if◌then◌else◌}
use Rattle.std.specs.List.{AllByRecursion}
use Rattle.asm_lang.specs.Trees.{Init, number, decimal, foreign_int, foreign_double, member, math, view}
use Rattle.asm_lang.specs.Modules.{Expr, lit, decimal as a_decimal, var, index, call, table_call, assign, store, unary, binary, chain, cond, comma, Exprs, no_exprs, exprs, Links, no_links, links, Stmt, block, plain, empty, if_only, if_else, returns, while_loop, do_while, for_loop, breaks, continues, labelled, switches, Stmts, no_stmts, stmts, Clauses, no_clauses, clauses, Variable, Function, Table, Module}
use Rattle.asm_lang_valid.specs.declared.meaning.Element.{Element}
use Rattle.asm_lang_valid.specs.declared.meaning.Builtin.TheVariants.{Imul, Clz32}
use Rattle.asm_lang_valid.specs.declared.rule.Rule.TheVariants.{PastLimit}
use Rattle.asm_lang_valid.specs.Scope.{is_foreign, Meaning, nothing, an_int, an_outside, a_foreign, a_builtin, a_view, a_function, a_table, a_parameter, Constructor, constructors, constructor_in, viewed, init_meaning}
use Rattle.asm_lang_valid.specs.Typing.{Scope, named, exprs_length, is_call, or_zero}
use Rattle.asm_lang_valid.specs.Typed.{scope_of}
use Rattle.asm_lang_valid.specs.Rows.{need, expr_count, option_count, stmt_count, stmts_count, body_at, function_count, functions_at, tables_at}
use Rattle.asm_lang_valid.specs.LimitRows.{ForeignCall, Mark, rows_of, callee_marks, expr_marks, exprs_marks, links_marks, comma_marks, call_marks, effect_marks, part_marks, option_marks, clauses_length, stmt_marks, stmts_marks, clauses_marks, counted, member_length, globals_marks, names_marks, function_marks, functions_marks, tables_marks, marks, foreign_calls, most_params, most_clauses, most_functions, most_locals, most_globals, most_members, most_entries, longest_name}
use Rattle.asm_laws_print.specs.Fitting.{IsProperty, FitsInit, FitsGlobal, FitsModule}
use Rattle.asm2wasm_laws_within.specs.Uses.{AllUses}
use Rattle.asm2wasm_laws_within.proofs.Marks.{uses_join, distinct_all}
use Rattle.asm2wasm_laws_within.proofs.Names.{Plainly, named_holds}

-- ---- what a name means

abbrev ForeignIsProperty : Meaning → Type 0
ForeignIsProperty (a_foreign p) = IsProperty p
ForeignIsProperty _ = Unit {0}

plainly : Plainly ForeignIsProperty
plainly = record { of_nothing = tt; of_int = tt; of_outside = tt; of_parameter = tt; of_function = λ f. tt; of_table = λ t. tt }

init_property : (m : Module) (i : Init) → FitsInit i → ForeignIsProperty (init_meaning m i)
init_property m (number z) h = tt
init_property m (decimal bs) h = tt
init_property m (foreign_int f p) h = tt
init_property m (foreign_double f p) h = tt
init_property m (member f p) h = by (is_foreign m f)
  where
    by : (b : Bool) → ForeignIsProperty (if b then a_foreign p else an_outside)
    by true = h.1
    by false = tt
init_property m (math f p) h = by (bytes_eq (codes "imul") p) (bytes_eq (codes "clz32") p)
  where
    by : (a b : Bool) → ForeignIsProperty (if a then a_builtin Imul else (if b then a_builtin Clz32 else an_outside))
    by true b = tt
    by false true = tt
    by false false = tt
init_property m (view f p v) h = by (constructor_in constructors p)
  where
    element : (e : Option Element) (n : List ℕ) → ForeignIsProperty (viewed (Some (record { name = n; element = e })))
    element None n = tt
    element (Some e) n = tt

    by : (c : Option Constructor) → ForeignIsProperty (viewed c)
    by None = tt
    by (Some c) = element c.element c.name

inits_properties : (m : Module) (vs : List Variable) → AllByRecursion FitsGlobal vs → AllByRecursion (λ (v : Variable). ForeignIsProperty (init_meaning m v.init)) vs
inits_properties m [] a = tt
inits_properties m (v ∷ vs) a = (init_property m v.init a.0.1, inits_properties m vs a.1)

-- ---- marks

abbrev IsNamed : ForeignCall → Type 0
IsNamed f = IsProperty f.name

abbrev Named : List Mark → Type 0
Named ms = AllUses IsNamed ms

rows_named : (b : Bool) (at : ℕ) → Named (rows_of (need b PastLimit at))
rows_named true at = tt
rows_named false at = tt

either_named : (b : Bool) (ms ns : List Mark) → Named ms → Named ns → Named (if b then ms else ns)
either_named true ms ns p q = p
either_named false ms ns p q = q

callee_named : (x : Meaning) (result : Bool) (count at : ℕ) → ForeignIsProperty x → Named (callee_marks x result count at)
callee_named (a_foreign p) result count at fits = uses_join IsNamed (rows_of (need (nat_le count most_params) PastLimit at)) _ (rows_named (nat_le count most_params) at) (fits, tt)
callee_named nothing result count at fits = tt
callee_named an_int result count at fits = tt
callee_named an_outside result count at fits = tt
callee_named (a_builtin b) result count at fits = tt
callee_named (a_view v) result count at fits = tt
callee_named (a_function f) result count at fits = tt
callee_named (a_table t) result count at fits = tt
callee_named a_parameter result count at fits = tt

module _ (c : Scope) (fits : (n : List ℕ) → ForeignIsProperty (named c n)) where
  mutual
    pub expr_named : (at : ℕ) (e : Expr) → Named (expr_marks c at e)
    expr_named at (lit v) = tt
    expr_named at (a_decimal bs) = tt
    expr_named at (var n) = tt
    expr_named at (index n i) = expr_named (at + 1) i
    expr_named at (call n es) = exprs_named (at + 1) es
    expr_named at (table_call n i es) = uses_join IsNamed (expr_marks c (at + 1) i) (exprs_marks c (at + 1 + expr_count i) es) (expr_named (at + 1) i) (exprs_named (at + 1 + expr_count i) es)
    expr_named at (assign n e) = expr_named (at + 1) e
    expr_named at (store n i e) = uses_join IsNamed (expr_marks c (at + 1) i) (expr_marks c (at + 1 + expr_count i) e) (expr_named (at + 1) i) (expr_named (at + 1 + expr_count i) e)
    expr_named at (unary op e) = expr_named (at + 1) e
    expr_named at (binary op l r) =
        either_named (is_call c l && or_zero op r) (call_marks c true (at + 1) l) (expr_marks c (at + 1) l ++ expr_marks c (at + 1 + expr_count l) r)
        (call_named true (at + 1) l)
        (uses_join IsNamed (expr_marks c (at + 1) l) (expr_marks c (at + 1 + expr_count l) r) (expr_named (at + 1) l) (expr_named (at + 1 + expr_count l) r))
    expr_named at (chain e ls) = uses_join IsNamed (expr_marks c (at + 1) e) (links_marks c (at + 1 + expr_count e) ls) (expr_named (at + 1) e) (links_named (at + 1 + expr_count e) ls)
    expr_named at (cond e a b) =
        uses_join IsNamed (expr_marks c (at + 1) e) (expr_marks c (at + 1 + expr_count e) a ++ expr_marks c (at + 1 + expr_count e + expr_count a) b) (expr_named (at + 1) e)
        (uses_join IsNamed (expr_marks c (at + 1 + expr_count e) a) (expr_marks c (at + 1 + expr_count e + expr_count a) b) (expr_named (at + 1 + expr_count e) a) (expr_named (at + 1 + expr_count e + expr_count a) b))
    expr_named at (comma es) = comma_named (at + 1) es

    exprs_named : (at : ℕ) (es : Exprs) → Named (exprs_marks c at es)
    exprs_named at no_exprs = tt
    exprs_named at (exprs e es) = uses_join IsNamed (expr_marks c at e) (exprs_marks c (at + expr_count e) es) (expr_named at e) (exprs_named (at + expr_count e) es)

    links_named : (at : ℕ) (ls : Links) → Named (links_marks c at ls)
    links_named at no_links = tt
    links_named at (links minus e ls) = uses_join IsNamed (expr_marks c at e) (links_marks c (at + expr_count e) ls) (expr_named at e) (links_named (at + expr_count e) ls)

    comma_named : (at : ℕ) (es : Exprs) → Named (comma_marks c at es)
    comma_named at no_exprs = tt
    comma_named at (exprs e no_exprs) = expr_named at e
    comma_named at (exprs e (exprs x es)) =
        uses_join IsNamed (if is_call c e then call_marks c false at e else expr_marks c at e) (comma_marks c (at + expr_count e) (exprs x es))
        (either_named (is_call c e) (call_marks c false at e) (expr_marks c at e) (call_named false at e) (expr_named at e))
        (comma_named (at + expr_count e) (exprs x es))

    call_named : (result : Bool) (at : ℕ) (e : Expr) → Named (call_marks c result at e)
    call_named result at (call n es) =
        uses_join IsNamed (exprs_marks c (at + 1) es) (callee_marks (named c n) result (exprs_length es) at) (exprs_named (at + 1) es) (callee_named (named c n) result (exprs_length es) at (fits n))
    call_named result at (table_call n i es) = uses_join IsNamed (expr_marks c (at + 1) i) (exprs_marks c (at + 1 + expr_count i) es) (expr_named (at + 1) i) (exprs_named (at + 1 + expr_count i) es)
    call_named result at (lit v) = tt
    call_named result at (a_decimal bs) = tt
    call_named result at (var n) = tt
    call_named result at (index n i) = tt
    call_named result at (assign n e) = tt
    call_named result at (store n i e) = tt
    call_named result at (unary op e) = tt
    call_named result at (binary op l r) = tt
    call_named result at (chain e ls) = tt
    call_named result at (cond e a b) = tt
    call_named result at (comma es) = tt

  effect_named : (at : ℕ) (e : Expr) → Named (effect_marks c at e)
  effect_named at e = either_named (is_call c e) (call_marks c false at e) (expr_marks c at e) (call_named false at e) (expr_named at e)

  part_named : (at : ℕ) (o : Option Expr) → Named (part_marks c at o)
  part_named at None = tt
  part_named at (Some e) = effect_named at e

  option_named : (at : ℕ) (o : Option Expr) → Named (option_marks c at o)
  option_named at None = tt
  option_named at (Some e) = expr_named at e

  mutual
    stmt_named : (at : ℕ) (s : Stmt) → Named (stmt_marks c at s)
    stmt_named at (block ss) = stmts_named (at + 1) ss
    stmt_named at (plain e) = effect_named (at + 1) e
    stmt_named at empty = tt
    stmt_named at (if_only e s) = uses_join IsNamed (expr_marks c (at + 1) e) (stmt_marks c (at + 1 + expr_count e) s) (expr_named (at + 1) e) (stmt_named (at + 1 + expr_count e) s)
    stmt_named at (if_else e s r) =
        uses_join IsNamed (expr_marks c (at + 1) e) (stmt_marks c (at + 1 + expr_count e) s ++ stmt_marks c (at + 1 + expr_count e + stmt_count s) r) (expr_named (at + 1) e)
        (uses_join IsNamed (stmt_marks c (at + 1 + expr_count e) s) (stmt_marks c (at + 1 + expr_count e + stmt_count s) r) (stmt_named (at + 1 + expr_count e) s) (stmt_named (at + 1 + expr_count e + stmt_count s) r))
    stmt_named at (returns o) = option_named (at + 1) o
    stmt_named at (while_loop e s) = uses_join IsNamed (expr_marks c (at + 1) e) (stmt_marks c (at + 1 + expr_count e) s) (expr_named (at + 1) e) (stmt_named (at + 1 + expr_count e) s)
    stmt_named at (do_while s e) = uses_join IsNamed (stmt_marks c (at + 1) s) (expr_marks c (at + 1 + stmt_count s) e) (stmt_named (at + 1) s) (expr_named (at + 1 + stmt_count s) e)
    stmt_named at (for_loop x y z s) =
        let at1 = at + 1 + option_count x in
        let at2 = at + 1 + option_count x + option_count y in
        let at3 = at + 1 + option_count x + option_count y + option_count z in
        uses_join IsNamed (part_marks c (at + 1) x) (option_marks c at1 y ++ (part_marks c at2 z ++ stmt_marks c at3 s)) (part_named (at + 1) x)
        (uses_join IsNamed (option_marks c at1 y) (part_marks c at2 z ++ stmt_marks c at3 s) (option_named at1 y)
        (uses_join IsNamed (part_marks c at2 z) (stmt_marks c at3 s) (part_named at2 z) (stmt_named at3 s)))
    stmt_named at (breaks l) = tt
    stmt_named at (continues l) = tt
    stmt_named at (labelled ls s) = stmt_named (at + 1) s
    stmt_named at (switches e cs) =
        let few = nat_le (clauses_length cs) most_clauses in
        uses_join IsNamed (expr_marks c (at + 1) e) (rows_of (need few PastLimit at) ++ clauses_marks c (at + 1 + expr_count e) cs) (expr_named (at + 1) e)
        (uses_join IsNamed (rows_of (need few PastLimit at)) (clauses_marks c (at + 1 + expr_count e) cs) (rows_named few at) (clauses_named (at + 1 + expr_count e) cs))

    pub stmts_named : (at : ℕ) (ss : Stmts) → Named (stmts_marks c at ss)
    stmts_named at no_stmts = tt
    stmts_named at (stmts s ss) = uses_join IsNamed (stmt_marks c at s) (stmts_marks c (at + stmt_count s) ss) (stmt_named at s) (stmts_named (at + stmt_count s) ss)

    clauses_named : (at : ℕ) (cs : Clauses) → Named (clauses_marks c at cs)
    clauses_named at no_clauses = tt
    clauses_named at (clauses v ss cs) = uses_join IsNamed (stmts_marks c at ss) (clauses_marks c (at + stmts_count ss) cs) (stmts_named at ss) (clauses_named (at + stmts_count ss) cs)

-- ---- declarations

names_named : {A : Type 0} (xs : List A) (before limit at : ℕ) → Named (names_marks before limit at xs)
names_named [] before limit at = tt
names_named (x ∷ xs) before limit at = uses_join IsNamed (counted before limit at) (names_marks (before + 1) limit (at + 1) xs) (rows_named (nat_lt before limit) at) (names_named xs (before + 1) limit (at + 1))

globals_named : (m : Module) (vs : List Variable) (before at : ℕ) → Named (globals_marks m before at vs)
globals_named m [] before at = tt
globals_named m (v ∷ vs) before at =
    let length_row = rows_of (need (nat_le (member_length m v.init) longest_name) PastLimit at) in
    uses_join IsNamed (counted before most_globals at) (length_row ++ globals_marks m (before + 1) (at + 1) vs) (rows_named (nat_lt before most_globals) at)
    (uses_join IsNamed length_row (globals_marks m (before + 1) (at + 1) vs) (rows_named (nat_le (member_length m v.init) longest_name) at) (globals_named m vs (before + 1) (at + 1)))

tables_named : (ts : List Table) (before at : ℕ) → Named (tables_marks before at ts)
tables_named [] before at = tt
tables_named (t ∷ ts) before at =
    let fits = nat_le (length t.members) most_members && nat_le (before + length t.members) most_entries in
    uses_join IsNamed (rows_of (need fits PastLimit at)) (tables_marks (before + length t.members) (at + 1) ts) (rows_named fits at) (tables_named ts (before + length t.members) (at + 1))

functions_named : (m : Module) → ((f : Function) (n : List ℕ) → ForeignIsProperty (named (scope_of m f) n)) → (fs : List Function) (before at : ℕ) → Named (functions_marks m before at fs)
functions_named m fits [] before at = tt
functions_named m fits (f ∷ fs) before at =
    let body = stmts_marks (scope_of m f) (body_at f at) f.body in
    let locals = names_marks (length f.params) most_locals (at + 1 + length f.params) f.locals in
    let params = names_marks 0 most_params (at + 1) f.params in
    uses_join IsNamed (function_marks m before at f) (functions_marks m (before + 1) (at + function_count f) fs)
    (uses_join IsNamed (counted before most_functions at) (params ++ (locals ++ body)) (rows_named (nat_lt before most_functions) at)
    (uses_join IsNamed params (locals ++ body) (names_named f.params 0 most_params (at + 1))
    (uses_join IsNamed locals body (names_named f.locals (length f.params) most_locals (at + 1 + length f.params)) (stmts_named (scope_of m f) (fits f) (body_at f at) f.body))))
    (functions_named m fits fs (before + 1) (at + function_count f))

pub calls_are_properties : (m : Module) → FitsModule m → AllByRecursion IsNamed (foreign_calls m)
calls_are_properties m fits =
    let meant : (f : Function) (n : List ℕ) → ForeignIsProperty (named (scope_of m f) n) = λ f n. named_holds ForeignIsProperty plainly m (inits_properties m m.globals fits.globals) f n in
    let functions = functions_marks m 0 (functions_at m) m.functions in
    let tables = tables_marks 0 (tables_at m) m.tables in
    distinct_all IsNamed [] (marks m) tt
    (uses_join IsNamed (globals_marks m 0 1 m.globals) (functions ++ tables) (globals_named m m.globals 0 1)
    (uses_join IsNamed functions tables (functions_named m meant m.functions 0 (functions_at m)) (tables_named m.tables 0 (tables_at m))))
