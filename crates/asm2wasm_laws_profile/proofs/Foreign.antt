-- A module without foreign members calls no foreign function and imports no global.
use Rattle.std.proofs.Common.{◌≡◌, ℕ, ◌+◌, Bool, true, false, List, [], ◌∷◌, ◌++◌, length, Option, Some, None, refl, ap, ◌∙◌}
use Rattle.std.specs.Prelude.{nat_le, nat_lt, bytes_eq, codes, ◌&&◌, if◌then◌else◌}
use Rattle.std.specs.List.{AllByRecursion}
use Rattle.std.proofs.lemmas.List.Elements.{recursion_from_All}
use Rattle.asm_lang.specs.Trees as declarations
use Rattle.asm_lang.specs.Trees.{Init, number, foreign_int, foreign_double, member, math, view}
use Rattle.asm_lang.specs.Modules.{Expr, lit, decimal, var, index, call, table_call, assign, store, unary, binary, chain, cond, comma, Exprs, no_exprs, exprs, Links, no_links, links, Stmt, block, plain, empty, if_only, if_else, returns, while_loop, do_while, for_loop, breaks, continues, labelled, switches, Stmts, no_stmts, stmts, Clauses, no_clauses, clauses, Variable, Function, Table, Module}
use Rattle.asm_lang_valid.specs.declared.rule.Rule.TheVariants.{PastLimit}
use Rattle.asm_lang_valid.specs.declared.meaning.Element.{Element}
use Rattle.asm_lang_valid.specs.declared.meaning.Builtin.TheVariants.{Imul, Clz32}
use Rattle.asm_lang_valid.specs.Scope.{is_foreign, Meaning, nothing, an_int, an_outside, a_foreign, a_builtin, a_view, a_function, a_table, a_parameter, Constructor, constructors, constructor_in, viewed, init_meaning}
use Rattle.asm_lang_valid.specs.Typed.{scope_of}
use Rattle.asm_lang_valid.specs.Typing.{Scope, named, exprs_length, is_call, or_zero}
use Rattle.asm_lang_valid.specs.Rows.{need, expr_count, option_count, stmt_count, stmts_count, body_at, function_count, functions_at, tables_at}
use Rattle.asm_lang_valid.specs.LimitRows.{ForeignCall, Mark, rows_of, callee_marks, expr_marks, exprs_marks, links_marks, comma_marks, call_marks, effect_marks, part_marks, option_marks, clauses_length, stmt_marks, stmts_marks, clauses_marks, counted, member_length, globals_marks, names_marks, function_marks, functions_marks, tables_marks, marks, foreign_calls, most_functions, most_params, most_locals, most_globals, most_clauses, most_members, most_entries, longest_name}
use Rattle.asm_lang_valid.specs.Refusal.{with_global, global_imports}
use Rattle.asm2wasm_laws_within.specs.Uses.{AllUses}
use Rattle.asm2wasm_laws_within.proofs.Marks.{uses_join, distinct_all}
use Rattle.asm2wasm_laws_within.proofs.Names.{Plainly, named_holds}
use Rattle.asm2wasm_lang.specs.Small.{is_foreign_member}
use Rattle.asm2wasm_laws_profile.specs.Laws.{NothingIsForeign}

-- ---- no name means a foreign function

abbrev NotForeign : Meaning → Type 0
NotForeign (a_foreign p) = ⊥
NotForeign _ = Unit {0}

not_foreign_plainly : Plainly NotForeign
not_foreign_plainly = record { of_nothing = tt; of_int = tt; of_outside = tt; of_parameter = tt; of_function = λ f. tt; of_table = λ t. tt }

init_not_foreign : (m : Module) (i : Init) → is_foreign_member m i ≡ false → NotForeign (init_meaning m i)
init_not_foreign m (number z) h = tt
init_not_foreign m (declarations.decimal bs) h = tt
init_not_foreign m (foreign_int f p) h = tt
init_not_foreign m (foreign_double f p) h = tt
init_not_foreign m (member f p) h = by (is_foreign m f) h
  where
    by : (b : Bool) → b ≡ false → NotForeign (if b then a_foreign p else an_outside)
    by true h = absurd (cc h)
    by false h = tt
init_not_foreign m (math f p) h = by (bytes_eq (codes "imul") p) (bytes_eq (codes "clz32") p)
  where
    by : (a b : Bool) → NotForeign (if a then a_builtin Imul else (if b then a_builtin Clz32 else an_outside))
    by true b = tt
    by false true = tt
    by false false = tt
init_not_foreign m (view f p n) h = by (constructor_in constructors p)
  where
    element : (e : Option Element) (n : List ℕ) → NotForeign (viewed (Some (record { name = n; element = e })))
    element None n = tt
    element (Some e) n = tt

    by : (c : Option Constructor) → NotForeign (viewed c)
    by None = tt
    by (Some c) = element c.element c.name

abbrev IsOwn : Module → Variable → Type 0
IsOwn m v = is_foreign_member m v.init ≡ false

all_not_foreign : (m : Module) (vs : List Variable) → AllByRecursion (IsOwn m) vs → AllByRecursion (λ (v : Variable). NotForeign (init_meaning m v.init)) vs
all_not_foreign m [] a = tt
all_not_foreign m (v ∷ vs) a = (init_not_foreign m v.init a.0, all_not_foreign m vs a.1)

-- ---- so nothing calls one

abbrev NoUse : List Mark → Type 0
NoUse ms = AllUses (λ f. ⊥) ms

none_join : (ms ns : List Mark) → NoUse ms → NoUse ns → NoUse (ms ++ ns)
none_join = uses_join (λ f. ⊥)

none_row : (b : Bool) (at : ℕ) → NoUse (rows_of (need b PastLimit at))
none_row true at = tt
none_row false at = tt

none_if : (b : Bool) (ms ns : List Mark) → NoUse ms → NoUse ns → NoUse (if b then ms else ns)
none_if true ms ns p q = p
none_if false ms ns p q = q

none_callee : (x : Meaning) (result : Bool) (count at : ℕ) → NotForeign x → NoUse (callee_marks x result count at)
none_callee (a_foreign p) result count at h = absurd h
none_callee nothing result count at h = tt
none_callee an_int result count at h = tt
none_callee an_outside result count at h = tt
none_callee (a_builtin b) result count at h = tt
none_callee (a_view v) result count at h = tt
none_callee (a_function f) result count at h = tt
none_callee (a_table t) result count at h = tt
none_callee a_parameter result count at h = tt

module _ (c : Scope) (not_foreign : (n : List ℕ) → NotForeign (named c n)) where
  mutual
    none_expr : (at : ℕ) (e : Expr) → NoUse (expr_marks c at e)
    none_expr at (lit v) = tt
    none_expr at (decimal bs) = tt
    none_expr at (var n) = tt
    none_expr at (index n i) = none_expr (at + 1) i
    none_expr at (call n es) = none_exprs (at + 1) es
    none_expr at (table_call n i es) = none_join (expr_marks c (at + 1) i) (exprs_marks c (at + 1 + expr_count i) es) (none_expr (at + 1) i) (none_exprs (at + 1 + expr_count i) es)
    none_expr at (assign n e) = none_expr (at + 1) e
    none_expr at (store n i e) = none_join (expr_marks c (at + 1) i) (expr_marks c (at + 1 + expr_count i) e) (none_expr (at + 1) i) (none_expr (at + 1 + expr_count i) e)
    none_expr at (unary op e) = none_expr (at + 1) e
    none_expr at (binary op l r) =
        none_if (is_call c l && or_zero op r) (call_marks c true (at + 1) l) (expr_marks c (at + 1) l ++ expr_marks c (at + 1 + expr_count l) r)
        (none_call true (at + 1) l)
        (none_join (expr_marks c (at + 1) l) (expr_marks c (at + 1 + expr_count l) r) (none_expr (at + 1) l) (none_expr (at + 1 + expr_count l) r))
    none_expr at (chain e ls) = none_join (expr_marks c (at + 1) e) (links_marks c (at + 1 + expr_count e) ls) (none_expr (at + 1) e) (none_links (at + 1 + expr_count e) ls)
    none_expr at (cond e a b) =
        none_join (expr_marks c (at + 1) e) (expr_marks c (at + 1 + expr_count e) a ++ expr_marks c (at + 1 + expr_count e + expr_count a) b) (none_expr (at + 1) e)
        (none_join (expr_marks c (at + 1 + expr_count e) a) (expr_marks c (at + 1 + expr_count e + expr_count a) b) (none_expr (at + 1 + expr_count e) a) (none_expr (at + 1 + expr_count e + expr_count a) b))
    none_expr at (comma es) = none_comma (at + 1) es

    none_exprs : (at : ℕ) (es : Exprs) → NoUse (exprs_marks c at es)
    none_exprs at no_exprs = tt
    none_exprs at (exprs e es) = none_join (expr_marks c at e) (exprs_marks c (at + expr_count e) es) (none_expr at e) (none_exprs (at + expr_count e) es)

    none_links : (at : ℕ) (ls : Links) → NoUse (links_marks c at ls)
    none_links at no_links = tt
    none_links at (links minus e ls) = none_join (expr_marks c at e) (links_marks c (at + expr_count e) ls) (none_expr at e) (none_links (at + expr_count e) ls)

    none_comma : (at : ℕ) (es : Exprs) → NoUse (comma_marks c at es)
    none_comma at no_exprs = tt
    none_comma at (exprs e no_exprs) = none_expr at e
    none_comma at (exprs e (exprs x es)) =
        none_join (if is_call c e then call_marks c false at e else expr_marks c at e) (comma_marks c (at + expr_count e) (exprs x es))
        (none_if (is_call c e) (call_marks c false at e) (expr_marks c at e) (none_call false at e) (none_expr at e))
        (none_comma (at + expr_count e) (exprs x es))

    none_call : (result : Bool) (at : ℕ) (e : Expr) → NoUse (call_marks c result at e)
    none_call result at (call n es) =
        none_join (exprs_marks c (at + 1) es) (callee_marks (named c n) result (exprs_length es) at) (none_exprs (at + 1) es) (none_callee (named c n) result (exprs_length es) at (not_foreign n))
    none_call result at (table_call n i es) = none_join (expr_marks c (at + 1) i) (exprs_marks c (at + 1 + expr_count i) es) (none_expr (at + 1) i) (none_exprs (at + 1 + expr_count i) es)
    none_call result at (lit v) = tt
    none_call result at (decimal bs) = tt
    none_call result at (var n) = tt
    none_call result at (index n i) = tt
    none_call result at (assign n e) = tt
    none_call result at (store n i e) = tt
    none_call result at (unary op e) = tt
    none_call result at (binary op l r) = tt
    none_call result at (chain e ls) = tt
    none_call result at (cond e a b) = tt
    none_call result at (comma es) = tt

  none_effect : (at : ℕ) (e : Expr) → NoUse (effect_marks c at e)
  none_effect at e = none_if (is_call c e) (call_marks c false at e) (expr_marks c at e) (none_call false at e) (none_expr at e)

  none_part : (at : ℕ) (o : Option Expr) → NoUse (part_marks c at o)
  none_part at None = tt
  none_part at (Some e) = none_effect at e

  none_option : (at : ℕ) (o : Option Expr) → NoUse (option_marks c at o)
  none_option at None = tt
  none_option at (Some e) = none_expr at e

  mutual
    none_stmt : (at : ℕ) (s : Stmt) → NoUse (stmt_marks c at s)
    none_stmt at (block ss) = none_stmts (at + 1) ss
    none_stmt at (plain e) = none_effect (at + 1) e
    none_stmt at empty = tt
    none_stmt at (if_only e s) = none_join (expr_marks c (at + 1) e) (stmt_marks c (at + 1 + expr_count e) s) (none_expr (at + 1) e) (none_stmt (at + 1 + expr_count e) s)
    none_stmt at (if_else e s r) =
        none_join (expr_marks c (at + 1) e) (stmt_marks c (at + 1 + expr_count e) s ++ stmt_marks c (at + 1 + expr_count e + stmt_count s) r) (none_expr (at + 1) e)
        (none_join (stmt_marks c (at + 1 + expr_count e) s) (stmt_marks c (at + 1 + expr_count e + stmt_count s) r) (none_stmt (at + 1 + expr_count e) s) (none_stmt (at + 1 + expr_count e + stmt_count s) r))
    none_stmt at (returns o) = none_option (at + 1) o
    none_stmt at (while_loop e s) = none_join (expr_marks c (at + 1) e) (stmt_marks c (at + 1 + expr_count e) s) (none_expr (at + 1) e) (none_stmt (at + 1 + expr_count e) s)
    none_stmt at (do_while s e) = none_join (stmt_marks c (at + 1) s) (expr_marks c (at + 1 + stmt_count s) e) (none_stmt (at + 1) s) (none_expr (at + 1 + stmt_count s) e)
    none_stmt at (for_loop x y z s) =
        let at1 = at + 1 + option_count x in
        let at2 = at + 1 + option_count x + option_count y in
        let at3 = at + 1 + option_count x + option_count y + option_count z in
        none_join (part_marks c (at + 1) x) (option_marks c at1 y ++ (part_marks c at2 z ++ stmt_marks c at3 s)) (none_part (at + 1) x)
        (none_join (option_marks c at1 y) (part_marks c at2 z ++ stmt_marks c at3 s) (none_option at1 y)
        (none_join (part_marks c at2 z) (stmt_marks c at3 s) (none_part at2 z) (none_stmt at3 s)))
    none_stmt at (breaks l) = tt
    none_stmt at (continues l) = tt
    none_stmt at (labelled ls s) = none_stmt (at + 1) s
    none_stmt at (switches e cs) =
        let few = nat_le (clauses_length cs) most_clauses in
        none_join (expr_marks c (at + 1) e) (rows_of (need few PastLimit at) ++ clauses_marks c (at + 1 + expr_count e) cs) (none_expr (at + 1) e)
        (none_join (rows_of (need few PastLimit at)) (clauses_marks c (at + 1 + expr_count e) cs) (none_row few at) (none_clauses (at + 1 + expr_count e) cs))

    none_stmts : (at : ℕ) (ss : Stmts) → NoUse (stmts_marks c at ss)
    none_stmts at no_stmts = tt
    none_stmts at (stmts s ss) = none_join (stmt_marks c at s) (stmts_marks c (at + stmt_count s) ss) (none_stmt at s) (none_stmts (at + stmt_count s) ss)

    none_clauses : (at : ℕ) (cs : Clauses) → NoUse (clauses_marks c at cs)
    none_clauses at no_clauses = tt
    none_clauses at (clauses v ss cs) = none_join (stmts_marks c at ss) (clauses_marks c (at + stmts_count ss) cs) (none_stmts at ss) (none_clauses (at + stmts_count ss) cs)

-- ---- declarations

none_names : {A : Type 0} (xs : List A) (before limit at : ℕ) → NoUse (names_marks before limit at xs)
none_names [] before limit at = tt
none_names (x ∷ xs) before limit at = none_join (counted before limit at) (names_marks (before + 1) limit (at + 1) xs) (none_row (nat_lt before limit) at) (none_names xs (before + 1) limit (at + 1))

none_globals : (m : Module) (vs : List Variable) (before at : ℕ) → NoUse (globals_marks m before at vs)
none_globals m [] before at = tt
none_globals m (v ∷ vs) before at =
    let name = nat_le (member_length m v.init) longest_name in
    none_join (counted before most_globals at) (rows_of (need name PastLimit at) ++ globals_marks m (before + 1) (at + 1) vs) (none_row (nat_lt before most_globals) at)
    (none_join (rows_of (need name PastLimit at)) (globals_marks m (before + 1) (at + 1) vs) (none_row name at) (none_globals m vs (before + 1) (at + 1)))

none_tables : (ts : List Table) (before at : ℕ) → NoUse (tables_marks before at ts)
none_tables [] before at = tt
none_tables (t ∷ ts) before at =
    let few = nat_le (length t.members) most_members && nat_le (before + length t.members) most_entries in
    none_join (rows_of (need few PastLimit at)) (tables_marks (before + length t.members) (at + 1) ts) (none_row few at) (none_tables ts (before + length t.members) (at + 1))

module _ (m : Module) (not_foreign : (f : Function) (n : List ℕ) → NotForeign (named (scope_of m f) n)) where
  none_function : (before at : ℕ) (f : Function) → NoUse (function_marks m before at f)
  none_function before at f =
      let body = stmts_marks (scope_of m f) (body_at f at) f.body in
      let locals = names_marks (length f.params) most_locals (at + 1 + length f.params) f.locals in
      none_join (counted before most_functions at) (names_marks 0 most_params (at + 1) f.params ++ (locals ++ body)) (none_row (nat_lt before most_functions) at)
      (none_join (names_marks 0 most_params (at + 1) f.params) (locals ++ body) (none_names f.params 0 most_params (at + 1))
      (none_join locals body (none_names f.locals (length f.params) most_locals (at + 1 + length f.params)) (none_stmts (scope_of m f) (not_foreign f) (body_at f at) f.body)))

  none_functions : (fs : List Function) (before at : ℕ) → NoUse (functions_marks m before at fs)
  none_functions [] before at = tt
  none_functions (f ∷ fs) before at =
      none_join (function_marks m before at f) (functions_marks m (before + 1) (at + function_count f) fs) (none_function before at f) (none_functions fs (before + 1) (at + function_count f))

-- ---- the module

is_empty : (fs : List ForeignCall) → AllByRecursion (λ f. ⊥) fs → fs ≡ []
is_empty [] a = refl
is_empty (f ∷ fs) a = absurd a.0

same_seen : (m : Module) (i : Init) (seen : List (List ℕ)) → is_foreign_member m i ≡ false → with_global seen i ≡ seen
same_seen m (number z) seen h = refl
same_seen m (declarations.decimal bs) seen h = refl
same_seen m (foreign_int f p) seen h = absurd (cc h)
same_seen m (foreign_double f p) seen h = refl
same_seen m (member f p) seen h = refl
same_seen m (math f p) seen h = refl
same_seen m (view f p n) seen h = refl

same_imports : (m : Module) (vs : List Variable) (seen : List (List ℕ)) → AllByRecursion (IsOwn m) vs → global_imports seen vs ≡ seen
same_imports m [] seen a = refl
same_imports m (v ∷ vs) seen a = ap (λ s. global_imports s vs) (same_seen m v.init seen a.0) ∙ same_imports m vs seen a.1

pub nothing_is_foreign : NothingIsForeign
nothing_is_foreign m all =
    let own = recursion_from_All (IsOwn m) m.globals all in
    let not_foreign = λ (f : Function) (n : List ℕ). named_holds NotForeign not_foreign_plainly m (all_not_foreign m m.globals own) f n in
    let functions = functions_marks m 0 (functions_at m) m.functions in
    let tables = tables_marks 0 (tables_at m) m.tables in
    let uses =
    none_join (globals_marks m 0 1 m.globals) (functions ++ tables) (none_globals m m.globals 0 1)
    (none_join functions tables (none_functions m not_foreign m.functions 0 (functions_at m)) (none_tables m.tables 0 (tables_at m))) in
    (is_empty (foreign_calls m) (distinct_all (λ f. ⊥) [] (marks m) tt uses), same_imports m m.globals [] own)
