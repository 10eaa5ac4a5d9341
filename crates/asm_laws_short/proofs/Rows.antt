-- What an accepted module declares and uses: distinct names, parameters in first values, functions in tables and exports, and
-- in code each name for what it means.
use Rattle.std.proofs.Common.{◌≡◌, ℕ, zero, suc, ◌+◌, Bool, true, false, not, ◌||◌, List, [], ◌∷◌, ◌++◌, length, Option, Some, None, refl, sym, subst, ◌⊎◌, inl, inr, append_assoc, append-nil}
use Rattle.std.proofs.lemmas.Bool.{and_parts}
use Rattle.std.specs.Prelude.{if◌then◌else◌, map, bytes_eq}
use Rattle.std.specs.List.{AllByRecursion}
use Rattle.asm_lang.specs.Trees.{Init, number, decimal, foreign_int, foreign_double, member, math, view}
use Rattle.asm_lang.specs.Modules.{Expr, lit, decimal as decimal_expr, var, index, call, table_call, assign, store, unary, binary, chain, cond, comma, Exprs, no_exprs, exprs, Links, no_links, links, Stmt, block, plain, empty, if_only, if_else, returns, while_loop, do_while, for_loop, breaks, continues, labelled, switches, Stmts, no_stmts, stmts, Clauses, no_clauses, clauses, Variable, Param, Function, Table, Export, Exports, one, many, Module}
use Rattle.asm_lang_valid.specs.declared.rule.Rule.{Rule}
use Rattle.asm_lang_valid.specs.declared.rule.Rule.TheVariants.{NameTaken, ForbiddenName, UnknownName, WrongKind}
use Rattle.asm_lang_valid.specs.Scope.{nth, is_name, is_stdlib, is_foreign, is_in, Meaning, module_meaning}
use Rattle.asm_lang_valid.specs.declared.rule.Met.{Met}
use Rattle.asm_lang_valid.specs.Rows.{need, expr_count, option_count, stmt_count, stmts_count, body_at, function_count, functions_at, tables_at, exports_at}
use Rattle.asm_lang_valid.specs.Typing.{Scope, named}
use Rattle.asm_lang_valid.specs.Typed.{scope_of, module_typed}
use Rattle.asm_lang_valid.specs.NameRows.{is_forbidden, declares, is_declared, uses, as_variable, as_view, as_callee, as_table, expr_names, exprs_names, links_names, option_names, stmt_names, stmts_names, clauses_names, Imports, with_import, clashes, has_forbidden_member, knows_all, right_parameters, init_rows, global_names, globals_names, params_names, locals_names, param_texts, function_names, functions_names, is_function, all_known, all_functions, function_uses, tables_names, declares_key, keys_names, exports_names, all_new, own_name, any_forbidden, global_texts, function_texts, name_rows}
use Rattle.asm_lang_valid.specs.TypeRows.{type_rows}
use Rattle.asm_lang_valid.specs.LimitRows.{limit_rows}
use Rattle.asm_lang_valid.specs.Refusal.{all_rows, IsAccepted}
use Rattle.asm_lang_valid.proofs.Agree.{iff, module_agrees, first_none, none_both}
use Rattle.asm_short_lang.specs.Uses.{Use, of_variable, of_view, of_callee, of_table, expr_uses, exprs_uses, links_uses, option_uses, stmt_uses, stmts_uses, clauses_uses}
use Rattle.asm_short_lang.specs.Renaming.{declared_names, local_names}
use Rattle.asm_laws_short.proofs.Lists.{same_name, or_true, or_left, or_right, either_false, in_left, in_right, itself, both_false, Distinct, all_append}

-- ---- rows

both_none : (xs ys : List Met) → xs ++ ys ≡ [] → (xs ≡ []) × (ys ≡ [])
both_none xs ys h = (none_both xs ys).0 h

needed : (b : Bool) (r : Rule) (at : ℕ) → need b r at ≡ [] → b ≡ true
needed true r at h = refl
needed false r at h = absurd (cc h)

not_true : (b : Bool) → not b ≡ true → b ≡ false
not_true true h = absurd (cc h)
not_true false h = refl

-- ---- names that are new, one after the other

abbrev AreNew : List (List ℕ) → List (List ℕ) → Type 0
AreNew before [] = Unit {0}
AreNew before (n ∷ ns) = (is_in n before ≡ false) × AreNew (before ++ n ∷ []) ns

new_both : (before xs ys : List (List ℕ)) → AreNew before xs → AreNew (before ++ xs) ys → AreNew before (xs ++ ys)
new_both before [] ys h k = subst (λ l. AreNew l ys) (append-nil before) k
new_both before (x ∷ xs) ys h k = (h.0, new_both (before ++ x ∷ []) xs ys h.1 (subst (λ l. AreNew l ys) (sym (append_assoc before (x ∷ []) xs)) k))

distinct_new : (before ns : List (List ℕ)) → AreNew before ns → Distinct ns × ((n : List ℕ) → is_in n before ≡ true → is_in n ns ≡ false)
distinct_new before [] h = (tt, λ n e. refl)
distinct_new before (x ∷ xs) h =
    let r = distinct_new (before ++ x ∷ []) xs h.1 in
    ((r.1 x (in_right x before (x ∷ []) (or_left (bytes_eq x x) false (itself x))), r.0), λ n e. both_false (bytes_eq x n) (is_in n xs) (differs n e (bytes_eq x n) refl) (r.1 n (in_left n before (x ∷ []) e)))
  where
    differs : (n : List ℕ) → is_in n before ≡ true → (b : Bool) → bytes_eq x n ≡ b → bytes_eq x n ≡ false
    differs n e true f = let g = subst (λ z. is_in z before ≡ false) (same_name x n f) h.0 in absurd (cc)
    differs n e false f = f

-- a name that a node declares isn't forbidden
allowed_name : (before : List (List ℕ)) (n : List ℕ) (at : ℕ) → declares before n at ≡ [] → is_forbidden n ≡ false
allowed_name before n at h = let p = both_none (need (not (is_in n before)) NameTaken at) (need (not (is_forbidden n)) ForbiddenName at) h in not_true (is_forbidden n) (needed (not (is_forbidden n)) ForbiddenName at p.1)

new_there : (before : List (List ℕ)) (n : List ℕ) (at : ℕ) → declares before n at ≡ [] → is_in n before ≡ false
new_there before n at h = let p = both_none (need (not (is_in n before)) NameTaken at) (need (not (is_forbidden n)) ForbiddenName at) h in not_true (is_in n before) (needed (not (is_in n before)) NameTaken at p.0)

abbrev pub AllAllowed : List (List ℕ) → Type 0
AllAllowed ns = AllByRecursion (λ n. is_forbidden n ≡ false) ns

none_forbidden : (ns : List (List ℕ)) → any_forbidden ns ≡ false → AllAllowed ns
none_forbidden [] h = tt
none_forbidden (n ∷ ns) h = let p = either_false (is_forbidden n) (any_forbidden ns) h in (p.0, none_forbidden ns p.1)

all_are_new : (before ns : List (List ℕ)) → all_new before ns ≡ true → AreNew before ns
all_are_new before [] h = tt
all_are_new before (n ∷ ns) h = let p = and_parts _ _ h in (not_true (is_in n before) p.0, all_are_new (before ++ n ∷ []) ns p.1)

forbidden_parts : (xs ys : List (List ℕ)) → any_forbidden (xs ++ ys) ≡ false → (any_forbidden xs ≡ false) × (any_forbidden ys ≡ false)
forbidden_parts [] ys h = (refl, h)
forbidden_parts (x ∷ xs) ys h = let p = either_false (is_forbidden x) (any_forbidden (xs ++ ys)) h in let r = forbidden_parts xs ys p.1 in let a = p.0 in let b = r.0 in (rw (a, b) refl, r.1)

-- ---- globals

-- the names that a first value names are parameters of the module
abbrev pub OfParams : Module → Init → Type 0
OfParams m (foreign_int f p) = is_in f m.params ≡ true
OfParams m (foreign_double f p) = is_in f m.params ≡ true
OfParams m (member f p) = is_in f m.params ≡ true
OfParams m (math f p) = is_in f m.params ≡ true
OfParams m (view f p h) = (is_in f m.params ≡ true) × (is_in h m.params ≡ true)
OfParams m _ = Unit {0}

nth_in : (ns : List (List ℕ)) (k : ℕ) (n : List ℕ) → is_name n (nth ns k) ≡ true → is_in n ns ≡ true
nth_in [] k n h = h
nth_in (x ∷ xs) zero n h = or_left (bytes_eq x n) (is_in n xs) h
nth_in (x ∷ xs) (suc k) n h = or_right (bytes_eq x n) (is_in n xs) (nth_in xs k n h)

right_are_params : (m : Module) (i : Init) → right_parameters m i ≡ true → OfParams m i
right_are_params m (number z) h = tt
right_are_params m (decimal bs) h = tt
right_are_params m (foreign_int f p) h = nth_in m.params 1 f h
right_are_params m (foreign_double f p) h = nth_in m.params 1 f h
right_are_params m (member f p) h = by (or_true (is_stdlib m f) (is_foreign m f) h)
  where
    by : (is_stdlib m f ≡ true) ⊎ (is_foreign m f ≡ true) → is_in f m.params ≡ true
    by (inl e) = nth_in m.params 0 f e
    by (inr e) = nth_in m.params 1 f e
right_are_params m (math f p) h = nth_in m.params 0 f h
right_are_params m (view f p b) h = let q = and_parts _ _ h in (nth_in m.params 0 f q.0, nth_in m.params 2 b q.1)

init_right : (m : Module) (i : Init) (at : ℕ) → init_rows m i at ≡ [] → right_parameters m i ≡ true
init_right m i at h = by (knows_all m i) h
  where
    by : (b : Bool) → (if b then need (right_parameters m i) WrongKind at else need false UnknownName at) ≡ [] → right_parameters m i ≡ true
    by true h = needed (right_parameters m i) WrongKind at h
    by false h = absurd (cc h)

globals_say : (m : Module) (before : List (List ℕ)) (is : Imports) (vs : List Variable) (at : ℕ) → globals_names m before is vs at ≡ []
    → AreNew before (map (λ (v : Variable). v.name) vs) × AllByRecursion (λ (v : Variable). OfParams m v.init) vs × AllAllowed (map (λ (v : Variable). v.name) vs)
globals_say m before is [] at h = (tt, tt, tt)
globals_say m before is (v ∷ vs) at h =
    let p = both_none (global_names m before is v at) (globals_names m (before ++ v.name ∷ []) (with_import m v.init is) vs (at + 1)) h in
    let taken = need (not (is_in v.name before || clashes m is v.init)) NameTaken at in
    let forbidden = need (not (is_forbidden v.name || has_forbidden_member m v.init)) ForbiddenName at in
    let q = both_none taken (forbidden ++ init_rows m v.init at) p.0 in
    let r = both_none forbidden (init_rows m v.init at) q.1 in
    let new = not_true (is_in v.name before || clashes m is v.init) (needed (not (is_in v.name before || clashes m is v.init)) NameTaken at q.0) in
    let rest = globals_say m (before ++ v.name ∷ []) (with_import m v.init is) vs (at + 1) p.1 in
    let allowed = not_true (is_forbidden v.name || has_forbidden_member m v.init) (needed (not (is_forbidden v.name || has_forbidden_member m v.init)) ForbiddenName at r.0) in
    (((either_false (is_in v.name before) (clashes m is v.init) new).0, rest.0), (right_are_params m v.init (init_right m v.init at r.1), rest.1), ((either_false (is_forbidden v.name) (has_forbidden_member m v.init) allowed).0, rest.2))

-- ---- what code uses

-- a name means what its use asks for
abbrev pub UseFits : Scope → Use → Type 0
UseFits c (of_variable n) = (is_declared (named c n) ≡ true) × (as_variable (named c n) ≡ true)
UseFits c (of_view n) = (is_declared (named c n) ≡ true) × (as_view (named c n) ≡ true)
UseFits c (of_callee n) = (is_declared (named c n) ≡ true) × (as_callee (named c n) ≡ true)
UseFits c (of_table n) = (is_declared (named c n) ≡ true) × (as_table (named c n) ≡ true)

used : (m : Meaning) (b : Bool) (at : ℕ) → uses m b at ≡ [] → (is_declared m ≡ true) × (b ≡ true)
used m b at h = by (is_declared m) h
  where
    by : (d : Bool) → (if d then need b WrongKind at else need false UnknownName at) ≡ [] → (d ≡ true) × (b ≡ true)
    by true h = (refl, needed b WrongKind at h)
    by false h = absurd (cc h)

module _ (c : Scope) where
  mutual
    expr_fits : (e : Expr) (at : ℕ) → expr_names c at e ≡ [] → AllByRecursion (UseFits c) (expr_uses e)
    expr_fits (lit z) at h = tt
    expr_fits (decimal_expr bs) at h = tt
    expr_fits (var n) at h = (used (named c n) (as_variable (named c n)) at h, tt)
    expr_fits (index n i) at h = let p = both_none (expr_names c (at + 1) i) _ h in (used (named c n) (as_view (named c n)) at p.1, expr_fits i (at + 1) p.0)
    expr_fits (call n es) at h = let p = both_none (exprs_names c (at + 1) es) _ h in (used (named c n) (as_callee (named c n)) at p.1, exprs_fit es (at + 1) p.0)
    expr_fits (table_call n i es) at h =
        let p = both_none (expr_names c (at + 1) i) (exprs_names c (at + 1 + expr_count i) es ++ uses (named c n) (as_table (named c n)) at) h in
        let q = both_none (exprs_names c (at + 1 + expr_count i) es) _ p.1 in
        (used (named c n) (as_table (named c n)) at q.1, all_append (UseFits c) (expr_uses i) (exprs_uses es) (expr_fits i (at + 1) p.0) (exprs_fit es (at + 1 + expr_count i) q.0))
    expr_fits (assign n e) at h = let p = both_none (expr_names c (at + 1) e) _ h in (used (named c n) (as_variable (named c n)) at p.1, expr_fits e (at + 1) p.0)
    expr_fits (store n i e) at h =
        let p = both_none (expr_names c (at + 1) i) (expr_names c (at + 1 + expr_count i) e ++ uses (named c n) (as_view (named c n)) at) h in
        let q = both_none (expr_names c (at + 1 + expr_count i) e) _ p.1 in
        (used (named c n) (as_view (named c n)) at q.1, all_append (UseFits c) (expr_uses i) (expr_uses e) (expr_fits i (at + 1) p.0) (expr_fits e (at + 1 + expr_count i) q.0))
    expr_fits (unary op e) at h = expr_fits e (at + 1) h
    expr_fits (binary op l r) at h = let p = both_none (expr_names c (at + 1) l) (expr_names c (at + 1 + expr_count l) r) h in all_append (UseFits c) (expr_uses l) (expr_uses r) (expr_fits l (at + 1) p.0) (expr_fits r (at + 1 + expr_count l) p.1)
    expr_fits (chain e ls) at h = let p = both_none (expr_names c (at + 1) e) (links_names c (at + 1 + expr_count e) ls) h in all_append (UseFits c) (expr_uses e) (links_uses ls) (expr_fits e (at + 1) p.0) (links_fit ls (at + 1 + expr_count e) p.1)
    expr_fits (cond e a b) at h =
        let p = both_none (expr_names c (at + 1) e) (expr_names c (at + 1 + expr_count e) a ++ expr_names c (at + 1 + expr_count e + expr_count a) b) h in
        let q = both_none (expr_names c (at + 1 + expr_count e) a) (expr_names c (at + 1 + expr_count e + expr_count a) b) p.1 in
        all_append (UseFits c) (expr_uses e) (expr_uses a ++ expr_uses b) (expr_fits e (at + 1) p.0) (all_append (UseFits c) (expr_uses a) (expr_uses b) (expr_fits a (at + 1 + expr_count e) q.0) (expr_fits b (at + 1 + expr_count e + expr_count a) q.1))
    expr_fits (comma es) at h = exprs_fit es (at + 1) h

    exprs_fit : (es : Exprs) (at : ℕ) → exprs_names c at es ≡ [] → AllByRecursion (UseFits c) (exprs_uses es)
    exprs_fit no_exprs at h = tt
    exprs_fit (exprs e es) at h = let p = both_none (expr_names c at e) (exprs_names c (at + expr_count e) es) h in all_append (UseFits c) (expr_uses e) (exprs_uses es) (expr_fits e at p.0) (exprs_fit es (at + expr_count e) p.1)

    links_fit : (ls : Links) (at : ℕ) → links_names c at ls ≡ [] → AllByRecursion (UseFits c) (links_uses ls)
    links_fit no_links at h = tt
    links_fit (links minus e ls) at h = let p = both_none (expr_names c at e) (links_names c (at + expr_count e) ls) h in all_append (UseFits c) (expr_uses e) (links_uses ls) (expr_fits e at p.0) (links_fit ls (at + expr_count e) p.1)

  option_fits : (o : Option Expr) (at : ℕ) → option_names c at o ≡ [] → AllByRecursion (UseFits c) (option_uses o)
  option_fits None at h = tt
  option_fits (Some e) at h = expr_fits e at h

  mutual
    stmt_fits : (s : Stmt) (at : ℕ) → stmt_names c at s ≡ [] → AllByRecursion (UseFits c) (stmt_uses s)
    stmt_fits (block ss) at h = stmts_fit ss (at + 1) h
    stmt_fits (plain e) at h = expr_fits e (at + 1) h
    stmt_fits empty at h = tt
    stmt_fits (if_only e s) at h = let p = both_none (expr_names c (at + 1) e) (stmt_names c (at + 1 + expr_count e) s) h in all_append (UseFits c) (expr_uses e) (stmt_uses s) (expr_fits e (at + 1) p.0) (stmt_fits s (at + 1 + expr_count e) p.1)
    stmt_fits (if_else e s r) at h =
        let p = both_none (expr_names c (at + 1) e) (stmt_names c (at + 1 + expr_count e) s ++ stmt_names c (at + 1 + expr_count e + stmt_count s) r) h in
        let q = both_none (stmt_names c (at + 1 + expr_count e) s) (stmt_names c (at + 1 + expr_count e + stmt_count s) r) p.1 in
        all_append (UseFits c) (expr_uses e) (stmt_uses s ++ stmt_uses r) (expr_fits e (at + 1) p.0) (all_append (UseFits c) (stmt_uses s) (stmt_uses r) (stmt_fits s (at + 1 + expr_count e) q.0) (stmt_fits r (at + 1 + expr_count e + stmt_count s) q.1))
    stmt_fits (returns o) at h = option_fits o (at + 1) h
    stmt_fits (while_loop e s) at h = let p = both_none (expr_names c (at + 1) e) (stmt_names c (at + 1 + expr_count e) s) h in all_append (UseFits c) (expr_uses e) (stmt_uses s) (expr_fits e (at + 1) p.0) (stmt_fits s (at + 1 + expr_count e) p.1)
    stmt_fits (do_while s e) at h = let p = both_none (stmt_names c (at + 1) s) (expr_names c (at + 1 + stmt_count s) e) h in all_append (UseFits c) (stmt_uses s) (expr_uses e) (stmt_fits s (at + 1) p.0) (expr_fits e (at + 1 + stmt_count s) p.1)
    stmt_fits (for_loop x y z s) at h =
        let end = stmt_names c (at + 1 + option_count x + option_count y + option_count z) s in
        let p = both_none (option_names c (at + 1) x) (option_names c (at + 1 + option_count x) y ++ (option_names c (at + 1 + option_count x + option_count y) z ++ end)) h in
        let q = both_none (option_names c (at + 1 + option_count x) y) (option_names c (at + 1 + option_count x + option_count y) z ++ end) p.1 in
        let r = both_none (option_names c (at + 1 + option_count x + option_count y) z) end q.1 in
        all_append (UseFits c) (option_uses x) (option_uses y ++ (option_uses z ++ stmt_uses s)) (option_fits x (at + 1) p.0)
        (all_append (UseFits c) (option_uses y) (option_uses z ++ stmt_uses s) (option_fits y (at + 1 + option_count x) q.0)
        (all_append (UseFits c) (option_uses z) (stmt_uses s) (option_fits z (at + 1 + option_count x + option_count y) r.0) (stmt_fits s (at + 1 + option_count x + option_count y + option_count z) r.1)))
    stmt_fits (breaks l) at h = tt
    stmt_fits (continues l) at h = tt
    stmt_fits (labelled ls s) at h = stmt_fits s (at + 1) h
    stmt_fits (switches e cs) at h = let p = both_none (expr_names c (at + 1) e) (clauses_names c (at + 1 + expr_count e) cs) h in all_append (UseFits c) (expr_uses e) (clauses_uses cs) (expr_fits e (at + 1) p.0) (clauses_fit cs (at + 1 + expr_count e) p.1)

    stmts_fit : (ss : Stmts) (at : ℕ) → stmts_names c at ss ≡ [] → AllByRecursion (UseFits c) (stmts_uses ss)
    stmts_fit no_stmts at h = tt
    stmts_fit (stmts s ss) at h = let p = both_none (stmt_names c at s) (stmts_names c (at + stmt_count s) ss) h in all_append (UseFits c) (stmt_uses s) (stmts_uses ss) (stmt_fits s at p.0) (stmts_fit ss (at + stmt_count s) p.1)

    clauses_fit : (cs : Clauses) (at : ℕ) → clauses_names c at cs ≡ [] → AllByRecursion (UseFits c) (clauses_uses cs)
    clauses_fit no_clauses at h = tt
    clauses_fit (clauses v ss cs) at h = let p = both_none (stmts_names c at ss) (clauses_names c (at + stmts_count ss) cs) h in all_append (UseFits c) (stmts_uses ss) (clauses_uses cs) (stmts_fit ss at p.0) (clauses_fit cs (at + stmts_count ss) p.1)

-- ---- functions

abbrev pub BodyFits : Module → Function → Type 0
BodyFits m f = AllByRecursion (UseFits (scope_of m f)) (stmts_uses f.body)

params_new : (before : List (List ℕ)) (ps : List Param) (at : ℕ) → params_names before ps at ≡ [] → AreNew before (map (λ (p : Param). p.name) ps)
params_new before [] at h = tt
params_new before (p ∷ ps) at h = let q = both_none (declares before p.name at) (params_names (before ++ p.name ∷ []) ps (at + 1)) h in (new_there before p.name at q.0, params_new (before ++ p.name ∷ []) ps (at + 1) q.1)

locals_new : (before : List (List ℕ)) (vs : List Variable) (at : ℕ) → locals_names before vs at ≡ [] → AreNew before (map (λ (v : Variable). v.name) vs)
locals_new before [] at h = tt
locals_new before (v ∷ vs) at h = let q = both_none (declares before v.name at) (locals_names (before ++ v.name ∷ []) vs (at + 1)) h in (new_there before v.name at q.0, locals_new (before ++ v.name ∷ []) vs (at + 1) q.1)

abbrev pub LocalsDiffer : Function → Type 0
LocalsDiffer f = Distinct (local_names f)

functions_say : (m : Module) (before : List (List ℕ)) (fs : List Function) (at : ℕ) → functions_names m before fs at ≡ []
    → AreNew before (map (λ (f : Function). f.name) fs) × AllByRecursion (BodyFits m) fs × AllAllowed (map (λ (f : Function). f.name) fs) × AllByRecursion LocalsDiffer fs
functions_say m before [] at h = (tt, tt, tt, tt)
functions_say m before (f ∷ fs) at h =
    let p = both_none (function_names m before f at) (functions_names m (before ++ f.name ∷ []) fs (at + function_count f)) h in
    let code = stmts_names (scope_of m f) (body_at f at) f.body in
    let locals = locals_names (param_texts f.params) f.locals (at + 1 + length f.params) in
    let params = params_names [] f.params (at + 1) in
    let q = both_none (declares before f.name at) (params ++ (locals ++ code)) p.0 in
    let r = both_none params (locals ++ code) q.1 in
    let s = both_none locals code r.1 in
    let rest = functions_say m (before ++ f.name ∷ []) fs (at + function_count f) p.1 in
    let names = new_both [] (param_texts f.params) (map (λ (v : Variable). v.name) f.locals) (params_new [] f.params (at + 1) r.0) (locals_new (param_texts f.params) f.locals (at + 1 + length f.params) s.0) in
    ((new_there before f.name at q.0, rest.0), (stmts_fit (scope_of m f) f.body (body_at f at) s.1, rest.1), (allowed_name before f.name at q.0, rest.2), ((distinct_new [] (local_names f) names).0, rest.3))

-- ---- tables and exports

functions_used : (m : Module) (ns : List (List ℕ)) (at : ℕ) → function_uses m ns at ≡ [] → all_functions m ns ≡ true
functions_used m ns at h = by (all_known m ns) h
  where
    by : (b : Bool) → (if b then need (all_functions m ns) WrongKind at else need false UnknownName at) ≡ [] → all_functions m ns ≡ true
    by true h = needed (all_functions m ns) WrongKind at h
    by false h = absurd (cc h)

abbrev pub MembersMean : Module → Table → Type 0
MembersMean m t = all_functions m t.members ≡ true

tables_say : (m : Module) (before : List (List ℕ)) (ts : List Table) (at : ℕ) → tables_names m before ts at ≡ [] → AreNew before (map (λ (t : Table). t.name) ts) × AllByRecursion (MembersMean m) ts × AllAllowed (map (λ (t : Table). t.name) ts)
tables_say m before [] at h = (tt, tt, tt)
tables_say m before (t ∷ ts) at h =
    let rows = tables_names m (before ++ t.name ∷ []) ts (at + 1) in
    let p = both_none (declares before t.name at) (function_uses m t.members at ++ rows) h in
    let q = both_none (function_uses m t.members at) rows p.1 in
    let rest = tables_say m (before ++ t.name ∷ []) ts (at + 1) q.1 in
    ((new_there before t.name at p.0, rest.0), (functions_used m t.members at q.0, rest.1), (allowed_name before t.name at p.0, rest.2))

abbrev pub export_functions : Exports → List (List ℕ)
export_functions (one f) = f ∷ []
export_functions (many es) = map (λ (e : Export). e.function) es

abbrev pub MeansFunction : Module → List ℕ → Type 0
MeansFunction m n = is_function (module_meaning m n) ≡ true

keys_say : (m : Module) (before : List (List ℕ)) (es : List Export) (at : ℕ) → keys_names m before es at ≡ [] → AllByRecursion (MeansFunction m) (map (λ (e : Export). e.function) es)
keys_say m before [] at h = tt
keys_say m before (e ∷ es) at h =
    let rows = keys_names m (before ++ e.key ∷ []) es (at + 1) in
    let p = both_none (declares_key before e.key at) (function_uses m (e.function ∷ []) at ++ rows) h in
    let q = both_none (function_uses m (e.function ∷ []) at) rows p.1 in
    ((and_parts _ _ (functions_used m (e.function ∷ []) at q.0)).0, keys_say m (before ++ e.key ∷ []) es (at + 1) q.1)

exports_say : (m : Module) (x : Exports) (at : ℕ) → exports_names m x at ≡ [] → AllByRecursion (MeansFunction m) (export_functions x)
exports_say m (one f) at h = ((and_parts _ _ (functions_used m (f ∷ []) at h)).0, tt)
exports_say m (many es) at h = keys_say m [] es at h

-- ---- the module

pub record Says (m : Module) : Type 0 where
  pub distinct : Distinct (declared_names m)
  pub inits : AllByRecursion (λ (v : Variable). OfParams m v.init) m.globals
  pub bodies : AllByRecursion (BodyFits m) m.functions
  pub members : AllByRecursion (MembersMean m) m.tables
  pub exports : AllByRecursion (MeansFunction m) (export_functions m.exports)
  pub allowed : AllAllowed (declared_names m)
  pub own : any_forbidden (own_name m.name) ≡ false
  pub locals : AllByRecursion LocalsDiffer m.functions
  pub global_rows : globals_names m m.params (record { values = []; functions = [] }) m.globals 1 ≡ []
  pub export_rows : exports_names m m.exports (exports_at m) ≡ []
  pub typed : module_typed m ≡ true
  pub limits : limit_rows m ≡ []

pub accepted_says : (m : Module) → IsAccepted m → Says m
accepted_says m h =
    let all = both_none (name_rows m) (type_rows m ++ limit_rows m) ((first_none (all_rows m)).0 h) in
    let later = both_none (type_rows m) (limit_rows m) all.1 in
    let params = need (all_new [] m.params) NameTaken 0 in
    let forbidden = need (not (any_forbidden (own_name m.name ++ m.params))) ForbiddenName 0 in
    let globals = globals_names m m.params (record { values = []; functions = [] }) m.globals 1 in
    let functions = functions_names m (m.params ++ global_texts m) m.functions (functions_at m) in
    let tables = tables_names m (m.params ++ (global_texts m ++ function_texts m)) m.tables (tables_at m) in
    let exports = exports_names m m.exports (exports_at m) in
    let a = both_none params (forbidden ++ (globals ++ (functions ++ (tables ++ exports)))) all.0 in
    let b = both_none forbidden (globals ++ (functions ++ (tables ++ exports))) a.1 in
    let c = both_none globals (functions ++ (tables ++ exports)) b.1 in
    let d = both_none functions (tables ++ exports) c.1 in
    let e = both_none tables exports d.1 in
    let new_params = all_are_new [] m.params (needed (all_new [] m.params) NameTaken 0 a.0) in
    let new_globals = globals_say m m.params (record { values = []; functions = [] }) m.globals 1 c.0 in
    let new_functions = functions_say m (m.params ++ global_texts m) m.functions (functions_at m) d.0 in
    let new_tables = tables_say m (m.params ++ (global_texts m ++ function_texts m)) m.tables (tables_at m) e.0 in
    let table_texts = map (λ (t : Table). t.name) m.tables in
    let P = λ (n : List ℕ). is_forbidden n ≡ false in
    let own_and_params = forbidden_parts (own_name m.name) m.params (not_true (any_forbidden (own_name m.name ++ m.params)) (needed (not (any_forbidden (own_name m.name ++ m.params))) ForbiddenName 0 b.0)) in
    let behind = new_both (m.params ++ global_texts m) (function_texts m) table_texts new_functions.0 (subst (λ l. AreNew l table_texts) (sym (append_assoc m.params (global_texts m) (function_texts m))) new_tables.0) in
    let whole = new_both [] m.params (global_texts m ++ (function_texts m ++ table_texts)) new_params (new_both m.params (global_texts m) (function_texts m ++ table_texts) new_globals.0 behind) in
    record {
      distinct = (distinct_new [] (declared_names m) whole).0;
      inits = new_globals.1;
      bodies = new_functions.1;
      members = new_tables.1;
      exports = exports_say m m.exports (exports_at m) e.1;
      allowed = all_append P m.params _ (none_forbidden m.params own_and_params.1) (all_append P (global_texts m) _ new_globals.2 (all_append P (function_texts m) table_texts new_functions.2 new_tables.2));
      own = own_and_params.0;
      locals = new_functions.3;
      global_rows = c.0;
      export_rows = e.1;
      typed = (iff (type_rows m) (module_typed m) (module_agrees m)).0 later.0;
      limits = later.1;
    }
