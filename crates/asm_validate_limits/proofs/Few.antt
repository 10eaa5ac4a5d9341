-- A module within the limits has few functions, each with few parameters.
use Rattle.std.proofs.Common.{◌≡◌, ℕ, zero, suc, ◌+◌, ◌<◌, ◌≤◌, Bool, true, false, List, [], ◌∷◌, ◌++◌, length, Some, refl, sym, ◌∙◌, subst, arith}
use Rattle.std.proofs.lemmas.Bool.Decides.{nat_tests}
use Rattle.std.specs.Prelude.{slice_get, nat_lt}
use Rattle.asm_lang.specs.Modules.{Function, Module}
use Rattle.asm_lang_valid.specs.declared.rule.Rule.TheVariants.{PastLimit}
use Rattle.asm_lang_valid.specs.declared.rule.Met.{Met}
use Rattle.asm_lang_valid.specs.Rows.{need, functions_at, tables_at, body_at, function_count}
use Rattle.asm_lang_valid.specs.LimitRows.{Mark, ForeignCall, rows_of, counted, names_marks, function_marks, functions_marks, globals_marks, tables_marks, stmts_marks, rows_after, distinct_after, limit_rows, most_functions, most_params, most_locals}
use Rattle.asm_validate_limits.proofs.Passes.{rows-append}

both_none : (xs ys : List Met) → xs ++ ys ≡ [] → (xs ≡ []) × (ys ≡ [])
both_none [] ys h = (refl, h)
both_none (x ∷ xs) ys h = cc

split : (s : List ForeignCall) (ms ns : List Mark) → rows_after s (ms ++ ns) ≡ [] → (rows_after s ms ≡ []) × (rows_after (distinct_after s ms) ns ≡ [])
split s ms ns h = both_none (rows_after s ms) (rows_after (distinct_after s ms) ns) (sym (rows-append s ms ns) ∙ h)

held : (s : List ForeignCall) (b : Bool) (at : ℕ) → rows_after s (rows_of (need b PastLimit at)) ≡ [] → b ≡ true
held s true at h = refl
held s false at h = cc

below : (s : List ForeignCall) (before limit at : ℕ) → rows_after s (counted before limit at) ≡ [] → before < limit
below s before limit at h =
    let e : nat_lt before limit ≡ true = held s (nat_lt before limit) at h in
    grind (arith, nat_tests)

few_names : {A : Type 0} (s : List ForeignCall) (xs : List A) (before limit at : ℕ) → before ≤ limit → rows_after s (names_marks before limit at xs) ≡ [] → before + length xs ≤ limit
few_names s [] before limit at le h = omega arith
few_names s (x ∷ xs) before limit at le h =
    let parts = split s (counted before limit at) (names_marks (before + 1) limit (at + 1) xs) h in
    let here : before < limit = below s before limit at parts.0 in
    let next : before + 1 ≤ limit = omega arith in
    let rest : before + 1 + length xs ≤ limit = few_names (distinct_after s (counted before limit at)) xs (before + 1) limit (at + 1) next parts.1 in
    omega arith

function_few : (m : Module) (s : List ForeignCall) (before at : ℕ) (f : Function) → rows_after s (function_marks m before at f) ≡ [] → (before < most_functions) × (length f.params ≤ most_params)
function_few m s before at f h =
    let body = stmts_marks (record { home = m; within = f }) (body_at f at) f.body in
    let parts = split s (counted before most_functions at) (names_marks 0 most_params (at + 1) f.params ++ (names_marks (length f.params) most_locals (at + 1 + length f.params) f.locals ++ body)) h in
    let t = distinct_after s (counted before most_functions at) in
    let names = split t (names_marks 0 most_params (at + 1) f.params) (names_marks (length f.params) most_locals (at + 1 + length f.params) f.locals ++ body) parts.1 in
    let least : 0 ≤ most_params = omega arith in
    let few : 0 + length f.params ≤ most_params = few_names t f.params 0 most_params (at + 1) least names.0 in
    (below s before most_functions at parts.0, omega arith)

functions_few : (m : Module) (s : List ForeignCall) (fs : List Function) (before at : ℕ) → before ≤ most_functions → rows_after s (functions_marks m before at fs) ≡ [] → before + length fs ≤ most_functions
functions_few m s [] before at le h = omega arith
functions_few m s (f ∷ fs) before at le h =
    let parts = split s (function_marks m before at f) (functions_marks m (before + 1) (at + function_count f) fs) h in
    let here = function_few m s before at f parts.0 in
    let below : before < most_functions = here.0 in
    let next : before + 1 ≤ most_functions = omega arith in
    let rest : before + 1 + length fs ≤ most_functions = functions_few m (distinct_after s (function_marks m before at f)) fs (before + 1) (at + function_count f) next parts.1 in
    omega arith

each_few : (m : Module) (s : List ForeignCall) (fs : List Function) (i before at : ℕ) (f : Function) → rows_after s (functions_marks m before at fs) ≡ [] → slice_get fs i ≡ Some f → length f.params ≤ most_params
each_few m s [] i before at f h is = cc
each_few m s (g ∷ fs) zero before at f h is =
    let parts = split s (function_marks m before at g) (functions_marks m (before + 1) (at + function_count g) fs) h in
    let few = (function_few m s before at g parts.0).1 in
    let same : g ≡ f = cc in
    subst (λ (x : Function). length x.params ≤ most_params) same few
each_few m s (g ∷ fs) (suc i) before at f h is =
    let parts = split s (function_marks m before at g) (functions_marks m (before + 1) (at + function_count g) fs) h in
    each_few m (distinct_after s (function_marks m before at g)) fs i (before + 1) (at + function_count g) f parts.1 is

-- the functions' marks of a module within the limits have no rows
record Free (m : Module) : Type 0 where
  seen : List ForeignCall
  none : rows_after seen (functions_marks m 0 (functions_at m) m.functions) ≡ []

free : (m : Module) → limit_rows m ≡ [] → Free m
free m h =
    let globals = globals_marks m 0 1 m.globals in
    let functions = functions_marks m 0 (functions_at m) m.functions in
    let tables = tables_marks 0 (tables_at m) m.tables in
    record { seen = distinct_after [] globals; none = (split (distinct_after [] globals) functions tables (split [] globals (functions ++ tables) h).1).0 }

pub few_functions : (m : Module) → limit_rows m ≡ [] → length m.functions ≤ most_functions
few_functions m h =
    let f = free m h in
    let least : 0 ≤ most_functions = omega arith in
    let few : 0 + length m.functions ≤ most_functions = functions_few m f.seen m.functions 0 (functions_at m) least f.none in
    omega arith

pub few_params : (m : Module) (i : ℕ) (f : Function) → limit_rows m ≡ [] → slice_get m.functions i ≡ Some f → length f.params ≤ most_params
few_params m i f h is = let x = free m h in each_few m x.seen m.functions i 0 (functions_at m) f x.none is
