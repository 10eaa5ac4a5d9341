-- What the rows of limits say of an accepted module.
use Rattle.std.proofs.Common.{◌≡◌, ℕ, zero, suc, ◌+◌, ◌<◌, ◌≤◌, Bool, true, false, List, [], ◌∷◌, ◌++◌, length, Some, None, refl, subst, arith, length-append}
use Rattle.std.proofs.lemmas.Bool.Decides.{nat_tests}
use Rattle.std.proofs.lemmas.List.Elements.{All-from_recursion}
use Rattle.std.specs.Prelude.{nat_lt, nat_le, slice_get, ◌&&◌, if◌then◌else◌}
use Rattle.std.specs.List.{AllByRecursion}
use Rattle.asm_lang.specs.Trees.{Init, number, decimal, foreign_int, foreign_double, member, math, view}
use Rattle.asm_lang.specs.Modules.{Variable, Function, Table, Module}
use Rattle.asm_lang_valid.specs.declared.rule.Rule.TheVariants.{PastLimit}
use Rattle.asm_lang_valid.specs.declared.rule.Met.{Met}
use Rattle.asm_lang_valid.specs.Scope.{is_in, init_meaning}
use Rattle.asm_lang_valid.specs.Typing.{named}
use Rattle.asm_lang_valid.specs.Typed.{scope_of}
use Rattle.asm_lang_valid.specs.Rows.{need, first, functions_at, tables_at, body_at, function_count}
use Rattle.asm_lang_valid.specs.NameRows.{name_rows}
use Rattle.asm_lang_valid.specs.TypeRows.{type_rows}
use Rattle.asm_lang_valid.specs.LimitRows.{ForeignCall, Mark, rows_of, is_among, counted, member_length, globals_marks, names_marks, stmts_marks, function_marks, functions_marks, tables_marks, marks, limit_rows, foreign_calls, most_functions, most_params, most_locals, most_globals, most_members, most_entries, longest_name}
use Rattle.asm_lang_valid.specs.Refusal.{IsAccepted, with_global, global_imports, foreign_globals}
use Rattle.asm2wasm_laws_within.specs.Uses.{AllUses}
use Rattle.asm2wasm_laws_within.specs.Within.{members, FunctionIsWithin, CallIsWithin}
use Rattle.asm2wasm_laws_within.specs.Laws.{AcceptedAreWithin, ForeignNamesAreShort, UsesAreListed}
use Rattle.asm2wasm_laws_within.proofs.Marks.{NoRows, rows_split, rows_none, few_calls, held, uses_split, distinct_all, all_listed}
use Rattle.asm2wasm_laws_within.proofs.Names.{named_holds, ForeignIsShort, foreign_plainly, init_short}
use Rattle.asm2wasm_laws_within.proofs.Uses.{Fine, fine_join, fine_row, fine_stmts}

-- ---- counts

below : (before limit at : ℕ) → NoRows (counted before limit at) → before < limit
below before limit at h = let e : nat_lt before limit ≡ true = held (nat_lt before limit) at h in grind (arith, nat_tests)

names_few : {A : Type 0} (xs : List A) (before limit at : ℕ) → before ≤ limit → NoRows (names_marks before limit at xs) → before + length xs ≤ limit
names_few [] before limit at le h = omega arith
names_few (x ∷ xs) before limit at le h =
    let parts = rows_split (counted before limit at) (names_marks (before + 1) limit (at + 1) xs) h in
    let here = below before limit at parts.0 in
    let rest = names_few xs (before + 1) limit (at + 1) (omega arith) parts.1 in
    omega arith

fine_names : {A : Type 0} (xs : List A) (before limit at : ℕ) → Fine (names_marks before limit at xs)
fine_names [] before limit at = λ h. tt
fine_names (x ∷ xs) before limit at = fine_join (counted before limit at) (names_marks (before + 1) limit (at + 1) xs) (fine_row (nat_lt before limit) at) (fine_names xs (before + 1) limit (at + 1))

-- ---- functions

abbrev body_marks : Module → ℕ → Function → List Mark
body_marks m at f = stmts_marks (scope_of m f) (body_at f at) f.body

abbrev local_marks : Module → ℕ → Function → List Mark
local_marks m at f = names_marks (length f.params) most_locals (at + 1 + length f.params) f.locals ++ body_marks m at f

abbrev heading_marks : Module → ℕ → Function → List Mark
heading_marks m at f = names_marks 0 most_params (at + 1) f.params ++ local_marks m at f

function_within : (m : Module) (before at : ℕ) (f : Function) → NoRows (function_marks m before at f) → (before < most_functions) × FunctionIsWithin f
function_within m before at f h =
    let all = rows_split (counted before most_functions at) (heading_marks m at f) h in
    let named = rows_split (names_marks 0 most_params (at + 1) f.params) (local_marks m at f) all.1 in
    let locals = rows_split (names_marks (length f.params) most_locals (at + 1 + length f.params) f.locals) (body_marks m at f) named.1 in
    let few : 0 + length f.params ≤ most_params = names_few f.params 0 most_params (at + 1) (omega arith) named.0 in
    let params : length f.params ≤ most_params = omega arith in
    (below before most_functions at all.0, record { params = params; locals = names_few f.locals (length f.params) most_locals (at + 1 + length f.params) (omega arith) locals.0 })

functions_within : (m : Module) (fs : List Function) (before at : ℕ) → before ≤ most_functions → NoRows (functions_marks m before at fs) → (before + length fs ≤ most_functions) × AllByRecursion FunctionIsWithin fs
functions_within m [] before at le h = (omega arith, tt)
functions_within m (f ∷ fs) before at le h =
    let parts = rows_split (function_marks m before at f) (functions_marks m (before + 1) (at + function_count f) fs) h in
    let here = function_within m before at f parts.0 in
    let rest = functions_within m fs (before + 1) (at + function_count f) (let lt = here.0 in omega arith) parts.1 in
    ((let few = rest.0 in omega arith), (here.1, rest.1))

module _ (m : Module) (short : (f : Function) (n : List ℕ) → ForeignIsShort (named (scope_of m f) n)) where
  fine_functions : (fs : List Function) (before at : ℕ) → Fine (functions_marks m before at fs)
  fine_functions [] before at = λ h. tt
  fine_functions (f ∷ fs) before at =
      fine_join (function_marks m before at f) (functions_marks m (before + 1) (at + function_count f) fs)
      (fine_join (counted before most_functions at) (heading_marks m at f) (fine_row (nat_lt before most_functions) at)
      (fine_join (names_marks 0 most_params (at + 1) f.params) (local_marks m at f) (fine_names f.params 0 most_params (at + 1))
      (fine_join (names_marks (length f.params) most_locals (at + 1 + length f.params) f.locals) (body_marks m at f) (fine_names f.locals (length f.params) most_locals (at + 1 + length f.params))
      (fine_stmts (scope_of m f) (short f) (body_at f at) f.body))))
      (fine_functions fs (before + 1) (at + function_count f))

-- the uses of one function's body
body_uses : (P : ForeignCall → Type 0) (m : Module) (fs : List Function) (i before at : ℕ) (f : Function) → AllUses P (functions_marks m before at fs) → slice_get fs i ≡ Some f → (here : ℕ) × AllUses P (stmts_marks (scope_of m f) here f.body)
body_uses P m [] i before at f h is = absurd (cc is)
body_uses P m (g ∷ fs) zero before at f h is =
    let whole = uses_split P (function_marks m before at g) (functions_marks m (before + 1) (at + function_count g) fs) h in
    let all = uses_split P (counted before most_functions at) (heading_marks m at g) whole.0 in
    let named = uses_split P (names_marks 0 most_params (at + 1) g.params) (local_marks m at g) all.1 in
    let locals = uses_split P (names_marks (length g.params) most_locals (at + 1 + length g.params) g.locals) (body_marks m at g) named.1 in
    let same : g ≡ f = cc in
    subst (λ (f : Function). (here : ℕ) × AllUses P (stmts_marks (scope_of m f) here f.body)) same (body_at g at, locals.1)
body_uses P m (g ∷ fs) (suc i) before at f h is =
    let whole = uses_split P (function_marks m before at g) (functions_marks m (before + 1) (at + function_count g) fs) h in
    body_uses P m fs i (before + 1) (at + function_count g) f whole.1 is

pub uses_are_listed : UsesAreListed
uses_are_listed m i f is =
    let functions = functions_marks m 0 (functions_at m) m.functions in
    let tables = tables_marks 0 (tables_at m) m.tables in
    let listed = uses_split is_listed (globals_marks m 0 1 m.globals) (functions ++ tables) (all_listed [] (marks m)) in
    body_uses is_listed m m.functions i 0 (functions_at m) f (uses_split is_listed functions tables listed.1).0 is
  where
    is_listed : ForeignCall → Type 0
    is_listed f = is_among f (foreign_calls m) ≡ true

-- ---- globals

abbrev NameIsShort : Module → Variable → Type 0
NameIsShort m v = member_length m v.init ≤ longest_name

abbrev global_marks : Module → ℕ → Variable → List Mark
global_marks m at v = rows_of (need (nat_le (member_length m v.init) longest_name) PastLimit at)

globals_within : (m : Module) (vs : List Variable) (before at : ℕ) → before ≤ most_globals → NoRows (globals_marks m before at vs) → (before + length vs ≤ most_globals) × AllByRecursion (NameIsShort m) vs
globals_within m [] before at le h = (omega arith, tt)
globals_within m (v ∷ vs) before at le h =
    let all = rows_split (counted before most_globals at) (global_marks m at v ++ globals_marks m (before + 1) (at + 1) vs) h in
    let named = rows_split (global_marks m at v) (globals_marks m (before + 1) (at + 1) vs) all.1 in
    let lt = below before most_globals at all.0 in
    let e : nat_le (member_length m v.init) longest_name ≡ true = held (nat_le (member_length m v.init) longest_name) at named.0 in
    let short : member_length m v.init ≤ longest_name = grind (arith, nat_tests) in
    let rest = globals_within m vs (before + 1) (at + 1) (omega arith) named.1 in
    ((let few = rest.0 in omega arith), (short, rest.1))

fine_globals : (m : Module) (vs : List Variable) (before at : ℕ) → Fine (globals_marks m before at vs)
fine_globals m [] before at = λ h. tt
fine_globals m (v ∷ vs) before at =
    fine_join (counted before most_globals at) (global_marks m at v ++ globals_marks m (before + 1) (at + 1) vs) (fine_row (nat_lt before most_globals) at)
    (fine_join (global_marks m at v) (globals_marks m (before + 1) (at + 1) vs) (fine_row (nat_le (member_length m v.init) longest_name) at) (fine_globals m vs (before + 1) (at + 1)))

foreign_short : (m : Module) (vs : List Variable) → AllByRecursion (NameIsShort m) vs → AllByRecursion (λ (v : Variable). ForeignIsShort (init_meaning m v.init)) vs
foreign_short m [] a = tt
foreign_short m (v ∷ vs) a = (init_short m v.init a.0, foreign_short m vs a.1)

abbrev IsShort : List ℕ → Type 0
IsShort n = length n ≤ longest_name

-- the imports that are ints
abbrev Imports : ℕ → List (List ℕ) → Type 0
Imports most ns = (length ns ≤ most) × AllByRecursion IsShort ns

one_longer : (ns : List (List ℕ)) (p : List ℕ) → AllByRecursion IsShort ns → IsShort p → AllByRecursion IsShort (ns ++ p ∷ [])
one_longer [] p a s = (s, tt)
one_longer (n ∷ ns) p a s = (a.0, one_longer ns p a.1 s)

same_imports : (most : ℕ) (ns : List (List ℕ)) → Imports most ns → Imports (most + 1) ns
same_imports most ns a = ((let le = a.0 in omega arith), a.1)

one_import : (m : Module) (most : ℕ) (ns : List (List ℕ)) (i : Init) → Imports most ns → member_length m i ≤ longest_name → Imports (most + 1) (with_global ns i)
one_import m most ns (foreign_int f p) a s = by (is_in p ns)
  where
    by : (b : Bool) → Imports (most + 1) (if b then ns else ns ++ p ∷ [])
    by true = same_imports most ns a
    by false = ((let le = a.0 in let more = length-append ns (p ∷ []) in omega arith), one_longer ns p a.1 s)
one_import m most ns (number z) a s = same_imports most ns a
one_import m most ns (decimal bs) a s = same_imports most ns a
one_import m most ns (foreign_double f p) a s = same_imports most ns a
one_import m most ns (member f p) a s = same_imports most ns a
one_import m most ns (math f p) a s = same_imports most ns a
one_import m most ns (view f p h) a s = same_imports most ns a

all_imports : (m : Module) (vs : List Variable) (most : ℕ) (ns : List (List ℕ)) → AllByRecursion (NameIsShort m) vs → Imports most ns → Imports (most + length vs) (global_imports ns vs)
all_imports m [] most ns a i = ((let le = i.0 in omega arith), i.1)
all_imports m (v ∷ vs) most ns a i =
    let rest = all_imports m vs (most + 1) (with_global ns v.init) a.1 (one_import m most ns v.init i a.0) in
    ((let le = rest.0 in omega arith), rest.1)

-- ---- tables

abbrev table_marks : ℕ → ℕ → Table → List Mark
table_marks before at t = rows_of (need (nat_le (length t.members) most_members && nat_le (before + length t.members) most_entries) PastLimit at)

abbrev TableIsWithin : Table → Type 0
TableIsWithin t = length t.members ≤ most_members

both_true : (a b : Bool) → (a && b) ≡ true → (a ≡ true) × (b ≡ true)
both_true true b h = (refl, h)
both_true false b h = cc

tables_within : (ts : List Table) (before at : ℕ) → before ≤ most_entries → NoRows (tables_marks before at ts) → (before + members ts ≤ most_entries) × AllByRecursion TableIsWithin ts
tables_within [] before at le h = (omega arith, tt)
tables_within (t ∷ ts) before at le h =
    let parts = rows_split (table_marks before at t) (tables_marks (before + length t.members) (at + 1) ts) h in
    let tests = both_true (nat_le (length t.members) most_members) (nat_le (before + length t.members) most_entries) (held (nat_le (length t.members) most_members && nat_le (before + length t.members) most_entries) at parts.0) in
    let each = tests.0 in
    let together = tests.1 in
    let few : length t.members ≤ most_members = grind (arith, nat_tests) in
    let within : before + length t.members ≤ most_entries = grind (arith, nat_tests) in
    let rest = tables_within ts (before + length t.members) (at + 1) within parts.1 in
    ((let sum = rest.0 in omega arith), (few, rest.1))

fine_tables : (ts : List Table) (before at : ℕ) → Fine (tables_marks before at ts)
fine_tables [] before at = λ h. tt
fine_tables (t ∷ ts) before at =
    fine_join (table_marks before at t) (tables_marks (before + length t.members) (at + 1) ts) (fine_row (nat_le (length t.members) most_members && nat_le (before + length t.members) most_entries) at) (fine_tables ts (before + length t.members) (at + 1))

-- ---- the module

no_rows : (xs ys : List Met) → first (xs ++ ys) ≡ None → first ys ≡ None
no_rows [] ys h = h
no_rows (x ∷ xs) ys h = absurd (cc h)

none_first : (xs : List Met) → first xs ≡ None → xs ≡ []
none_first [] h = refl
none_first (x ∷ xs) h = absurd (cc h)

limits_hold : (m : Module) → IsAccepted m → limit_rows m ≡ []
limits_hold m h = none_first (limit_rows m) (no_rows (type_rows m) (limit_rows m) (no_rows (name_rows m) (type_rows m ++ limit_rows m) h))

-- the marks of each kind of declaration have no rows
record Parts (m : Module) : Type 0 where
  whole : NoRows (marks m)
  globals : NoRows (globals_marks m 0 1 m.globals)
  functions : NoRows (functions_marks m 0 (functions_at m) m.functions)
  tables : NoRows (tables_marks 0 (tables_at m) m.tables)

parts_of : (m : Module) → IsAccepted m → Parts m
parts_of m h =
    let functions = functions_marks m 0 (functions_at m) m.functions in
    let tables = tables_marks 0 (tables_at m) m.tables in
    let whole = rows_none [] (marks m) (limits_hold m h) in
    let a = rows_split (globals_marks m 0 1 m.globals) (functions ++ tables) whole in
    let b = rows_split functions tables a.1 in
    record { whole = whole; globals = a.0; functions = b.0; tables = b.1 }

pub functions_meet_no_row : (m : Module) → IsAccepted m → NoRows (functions_marks m 0 (functions_at m) m.functions)
functions_meet_no_row m h = (parts_of m h).functions

short_names : (m : Module) → IsAccepted m → (f : Function) (n : List ℕ) → ForeignIsShort (named (scope_of m f) n)
short_names m h f n =
    let globals = (globals_within m m.globals 0 1 (omega arith) (parts_of m h).globals).1 in
    named_holds ForeignIsShort foreign_plainly m (foreign_short m m.globals globals) f n

pub foreign_names_are_short : ForeignNamesAreShort
foreign_names_are_short m f n p h is = subst ForeignIsShort is (short_names m h f n)

pub accepted_are_within : AcceptedAreWithin
accepted_are_within m h =
    let parts = parts_of m h in
    let functions = functions_within m m.functions 0 (functions_at m) (omega arith) parts.functions in
    let globals = globals_within m m.globals 0 1 (omega arith) parts.globals in
    let tables = tables_within m.tables 0 (tables_at m) (omega arith) parts.tables in
    let fine =
    fine_join (globals_marks m 0 1 m.globals) (functions_marks m 0 (functions_at m) m.functions ++ tables_marks 0 (tables_at m) m.tables) (fine_globals m m.globals 0 1)
    (fine_join (functions_marks m 0 (functions_at m) m.functions) (tables_marks 0 (tables_at m) m.tables) (fine_functions m (short_names m h) m.functions 0 (functions_at m)) (fine_tables m.tables 0 (tables_at m))) in
    let calls = distinct_all CallIsWithin [] (marks m) tt (fine parts.whole) in
    let imports = all_imports m m.globals 0 [] globals.1 (omega arith, tt) in
    record {
      functions = (let few = functions.0 in omega arith);
      each_function = All-from_recursion FunctionIsWithin m.functions functions.1;
      globals = (let few = globals.0 in omega arith);
      calls = few_calls [] (marks m) (omega arith) (limits_hold m h);
      each_call = All-from_recursion CallIsWithin (foreign_calls m) calls;
      foreign = (let few = imports.0 in let most = globals.0 in omega arith);
      each_foreign = All-from_recursion IsShort (foreign_globals m) imports.1;
      each_table = All-from_recursion TableIsWithin m.tables tables.1;
      entries = (let few = tables.0 in omega arith);
    }
