-- What names mean, as a look-up in one list: that of the declarations of a module, or of the variables of a function.
use Rattle.std.proofs.Common.{◌≡◌, ℕ, Bool, true, false, ◌||◌, List, [], ◌∷◌, ◌++◌, refl, sym, ap, ap₂, ◌∙◌, subst}
use Rattle.std.specs.Prelude.{if◌then◌else◌, map, bytes_eq}
use Rattle.asm_lang.specs.Modules.{Variable, Param, Function, Table, Module}
use Rattle.asm_lang_valid.specs.Scope.{Meaning, nothing, an_int, an_outside, a_function, a_table, a_parameter, init_meaning, among_globals, among_functions, among_tables, is_in, module_meaning, local_init, among_locals, among_params, meaning}
use Rattle.asm_short_lang.specs.Renaming.{declared_names, local_names}
use Rattle.asm_laws_short.proofs.Lists.{same_name, Distinct, IsPartOf, no_part, stays, goes, in_part, part_map, ToldApart}

pub record Entry : Type 0 where
  pub name : List ℕ
  pub meaning : Meaning

abbrev pub entry : List ℕ → Meaning → Entry
entry n m = record { name = n; meaning = m }

-- what the first entry of a name says, or else the last argument
abbrev pub entry_in : List Entry → List ℕ → Meaning → Meaning
entry_in [] n o = o
entry_in (e ∷ es) n o = if bytes_eq e.name n then e.meaning else entry_in es n o

abbrev pub names_in : List Entry → List (List ℕ)
names_in es = map (λ (e : Entry). e.name) es

pub entry_append : (xs ys : List Entry) (n : List ℕ) (o : Meaning) → entry_in (xs ++ ys) n o ≡ entry_in xs n (entry_in ys n o)
entry_append [] ys n o = refl
entry_append (e ∷ es) ys n o = ap (λ m. if bytes_eq e.name n then e.meaning else m) (entry_append es ys n o)

pub names_append : (xs ys : List Entry) → names_in (xs ++ ys) ≡ names_in xs ++ names_in ys
names_append [] ys = refl
names_append (e ∷ es) ys = ap (λ ns. e.name ∷ ns) (names_append es ys)

-- ---- the declarations of a module

abbrev pub param_entry : List ℕ → Entry
param_entry n = entry n a_parameter

abbrev pub global_entry : Module → Variable → Entry
global_entry m v = entry v.name (init_meaning m v.init)

abbrev pub function_entry : Function → Entry
function_entry f = entry f.name (a_function f)

abbrev pub table_entry : Table → Entry
table_entry t = entry t.name (a_table t)

abbrev pub entries : Module → List Entry
entries m = map param_entry m.params ++ (map (global_entry m) m.globals ++ (map function_entry m.functions ++ map table_entry m.tables))

params_by_entry : (ns : List (List ℕ)) (n : List ℕ) (o : Meaning) → (if is_in n ns then a_parameter else o) ≡ entry_in (map param_entry ns) n o
params_by_entry [] n o = refl
params_by_entry (x ∷ xs) n o = by (bytes_eq x n) ∙ ap (λ m. if bytes_eq x n then a_parameter else m) (params_by_entry xs n o)
  where
    by : (b : Bool) → (if b || is_in n xs then a_parameter else o) ≡ (if b then a_parameter else (if is_in n xs then a_parameter else o))
    by true = refl
    by false = refl

globals_by_entry : (m : Module) (vs : List Variable) (n : List ℕ) (o : Meaning) → among_globals m vs n o ≡ entry_in (map (global_entry m) vs) n o
globals_by_entry m [] n o = refl
globals_by_entry m (v ∷ vs) n o = ap (λ r. if bytes_eq v.name n then init_meaning m v.init else r) (globals_by_entry m vs n o)

functions_by_entry : (fs : List Function) (n : List ℕ) (o : Meaning) → among_functions fs n o ≡ entry_in (map function_entry fs) n o
functions_by_entry [] n o = refl
functions_by_entry (f ∷ fs) n o = ap (λ r. if bytes_eq f.name n then a_function f else r) (functions_by_entry fs n o)

tables_by_entry : (ts : List Table) (n : List ℕ) → among_tables ts n ≡ entry_in (map table_entry ts) n nothing
tables_by_entry [] n = refl
tables_by_entry (t ∷ ts) n = ap (λ r. if bytes_eq t.name n then a_table t else r) (tables_by_entry ts n)

pub by_entry : (m : Module) (n : List ℕ) → module_meaning m n ≡ entry_in (entries m) n nothing
by_entry m n =
    let ps = map param_entry m.params in
    let gs = map (global_entry m) m.globals in
    let fs = map function_entry m.functions in
    let ts = map table_entry m.tables in
    let a = tables_by_entry m.tables n in
    let b = functions_by_entry m.functions n (among_tables m.tables n) in
    let c = globals_by_entry m m.globals n (among_functions m.functions n (among_tables m.tables n)) in
    params_by_entry m.params n (among_globals m m.globals n (among_functions m.functions n (among_tables m.tables n)))
    ∙ (ap (entry_in ps n) (c ∙ ap (entry_in gs n) (b ∙ (ap (entry_in fs n) a ∙ sym (entry_append fs ts n nothing))) ∙ sym (entry_append gs (fs ++ ts) n nothing))
    ∙ sym (entry_append ps (gs ++ (fs ++ ts)) n nothing))

param_names : (ns : List (List ℕ)) → names_in (map param_entry ns) ≡ ns
param_names [] = refl
param_names (n ∷ ns) = ap (λ l. n ∷ l) (param_names ns)

global_names : (m : Module) (vs : List Variable) → names_in (map (global_entry m) vs) ≡ map (λ (v : Variable). v.name) vs
global_names m [] = refl
global_names m (v ∷ vs) = ap (λ l. v.name ∷ l) (global_names m vs)

function_names : (fs : List Function) → names_in (map function_entry fs) ≡ map (λ (f : Function). f.name) fs
function_names [] = refl
function_names (f ∷ fs) = ap (λ l. f.name ∷ l) (function_names fs)

table_names : (ts : List Table) → names_in (map table_entry ts) ≡ map (λ (t : Table). t.name) ts
table_names [] = refl
table_names (t ∷ ts) = ap (λ l. t.name ∷ l) (table_names ts)

pub entry_names : (m : Module) → names_in (entries m) ≡ declared_names m
entry_names m =
    let ps = map param_entry m.params in
    let gs = map (global_entry m) m.globals in
    let fs = map function_entry m.functions in
    let ts = map table_entry m.tables in
    names_append ps (gs ++ (fs ++ ts)) ∙ ap₂ (λ x y. x ++ y) (param_names m.params)
    (names_append gs (fs ++ ts) ∙ ap₂ (λ x y. x ++ y) (global_names m m.globals) (names_append fs ts ∙ ap₂ (λ x y. x ++ y) (function_names m.functions) (table_names m.tables)))

-- ---- the variables of a function

abbrev pub local_param : Param → Entry
local_param p = entry p.name (if p.double then an_outside else an_int)

abbrev pub local_entry : Variable → Entry
local_entry v = entry v.name (local_init v.init)

abbrev pub local_entries : Function → List Entry
local_entries f = map local_param f.params ++ map local_entry f.locals

locals_by_entry : (vs : List Variable) (n : List ℕ) (o : Meaning) → among_locals vs n o ≡ entry_in (map local_entry vs) n o
locals_by_entry [] n o = refl
locals_by_entry (v ∷ vs) n o = ap (λ r. if bytes_eq v.name n then local_init v.init else r) (locals_by_entry vs n o)

local_params_by_entry : (ps : List Param) (n : List ℕ) (o : Meaning) → among_params ps n o ≡ entry_in (map local_param ps) n o
local_params_by_entry [] n o = refl
local_params_by_entry (p ∷ ps) n o = ap (λ r. if bytes_eq p.name n then (if p.double then an_outside else an_int) else r) (local_params_by_entry ps n o)

pub meaning_by_entry : (m : Module) (f : Function) (n : List ℕ) → meaning m f n ≡ entry_in (local_entries f) n (module_meaning m n)
meaning_by_entry m f n =
    local_params_by_entry f.params n (among_locals f.locals n (module_meaning m n))
    ∙ (ap (entry_in (map local_param f.params) n) (locals_by_entry f.locals n (module_meaning m n)) ∙ sym (entry_append (map local_param f.params) (map local_entry f.locals) n (module_meaning m n)))

local_param_names : (ps : List Param) → names_in (map local_param ps) ≡ map (λ (p : Param). p.name) ps
local_param_names [] = refl
local_param_names (p ∷ ps) = ap (λ l. p.name ∷ l) (local_param_names ps)

local_variable_names : (vs : List Variable) → names_in (map local_entry vs) ≡ map (λ (v : Variable). v.name) vs
local_variable_names [] = refl
local_variable_names (v ∷ vs) = ap (λ l. v.name ∷ l) (local_variable_names vs)

pub local_entry_names : (f : Function) → names_in (local_entries f) ≡ local_names f
local_entry_names f = names_append (map local_param f.params) (map local_entry f.locals) ∙ ap₂ (λ x y. x ++ y) (local_param_names f.params) (local_variable_names f.locals)

-- ---- names that have no entry, or one

pub without_entry : (es : List Entry) (n : List ℕ) (o : Meaning) → is_in n (names_in es) ≡ false → entry_in es n o ≡ o
without_entry [] n o h = refl
without_entry (e ∷ es) n o h = by (bytes_eq e.name n) (without_entry es n o) h
  where
    by : (b : Bool) → (is_in n (names_in es) ≡ false → entry_in es n o ≡ o) → (b || is_in n (names_in es)) ≡ false → (if b then e.meaning else entry_in es n o) ≡ o
    by true rest h = absurd (cc h)
    by false rest h = rest h

pub whatever_else : (es : List Entry) (n : List ℕ) (o p : Meaning) → is_in n (names_in es) ≡ true → entry_in es n o ≡ entry_in es n p
whatever_else [] n o p h = absurd (cc h)
whatever_else (e ∷ es) n o p h = by (bytes_eq e.name n) (whatever_else es n o p) h
  where
    by : (b : Bool) → (is_in n (names_in es) ≡ true → entry_in es n o ≡ entry_in es n p) → (b || is_in n (names_in es)) ≡ true → (if b then e.meaning else entry_in es n o) ≡ (if b then e.meaning else entry_in es n p)
    by true rest h = refl
    by false rest h = rest h

-- where names are distinct, leaving entries out changes nothing for a name that stays
pub part_means : {xs ys : List Entry} (n : List ℕ) (o : Meaning) → IsPartOf xs ys → Distinct (names_in ys) → is_in n (names_in xs) ≡ true → entry_in xs n o ≡ entry_in ys n o
part_means n o no_part d h = refl
part_means n o (stays {x = e} {xs = xs} {ys = ys} k) d h = by (bytes_eq e.name n) (part_means n o k d.1) h
  where
    by : (b : Bool) → (is_in n (names_in xs) ≡ true → entry_in xs n o ≡ entry_in ys n o) → (b || is_in n (names_in xs)) ≡ true → (if b then e.meaning else entry_in xs n o) ≡ (if b then e.meaning else entry_in ys n o)
    by true rest h = refl
    by false rest h = rest h
part_means n o (goes {x = e} {xs = xs} {ys = ys} k) d h = by (bytes_eq e.name n) refl (part_means n o k d.1 h) (in_names k)
  where
    in_names : IsPartOf xs ys → is_in n (names_in ys) ≡ true
    in_names k = in_part n (part_map (λ (e : Entry). e.name) k) h

    by : (b : Bool) → bytes_eq e.name n ≡ b → entry_in xs n o ≡ entry_in ys n o → is_in n (names_in ys) ≡ true → entry_in xs n o ≡ (if b then e.meaning else entry_in ys n o)
    by true f rest i = let g = subst (λ z. is_in z (names_in ys) ≡ false) (same_name e.name n f) d.0 in absurd (cc)
    by false f rest i = rest

-- ---- renamed entries

-- each entry under another name, and with another meaning
abbrev pub renamed_entry : (look : List ℕ → List ℕ) → (to : Meaning → Meaning) → Entry → Entry
renamed_entry look to e = entry (look e.name) (to e.meaning)

pub renamed_means : (look : List ℕ → List ℕ) (to : Meaning → Meaning) (es : List Entry) (n n' : List ℕ) (o o' : Meaning) → ToldApart look (names_in es) n n' → o' ≡ to o → entry_in (map (renamed_entry look to) es) n' o' ≡ to (entry_in es n o)
renamed_means look to [] n n' o o' h e = e
renamed_means look to (x ∷ xs) n n' o o' h e = by (bytes_eq (look x.name) n') (bytes_eq x.name n) h.0 (renamed_means look to xs n n' o o' h.1 e)
  where
    by : (s t : Bool) → s ≡ t → entry_in (map (renamed_entry look to) xs) n' o' ≡ to (entry_in xs n o) → (if s then to x.meaning else entry_in (map (renamed_entry look to) xs) n' o') ≡ to (if t then x.meaning else entry_in xs n o)
    by true true f rest = refl
    by true false f rest = absurd (cc f)
    by false true f rest = absurd (cc f)
    by false false f rest = rest
