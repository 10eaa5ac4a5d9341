-- What the names of a typed module stand for, and that their variables have ints.
use Rattle.std.proofs.Common.{◌≡◌, ℕ, ◌<◌, ◌^◌, Bool, true, false, not, List, [], ◌∷◌, ◌++◌, length, Option, Some, None, option_map, is_some, ℤ, pos, negsuc, refl, sym, ap, ◌∙◌, subst, arith}
use Rattle.std.proofs.lemmas.Bool.{and_parts}
use Rattle.std.proofs.lemmas.Bool.Decides.{nat_tests}
use Rattle.std.proofs.lemmas.Int.{ints}
use Rattle.asm_lang_valid.specs.declared.meaning.Builtin.TheVariants.{Imul, Clz32}
use Rattle.std.specs.Prelude.{codes, nat_lt, bytes_eq, if◌then◌else◌, map}
use Rattle.sem_words.specs.declared.js_value.JsValue.{JsValue}
use Rattle.sem_words.specs.declared.js_value.JsValue.TheVariants.{Whole}
use Rattle.sem_words.specs.Words.{word_of}
use Rattle.sem_words.specs.JsValues.{to_uint32_of}
use Rattle.sem_words.specs.JsOperators.{signed_value}
use Rattle.sem_words.proofs.WordLaws.{word_of-IsWord}
use Rattle.asm_types.specs.declared.value_type.ValueType.{ValueType}
use Rattle.asm_types.specs.declared.value_type.ValueType.TheVariants.{Fixnum, Signed, Unsigned, Int}
use Rattle.asm_types.specs.Rows.{row}
use Rattle.asm_types.specs.Values.{fits_of}
use Rattle.asm_types.proofs.Sound.{from_row, wider, to_uint32_lt}
use Rattle.session_lang.specs.Script.{ScriptPlain}
use Rattle.asm_lang.specs.Trees.{Init, number, decimal, foreign_int, foreign_double, member, math, view}
use Rattle.asm_lang.specs.Modules.{Variable, Param, Function, Table, Module}
use Rattle.asm_lang_valid.specs.declared.meaning.Element.{Element}
use Rattle.asm_lang_valid.specs.Scope.{is_foreign, Meaning, nothing, an_int, an_outside, a_foreign, a_builtin, a_function, a_table, a_parameter, Constructor, constructors, constructor_in, viewed, math_meaning, init_meaning, among_globals, among_functions, among_tables, is_in, module_meaning, local_init, among_locals, among_params, meaning}
use Rattle.asm_lang_valid.specs.Typing.{literal_type, is_int}
use Rattle.asm_lang_valid.specs.Typed.{literal_fits, globals_typed, locals_typed}
use Rattle.asm_lang_exec.specs.Runs.{Binding, binding, value_in, with_value, either_value}
use Rattle.asm_lang_exec.specs.Values.{marked}
use Rattle.asm_lang_exec.specs.Meaning.{first_value, parameters, local_variables, first_locals}
use Rattle.asm_lang_exec.specs.Session.{given_value, global_value, with_binding, first_globals}

-- ---- numbers

pub signed_fits : (a : ℕ) → a < 2 ^ 32 → fits_of Signed (signed_value a) ≡ true
signed_fits a h = grind (arith, ints, nat_tests)

pub signed_is_int : (a : ℕ) → a < 2 ^ 32 → fits_of Int (signed_value a) ≡ true
signed_is_int a h = wider Signed Int (signed_value a) refl (signed_fits a h)

pub literal_is : (z : ℤ) (t : ValueType) → literal_type z ≡ Some t → fits_of t (Whole z) ≡ true
literal_is (pos n) t h = small n t _ refl h
  where
    small : (n : ℕ) (t : ValueType) (b : Bool) → nat_lt n (2 ^ 31) ≡ b → (if b then Some Fixnum else row (nat_lt n (2 ^ 32)) Unsigned) ≡ Some t → fits_of t (Whole (pos n)) ≡ true
    small n t true e h = let s : Fixnum ≡ t = cc h in subst (λ t. fits_of t (Whole (pos n)) ≡ true) s (grind (arith, ints, nat_tests))
    small n t false e h = let w = from_row _ _ _ h in subst (λ t. fits_of t (Whole (pos n)) ≡ true) w.1 (let k = w.0 in grind (arith, ints, nat_tests))
literal_is (negsuc n) t h = let w = from_row _ _ _ h in subst (λ t. fits_of t (Whole (negsuc n)) ≡ true) w.1 (let k = w.0 in grind (arith, ints, nat_tests))

-- a literal that has a type is an int
pub literal_below : (z : ℤ) (o : Option ValueType) → literal_type z ≡ o → is_some o ≡ true → fits_of Int (Whole z) ≡ true
literal_below z None e h = absurd (cc h)
literal_below (pos n) (Some t) e h = small n t _ refl e
  where
    small : (n : ℕ) (t : ValueType) (b : Bool) → nat_lt n (2 ^ 31) ≡ b → (if b then Some Fixnum else row (nat_lt n (2 ^ 32)) Unsigned) ≡ Some t → fits_of Int (Whole (pos n)) ≡ true
    small n t true e h = grind (arith, ints, nat_tests)
    small n t false e h = let w = from_row _ _ _ h in let k = w.0 in grind (arith, ints, nat_tests)
literal_below (negsuc n) (Some t) e h = let w = from_row _ _ _ e in let k = w.0 in grind (arith, ints, nat_tests)

number_is_int : (z : ℤ) → literal_fits (number z) ≡ true → fits_of Int (Whole z) ≡ true
number_is_int z h = literal_below z (literal_type z) refl h

-- ---- variables by name

-- a name, and whether it is declared as an int
pub record Kind : Type 0 where
  pub name : List ℕ
  pub int : Bool

abbrev pub kind : List ℕ → Bool → Kind
kind n i = record { name = n; int = i }

abbrev pub kind_in : List ℕ → List Kind → Option Bool
kind_in n [] = None
kind_in n (k ∷ ks) = if bytes_eq k.name n then Some k.int else kind_in n ks

-- each variable has its name, and the declared ints have ints
abbrev pub Fitting : List Kind → List Binding → Type 0
Fitting [] [] = Unit {0}
Fitting (k ∷ ks) (b ∷ bs) = (b.name ≡ k.name) × (k.int ≡ true → fits_of Int b.value ≡ true) × Fitting ks bs
Fitting _ _ = ⊥

pub record Found (o : Option JsValue) : Type 0 where
  pub value : JsValue
  pub is : o ≡ Some value
  pub fit : fits_of Int value ≡ true

pub value_found : (n : List ℕ) (ks : List Kind) (bs : List Binding) → Fitting ks bs → kind_in n ks ≡ Some true → Found (value_in bs n)
value_found n [] bs f h = absurd (cc h)
value_found n (k ∷ ks) [] f h = absurd f
value_found n (k ∷ ks) (b ∷ bs) f h =
    let e : bytes_eq k.name n ≡ bytes_eq b.name n = ap (λ x. bytes_eq x n) (sym f.0) in
    subst (λ t. Found (if t then Some b.value else value_in bs n)) e (by (bytes_eq k.name n) (value_found n ks bs f.2) h)
  where
    by : (t : Bool) → (kind_in n ks ≡ Some true → Found (value_in bs n)) → (if t then Some k.int else kind_in n ks) ≡ Some true → Found (if t then Some b.value else value_in bs n)
    by true rest h = record { value = b.value; is = refl; fit = f.1 (cc h) }
    by false rest h = rest h

pub value_missing : (n : List ℕ) (ks : List Kind) (bs : List Binding) → Fitting ks bs → kind_in n ks ≡ None → value_in bs n ≡ None
value_missing n [] [] f h = refl
value_missing n [] (b ∷ bs) f h = absurd f
value_missing n (k ∷ ks) [] f h = absurd f
value_missing n (k ∷ ks) (b ∷ bs) f h =
    let e : bytes_eq k.name n ≡ bytes_eq b.name n = ap (λ x. bytes_eq x n) (sym f.0) in
    subst (λ t. (if t then Some b.value else value_in bs n) ≡ None) e (by (bytes_eq k.name n) (value_missing n ks bs f.2) h)
  where
    by : (t : Bool) → (kind_in n ks ≡ None → value_in bs n ≡ None) → (if t then Some k.int else kind_in n ks) ≡ None → (if t then Some b.value else value_in bs n) ≡ None
    by true rest h = absurd (cc h)
    by false rest h = rest h

pub value_written : (n : List ℕ) (v : JsValue) (ks : List Kind) (bs : List Binding) → Fitting ks bs → fits_of Int v ≡ true → Fitting ks (with_value n v bs)
value_written n v [] [] f h = tt
value_written n v [] (b ∷ bs) f h = absurd f
value_written n v (k ∷ ks) [] f h = absurd f
value_written n v (k ∷ ks) (b ∷ bs) f h = by (bytes_eq b.name n) (value_written n v ks bs f.2 h)
  where
    by : (t : Bool) → Fitting ks (with_value n v bs) → Fitting (k ∷ ks) (if t then binding b.name v ∷ bs else b ∷ with_value n v bs)
    by true rest = (f.0, λ _. h, f.2)
    by false rest = (f.0, f.1, rest)

-- ---- the variables of a function

abbrev pub local_kinds : List Variable → List Kind
local_kinds [] = []
local_kinds (v ∷ vs) = kind v.name (is_int (local_init v.init)) ∷ local_kinds vs

abbrev pub param_kinds : List Param → List Kind → List Kind
param_kinds [] ks = ks
param_kinds (p ∷ ps) ks = kind p.name (not p.double) ∷ param_kinds ps ks

abbrev pub kinds_of : Function → List Kind
kinds_of f = param_kinds f.params (local_kinds f.locals)

abbrev pub of_kind : Option Bool → Meaning → Meaning
of_kind None m = m
of_kind (Some true) m = an_int
of_kind (Some false) m = an_outside

local_meaning : (i : Init) → local_init i ≡ of_kind (Some (is_int (local_init i))) nothing
local_meaning (number z) = refl
local_meaning (decimal bs) = refl
local_meaning (foreign_int f p) = refl
local_meaning (foreign_double f p) = refl
local_meaning (member f p) = refl
local_meaning (math f p) = refl
local_meaning (view f p h) = refl

kind_only : (b : Bool) (m m' : Meaning) → of_kind (Some b) m ≡ of_kind (Some b) m'
kind_only true m m' = refl
kind_only false m m' = refl

locals_meaning : (vs : List Variable) (n : List ℕ) (m : Meaning) → among_locals vs n m ≡ of_kind (kind_in n (local_kinds vs)) m
locals_meaning [] n m = refl
locals_meaning (v ∷ vs) n m = by (bytes_eq v.name n) (locals_meaning vs n m)
  where
    by : (t : Bool) → among_locals vs n m ≡ of_kind (kind_in n (local_kinds vs)) m → (if t then local_init v.init else among_locals vs n m) ≡ of_kind (if t then Some (is_int (local_init v.init)) else kind_in n (local_kinds vs)) m
    by true rest = local_meaning v.init ∙ kind_only (is_int (local_init v.init)) nothing m
    by false rest = rest

params_meaning : (ps : List Param) (vs : List Variable) (n : List ℕ) (m : Meaning) → among_params ps n (among_locals vs n m) ≡ of_kind (kind_in n (param_kinds ps (local_kinds vs))) m
params_meaning [] vs n m = locals_meaning vs n m
params_meaning (p ∷ ps) vs n m = by (bytes_eq p.name n) (params_meaning ps vs n m)
  where
    double : (d : Bool) → (if d then an_outside else an_int) ≡ of_kind (Some (not d)) m
    double true = refl
    double false = refl

    by : (t : Bool) → among_params ps n (among_locals vs n m) ≡ of_kind (kind_in n (param_kinds ps (local_kinds vs))) m → (if t then (if p.double then an_outside else an_int) else among_params ps n (among_locals vs n m)) ≡ of_kind (if t then Some (not p.double) else kind_in n (param_kinds ps (local_kinds vs))) m
    by true rest = double p.double
    by false rest = rest

pub name_meaning : (m : Module) (f : Function) (n : List ℕ) → meaning m f n ≡ of_kind (kind_in n (kinds_of f)) (module_meaning m n)
name_meaning m f n = params_meaning f.params f.locals n (module_meaning m n)

-- ---- the variables of the module

abbrev pub is_variable : Init → Bool
is_variable (number z) = true
is_variable (foreign_int f p) = true
is_variable _ = false

abbrev pub with_kind : Bool → List ℕ → List Kind → List Kind
with_kind true n ks = kind n true ∷ ks
with_kind false n ks = ks

abbrev pub global_kinds : List Variable → List Kind
global_kinds [] = []
global_kinds (v ∷ vs) = with_kind (is_variable v.init) v.name (global_kinds vs)

-- no view and no function is an int
view_is_no_int : (o : Option Constructor) → is_int (viewed o) ≡ false
view_is_no_int None = refl
view_is_no_int (Some c) = by c.element
  where
    by : (e : Option Element) → is_int (viewed (Some (record c { element = e }))) ≡ false
    by None = refl
    by (Some e) = refl

math_is_no_int : (p : List ℕ) → is_int (math_meaning p) ≡ false
math_is_no_int p = by (bytes_eq (codes "imul") p) (bytes_eq (codes "clz32") p)
  where
    by : (a b : Bool) → is_int (if a then a_builtin Imul else (if b then a_builtin Clz32 else an_outside)) ≡ false
    by true b = refl
    by false true = refl
    by false false = refl

init_is_variable : (m : Module) (i : Init) → is_int (init_meaning m i) ≡ true → is_variable i ≡ true
init_is_variable m (number z) h = refl
init_is_variable m (decimal bs) h = absurd (cc h)
init_is_variable m (foreign_int f p) h = refl
init_is_variable m (foreign_double f p) h = absurd (cc h)
init_is_variable m (member f p) h = absurd (by (is_foreign m f) h)
  where
    by : (b : Bool) → is_int (if b then a_foreign p else an_outside) ≡ true → ⊥
    by true h = cc h
    by false h = cc h
init_is_variable m (math f p) h = absurd (cc (h, math_is_no_int p))
init_is_variable m (view f p b) h = absurd (cc (h, view_is_no_int (constructor_in constructors p)))

tables_are_no_ints : (ts : List Table) (n : List ℕ) → is_int (among_tables ts n) ≡ false
tables_are_no_ints [] n = refl
tables_are_no_ints (t ∷ ts) n = by (bytes_eq t.name n) (tables_are_no_ints ts n)
  where
    by : (b : Bool) → is_int (among_tables ts n) ≡ false → is_int (if b then a_table t else among_tables ts n) ≡ false
    by true rest = refl
    by false rest = rest

functions_are_no_ints : (fs : List Function) (n : List ℕ) (o : Meaning) → is_int o ≡ false → is_int (among_functions fs n o) ≡ false
functions_are_no_ints [] n o h = h
functions_are_no_ints (f ∷ fs) n o h = by (bytes_eq f.name n) (functions_are_no_ints fs n o h)
  where
    by : (b : Bool) → is_int (among_functions fs n o) ≡ false → is_int (if b then a_function f else among_functions fs n o) ≡ false
    by true rest = refl
    by false rest = rest

kind_skipped : (b : Bool) (n k : List ℕ) (ks : List Kind) → bytes_eq k n ≡ false → kind_in n ks ≡ Some true → kind_in n (with_kind b k ks) ≡ Some true
kind_skipped true n k ks e h = rw e h
kind_skipped false n k ks e h = h

global_kind : (m : Module) (vs : List Variable) (n : List ℕ) (o : Meaning) → is_int o ≡ false → is_int (among_globals m vs n o) ≡ true → kind_in n (global_kinds vs) ≡ Some true
global_kind m [] n o none h = absurd (cc (none, h))
global_kind m (v ∷ vs) n o none h = by (bytes_eq v.name n) (global_kind m vs n o none) refl h
  where
    by : (b : Bool) → (is_int (among_globals m vs n o) ≡ true → kind_in n (global_kinds vs) ≡ Some true) → bytes_eq v.name n ≡ b → is_int (if b then init_meaning m v.init else among_globals m vs n o) ≡ true → kind_in n (with_kind (is_variable v.init) v.name (global_kinds vs)) ≡ Some true
    by true rest e h = rw (init_is_variable m v.init h, e) refl
    by false rest e h = kind_skipped (is_variable v.init) n v.name (global_kinds vs) e (rest h)

pub module_kind : (m : Module) (n : List ℕ) → is_int (module_meaning m n) ≡ true → kind_in n (global_kinds m.globals) ≡ Some true
module_kind m n h = by (is_in n m.params) h
  where
    by : (b : Bool) → is_int (if b then a_parameter else among_globals m m.globals n (among_functions m.functions n (among_tables m.tables n))) ≡ true → kind_in n (global_kinds m.globals) ≡ Some true
    by true h = absurd (cc h)
    by false h = global_kind m m.globals n _ (functions_are_no_ints m.functions n _ (tables_are_no_ints m.tables n)) h

-- a name that is an int is found
pub int_found : (m : Module) (f : Function) (n : List ℕ) (locals globals : List Binding) → Fitting (kinds_of f) locals → Fitting (global_kinds m.globals) globals → is_int (meaning m f n) ≡ true → Found (either_value (value_in locals n) (value_in globals n))
int_found m f n locals globals l g h = by (kind_in n (kinds_of f)) refl (ap is_int (sym (name_meaning m f n)) ∙ h)
  where
    by : (o : Option Bool) → kind_in n (kinds_of f) ≡ o → is_int (of_kind o (module_meaning m n)) ≡ true → Found (either_value (value_in locals n) (value_in globals n))
    by None e h = rw (value_missing n (kinds_of f) locals l e) (value_found n (global_kinds m.globals) globals g (module_kind m n h))
    by (Some true) e h = let v = value_found n (kinds_of f) locals l e in rw v.is (record { value = v.value; is = refl; fit = v.fit })
    by (Some false) e h = absurd (cc h)

-- ---- first values

pub globals_fit : (m : Module) (script : ScriptPlain) (vs : List Variable) → globals_typed m vs ≡ true → Fitting (global_kinds vs) (first_globals script vs)
globals_fit m script [] h = tt
globals_fit m script (v ∷ vs) h =
    let p = and_parts _ _ h in
    let q = and_parts _ _ p.0 in
    by v.init q.0 (globals_fit m script vs p.1)
  where
    by : (i : Init) → literal_fits i ≡ true → Fitting (global_kinds vs) (first_globals script vs) → Fitting (with_kind (is_variable i) v.name (global_kinds vs)) (with_binding v.name (global_value script i) (first_globals script vs))
    by (number z) l r = (refl, λ _. number_is_int z l, r)
    by (foreign_int f p) l r = (refl, λ _. signed_is_int (word_of 32 (given_value script.globals p)) (word_of-IsWord 32 (given_value script.globals p)), r)
    by (decimal bs) l r = r
    by (foreign_double f p) l r = r
    by (member f p) l r = r
    by (math f p) l r = r
    by (view f p b) l r = r

locals_fit : (vs : List Variable) → locals_typed vs ≡ true → Fitting (local_kinds vs) (map (λ (v : Variable). binding v.name (first_value v.init)) vs)
locals_fit [] h = tt
locals_fit (v ∷ vs) h = let p = and_parts _ _ h in (refl, by v.init p.0, locals_fit vs p.1)
  where
    by : (i : Init) → literal_fits i ≡ true → is_int (local_init i) ≡ true → fits_of Int (first_value i) ≡ true
    by (number z) l e = number_is_int z l
    by (decimal bs) l e = absurd (cc e)
    by (foreign_int f p) l e = absurd (cc e)
    by (foreign_double f p) l e = absurd (cc e)
    by (member f p) l e = absurd (cc e)
    by (math f p) l e = absurd (cc e)
    by (view f p b) l e = absurd (cc e)

marked_fits : (d : Bool) (v : JsValue) → not d ≡ true → fits_of Int (marked d v) ≡ true
marked_fits false v h = signed_is_int (to_uint32_of v) (to_uint32_lt v)
marked_fits true v h = absurd (cc h)

pub record Passed (ps : List Param) (vs : List JsValue) : Type 0 where
  pub bindings : List Binding
  pub is : parameters ps vs ≡ Some bindings
  pub fit : (ks : List Kind) (bs : List Binding) → Fitting ks bs → Fitting (param_kinds ps ks) (bindings ++ bs)

params_passed : (ps : List Param) (vs : List JsValue) → length vs ≡ length ps → Passed ps vs
params_passed [] [] h = record { bindings = []; is = refl; fit = λ ks bs f. f }
params_passed [] (v ∷ vs) h = absurd (omega (arith, h))
params_passed (p ∷ ps) [] h = absurd (omega (arith, h))
params_passed (p ∷ ps) (v ∷ vs) h =
    let r = params_passed ps vs (omega (arith, h)) in
    record { bindings = binding p.name (marked p.double v) ∷ r.bindings; is = ap (option_map (λ bs. binding p.name (marked p.double v) ∷ bs)) r.is; fit = λ ks bs f. (refl, marked_fits p.double v, r.fit ks bs f) }

pub record Entered (f : Function) (vs : List JsValue) : Type 0 where
  pub locals : List Binding
  pub is : first_locals f vs ≡ Some locals
  pub fit : Fitting (kinds_of f) locals

pub entered : (f : Function) (vs : List JsValue) → locals_typed f.locals ≡ true → length vs ≡ length f.params → Entered f vs
entered f vs h e =
    let r = params_passed f.params vs e in
    record { locals = r.bindings ++ local_variables f; is = ap (option_map (λ bs. bs ++ local_variables f)) r.is; fit = r.fit (local_kinds f.locals) (local_variables f) (locals_fit f.locals h) }
