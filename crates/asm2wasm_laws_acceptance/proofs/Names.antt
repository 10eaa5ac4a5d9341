-- Where the functions and tables stand that names mean.
use Rattle.std.proofs.Common.{◌≡◌, ℕ, suc, ◌+◌, Bool, true, false, List, [], ◌∷◌, length, Option, Some, None, refl, sym, ap, ◌∙◌}
use Rattle.std.specs.Prelude.{slice_get, if◌then◌else◌, bytes_eq, codes}
use Rattle.asm_lang.specs.Trees.{Init, number, decimal, foreign_int, foreign_double, member, math, view}
use Rattle.asm_lang.specs.Modules.{Variable, Function, Table, Module}
use Rattle.asm_lang_valid.specs.declared.meaning.Element.{Element}
use Rattle.asm_lang_valid.specs.declared.meaning.Builtin.TheVariants.{Imul, Clz32}
use Rattle.asm_lang_valid.specs.Scope.{is_foreign, Meaning, an_outside, a_foreign, a_builtin, a_function, a_table, a_parameter, Constructor, constructors, constructor_in, viewed, init_meaning, among_globals, among_functions, among_tables, is_in, module_meaning, meaning}
use Rattle.asm_lang_valid.specs.Refusal.{function_number}
use Rattle.asm_laws_sound.proofs.Names.{kind_in, of_kind, kinds_of, name_meaning}
use Rattle.asm2wasm_lang.specs.Tables.{bases_from, bases_of}
use Rattle.asm2wasm_translation.specs.Numbers.{base_among, base_of}

-- ---- functions and tables are no global declarations

abbrev pub is_declared : Meaning → Bool
is_declared (a_function f) = true
is_declared (a_table t) = true
is_declared _ = false

viewed_apart : (o : Option Constructor) → is_declared (viewed o) ≡ false
viewed_apart None = refl
viewed_apart (Some c) = by c.element
  where
    by : (e : Option Element) → is_declared (viewed (Some (record c { element = e }))) ≡ false
    by None = refl
    by (Some e) = refl

init_apart : (m : Module) (i : Init) → is_declared (init_meaning m i) ≡ false
init_apart m (number z) = refl
init_apart m (decimal bs) = refl
init_apart m (foreign_int f p) = refl
init_apart m (foreign_double f p) = refl
init_apart m (member f p) = by (is_foreign m f)
  where
    by : (b : Bool) → is_declared (if b then a_foreign p else an_outside) ≡ false
    by true = refl
    by false = refl
init_apart m (math f p) = by (bytes_eq (codes "imul") p) (bytes_eq (codes "clz32") p)
  where
    by : (a b : Bool) → is_declared (if a then a_builtin Imul else (if b then a_builtin Clz32 else an_outside)) ≡ false
    by true b = refl
    by false true = refl
    by false false = refl
init_apart m (view f p h) = viewed_apart (constructor_in constructors p)

no_both : {x y : Meaning} → is_declared x ≡ false → x ≡ y → is_declared y ≡ true → ⊥
no_both apart e h = cc (apart, ap is_declared e, h)

past_globals : (m : Module) (vs : List Variable) (n : List ℕ) (o x : Meaning) → is_declared x ≡ true → among_globals m vs n o ≡ x → o ≡ x
past_globals m [] n o x h e = e
past_globals m (v ∷ vs) n o x h e = by (bytes_eq v.name n) (past_globals m vs n o x h) e
  where
    by : (b : Bool) → (among_globals m vs n o ≡ x → o ≡ x) → (if b then init_meaning m v.init else among_globals m vs n o) ≡ x → o ≡ x
    by true rest e = absurd (no_both (init_apart m v.init) e h)
    by false rest e = rest e

in_module : (m : Module) (n : List ℕ) (x : Meaning) → is_declared x ≡ true → module_meaning m n ≡ x → among_functions m.functions n (among_tables m.tables n) ≡ x
in_module m n x h e = by (is_in n m.params) e
  where
    by : (b : Bool) → (if b then a_parameter else among_globals m m.globals n (among_functions m.functions n (among_tables m.tables n))) ≡ x → among_functions m.functions n (among_tables m.tables n) ≡ x
    by true e = absurd (no_both refl e h)
    by false e = past_globals m m.globals n (among_functions m.functions n (among_tables m.tables n)) x h e

-- a name of a function's text means the module's function or table of that name
pub of_module : (m : Module) (f : Function) (n : List ℕ) (x : Meaning) → is_declared x ≡ true → meaning m f n ≡ x → module_meaning m n ≡ x
of_module m f n x h e = by (kind_in n (kinds_of f)) (sym (name_meaning m f n) ∙ e)
  where
    by : (o : Option Bool) → of_kind o (module_meaning m n) ≡ x → module_meaning m n ≡ x
    by None e = e
    by (Some true) e = absurd (no_both refl e h)
    by (Some false) e = absurd (no_both refl e h)

-- ---- functions

no_table_function : (ts : List Table) (n : List ℕ) (g : Function) → among_tables ts n ≡ a_function g → ⊥
no_table_function [] n g e = cc e
no_table_function (t ∷ ts) n g e = by (bytes_eq t.name n) (no_table_function ts n g) e
  where
    by : (b : Bool) → (among_tables ts n ≡ a_function g → ⊥) → (if b then a_table t else among_tables ts n) ≡ a_function g → ⊥
    by true rest e = cc e
    by false rest e = rest e

function_in : (fs : List Function) (n : List ℕ) (o : Meaning) (g : Function) → (o ≡ a_function g → ⊥) → among_functions fs n o ≡ a_function g → slice_get fs (function_number fs n) ≡ Some g
function_in [] n o g none e = absurd (none e)
function_in (f ∷ fs) n o g none e = by (bytes_eq f.name n) (function_in fs n o g none) e
  where
    by : (b : Bool) → (among_functions fs n o ≡ a_function g → slice_get fs (function_number fs n) ≡ Some g) → (if b then a_function f else among_functions fs n o) ≡ a_function g
        → slice_get (f ∷ fs) (if b then 0 else suc (function_number fs n)) ≡ Some g
    by true rest e = let same : f ≡ g = cc e in ap Some same
    by false rest e = rest e

pub function_stands : (m : Module) (n : List ℕ) (g : Function) → module_meaning m n ≡ a_function g → slice_get m.functions (function_number m.functions n) ≡ Some g
function_stands m n g e = function_in m.functions n (among_tables m.tables n) g (no_table_function m.tables n g) (in_module m n (a_function g) refl e)

-- ---- tables

past_functions : (fs : List Function) (n : List ℕ) (o : Meaning) (t : Table) → among_functions fs n o ≡ a_table t → o ≡ a_table t
past_functions [] n o t e = e
past_functions (f ∷ fs) n o t e = by (bytes_eq f.name n) (past_functions fs n o t) e
  where
    by : (b : Bool) → (among_functions fs n o ≡ a_table t → o ≡ a_table t) → (if b then a_function f else among_functions fs n o) ≡ a_table t → o ≡ a_table t
    by true rest e = absurd (cc e)
    by false rest e = rest e

-- the table of this name stands at a place, with its base
pub record Stands (ts : List Table) (bases : List ℕ) (base : ℕ) (t : Table) : Type 0 where
  pub place : ℕ
  pub is_table : slice_get ts place ≡ Some t
  pub is_base : slice_get bases place ≡ Some base

table_in : (ts : List Table) (n : List ℕ) (at : ℕ) (t : Table) → among_tables ts n ≡ a_table t → Stands ts (bases_from at ts) (base_among (bases_from at ts) ts n) t
table_in [] n at t e = absurd (cc e)
table_in (u ∷ ts) n at t e = by (bytes_eq u.name n) (table_in ts n (at + length u.members) t) e
  where
    by : (b : Bool) → (among_tables ts n ≡ a_table t → Stands ts (bases_from (at + length u.members) ts) (base_among (bases_from (at + length u.members) ts) ts n) t)
        → (if b then a_table u else among_tables ts n) ≡ a_table t
        → Stands (u ∷ ts) (at ∷ bases_from (at + length u.members) ts) (if b then at else base_among (bases_from (at + length u.members) ts) ts n) t
    by true rest e = let same : u ≡ t = cc e in record { place = 0; is_table = ap Some same; is_base = refl }
    by false rest e = let s = rest e in record { place = suc s.place; is_table = s.is_table; is_base = s.is_base }

pub table_stands : (m : Module) (n : List ℕ) (t : Table) → module_meaning m n ≡ a_table t → Stands m.tables (bases_of m) (base_of m n) t
table_stands m n t e = table_in m.tables n 0 t (past_functions m.functions n (among_tables m.tables n) t (in_module m n (a_table t) refl e))
