-- A function that a name means stands at the number of that name.
use Rattle.std.proofs.Common.{◌≡◌, ℕ, suc, Bool, true, false, List, [], ◌∷◌, Option, Some, None, ap}
use Rattle.std.specs.Prelude.{slice_get, if◌then◌else◌, bytes_eq, codes}
use Rattle.asm_lang.specs.Trees.{Init, number, decimal, foreign_int, foreign_double, member, math, view}
use Rattle.asm_lang.specs.Modules.{Variable, Function, Table, Module}
use Rattle.asm_lang_valid.specs.declared.meaning.Element.{Element}
use Rattle.asm_lang_valid.specs.declared.meaning.Builtin.TheVariants.{Imul, Clz32}
use Rattle.asm_lang_valid.specs.Scope.{is_foreign, Meaning, an_outside, a_foreign, a_builtin, a_function, a_table, a_parameter, Constructor, constructors, constructor_in, viewed, init_meaning, among_globals, among_functions, among_tables, is_in, module_meaning}
use Rattle.asm_lang_valid.specs.Refusal.{function_number}

abbrev IsNone : Meaning → Type 0
IsNone o = (g : Function) → o ≡ a_function g → ⊥

viewed_none : (o : Option Constructor) → IsNone (viewed o)
viewed_none None g e = cc e
viewed_none (Some c) g e = by c.element g e
  where
    by : (e : Option Element) → IsNone (viewed (Some (record c { element = e })))
    by None g e = cc e
    by (Some x) g e = cc e

init_none : (m : Module) (i : Init) → IsNone (init_meaning m i)
init_none m (number z) g e = cc e
init_none m (decimal bs) g e = cc e
init_none m (foreign_int f p) g e = cc e
init_none m (foreign_double f p) g e = cc e
init_none m (member f p) g e = by (is_foreign m f) g e
  where
    by : (b : Bool) → IsNone (if b then a_foreign p else an_outside)
    by true g e = cc e
    by false g e = cc e
init_none m (math f p) g e = by (bytes_eq (codes "imul") p) (bytes_eq (codes "clz32") p) g e
  where
    by : (a b : Bool) → IsNone (if a then a_builtin Imul else (if b then a_builtin Clz32 else an_outside))
    by true b g e = cc e
    by false true g e = cc e
    by false false g e = cc e
init_none m (view f p h) g e = viewed_none (constructor_in constructors p) g e

tables_none : (ts : List Table) (n : List ℕ) → IsNone (among_tables ts n)
tables_none [] n g e = cc e
tables_none (t ∷ ts) n g e = by (bytes_eq t.name n) (tables_none ts n) g e
  where
    by : (b : Bool) → IsNone (among_tables ts n) → IsNone (if b then a_table t else among_tables ts n)
    by true rest g e = cc e
    by false rest g e = rest g e

past_globals : (m : Module) (vs : List Variable) (n : List ℕ) (o : Meaning) (g : Function) → among_globals m vs n o ≡ a_function g → o ≡ a_function g
past_globals m [] n o g e = e
past_globals m (v ∷ vs) n o g e = by (bytes_eq v.name n) (past_globals m vs n o g) e
  where
    by : (b : Bool) → (among_globals m vs n o ≡ a_function g → o ≡ a_function g) → (if b then init_meaning m v.init else among_globals m vs n o) ≡ a_function g → o ≡ a_function g
    by true rest e = absurd (init_none m v.init g e)
    by false rest e = rest e

function_in : (fs : List Function) (n : List ℕ) (o : Meaning) (g : Function) → IsNone o → among_functions fs n o ≡ a_function g → slice_get fs (function_number fs n) ≡ Some g
function_in [] n o g none e = absurd (none g e)
function_in (f ∷ fs) n o g none e = by (bytes_eq f.name n) (function_in fs n o g none) e
  where
    by : (b : Bool) → (among_functions fs n o ≡ a_function g → slice_get fs (function_number fs n) ≡ Some g) → (if b then a_function f else among_functions fs n o) ≡ a_function g
        → slice_get (f ∷ fs) (if b then 0 else suc (function_number fs n)) ≡ Some g
    by true rest e = let same : f ≡ g = cc e in ap Some same
    by false rest e = rest e

pub function_stands : (m : Module) (n : List ℕ) (g : Function) → module_meaning m n ≡ a_function g → slice_get m.functions (function_number m.functions n) ≡ Some g
function_stands m n g e = by (is_in n m.params) e
  where
    by : (b : Bool) → (if b then a_parameter else among_globals m m.globals n (among_functions m.functions n (among_tables m.tables n))) ≡ a_function g → slice_get m.functions (function_number m.functions n) ≡ Some g
    by true e = cc e
    by false e = function_in m.functions n (among_tables m.tables n) g (tables_none m.tables n) (past_globals m m.globals n (among_functions m.functions n (among_tables m.tables n)) g e)
