-- What a name stands for that is a function, a table or a view.
use Rattle.std.proofs.Common.{◌≡◌, ℕ, suc, Bool, true, false, ◌||◌, List, [], ◌∷◌, Option, Some, None, refl, sym, ap, ◌∙◌, subst}
use Rattle.std.specs.Prelude.{slice_get, codes, bytes_eq, if◌then◌else◌}
use Rattle.asm_lang.specs.Trees.{Init, number, decimal, foreign_int, foreign_double, member, math, view}
use Rattle.asm_lang.specs.Modules.{Variable, Function, Table, Module}
use Rattle.asm_lang_valid.specs.declared.meaning.Element.{Element}
use Rattle.asm_lang_valid.specs.declared.meaning.Builtin.TheVariants.{Imul, Clz32}
use Rattle.asm_lang_valid.specs.Scope.{is_foreign, Meaning, an_int, an_outside, a_foreign, a_builtin, a_view, a_function, a_table, a_parameter, Constructor, constructors, constructor_in, viewed, init_meaning, among_globals, among_functions, among_tables, is_in, module_meaning, meaning}
use Rattle.asm_lang_valid.specs.Refusal.{is_view, any_view, has_heap, function_number}
use Rattle.asm_laws_sound.proofs.Names.{kinds_of, kind_in, of_kind, name_meaning}

-- an int and what is outside are no such names
abbrev pub Plain : Meaning → Type 0
Plain an_int = Unit {0}
Plain an_outside = Unit {0}
Plain mm = ⊥

-- a name that isn't a variable of the function stands for what it does in the module
pub in_module : (m : Module) (f : Function) (n : List ℕ) (mm : Meaning) → meaning m f n ≡ mm → (Plain mm → ⊥) → module_meaning m n ≡ mm
in_module m f n mm h not_plain = by (kind_in n (kinds_of f)) (sym (name_meaning m f n) ∙ h)
  where
    by : (o : Option Bool) → of_kind o (module_meaning m n) ≡ mm → module_meaning m n ≡ mm
    by None h = h
    by (Some true) h = absurd (not_plain (subst Plain h tt))
    by (Some false) h = absurd (not_plain (subst Plain h tt))

-- ---- functions

functions_say : (fs : List Function) (n : List ℕ) (o : Meaning) (g : Function) → (o ≡ a_function g → ⊥) → among_functions fs n o ≡ a_function g → slice_get fs (function_number fs n) ≡ Some g
functions_say [] n o g none h = absurd (none h)
functions_say (f ∷ fs) n o g none h = by (bytes_eq f.name n) (functions_say fs n o g none) h
  where
    by : (b : Bool) → (among_functions fs n o ≡ a_function g → slice_get fs (function_number fs n) ≡ Some g) → (if b then a_function f else among_functions fs n o) ≡ a_function g
        → slice_get (f ∷ fs) (if b then 0 else suc (function_number fs n)) ≡ Some g
    by true rest h = let e : f ≡ g = cc h in ap Some e
    by false rest h = rest h

no_table : (ts : List Table) (n : List ℕ) (g : Function) → among_tables ts n ≡ a_function g → ⊥
no_table [] n g h = cc h
no_table (t ∷ ts) n g h = by (bytes_eq t.name n) (no_table ts n g) h
  where
    by : (b : Bool) → (among_tables ts n ≡ a_function g → ⊥) → (if b then a_table t else among_tables ts n) ≡ a_function g → ⊥
    by true rest h = cc h
    by false rest h = rest h

no_view : (o : Option Constructor) (g : Function) → viewed o ≡ a_function g → ⊥
no_view None g h = cc h
no_view (Some c) g h = by c.element h
  where
    by : (e : Option Element) → viewed (Some (record c { element = e })) ≡ a_function g → ⊥
    by None h = cc h
    by (Some e) h = cc h

no_init : (m : Module) (i : Init) (g : Function) → init_meaning m i ≡ a_function g → ⊥
no_init m (number z) g h = cc h
no_init m (decimal bs) g h = cc h
no_init m (foreign_int f p) g h = cc h
no_init m (foreign_double f p) g h = cc h
no_init m (member f p) g h = by (is_foreign m f) h
  where
    by : (b : Bool) → (if b then a_foreign p else an_outside) ≡ a_function g → ⊥
    by true h = cc h
    by false h = cc h
no_init m (math f p) g h = by (bytes_eq (codes "imul") p) (bytes_eq (codes "clz32") p) h
  where
    by : (a b : Bool) → (if a then a_builtin Imul else (if b then a_builtin Clz32 else an_outside)) ≡ a_function g → ⊥
    by true b h = cc h
    by false true h = cc h
    by false false h = cc h
no_init m (view f p b) g h = no_view (constructor_in constructors p) g h

globals_say : (m : Module) (vs : List Variable) (n : List ℕ) (o : Meaning) (g : Function) → among_globals m vs n o ≡ a_function g → o ≡ a_function g
globals_say m [] n o g h = h
globals_say m (v ∷ vs) n o g h = by (bytes_eq v.name n) (globals_say m vs n o g) h
  where
    by : (b : Bool) → (among_globals m vs n o ≡ a_function g → o ≡ a_function g) → (if b then init_meaning m v.init else among_globals m vs n o) ≡ a_function g → o ≡ a_function g
    by true rest h = absurd (no_init m v.init g h)
    by false rest h = rest h

-- a name of a function stands at its number
pub function_said : (m : Module) (n : List ℕ) (g : Function) → module_meaning m n ≡ a_function g → slice_get m.functions (function_number m.functions n) ≡ Some g
function_said m n g h = by (is_in n m.params) h
  where
    by : (b : Bool) → (if b then a_parameter else among_globals m m.globals n (among_functions m.functions n (among_tables m.tables n))) ≡ a_function g → slice_get m.functions (function_number m.functions n) ≡ Some g
    by true h = absurd (cc h)
    by false h = functions_say m.functions n (among_tables m.tables n) g (no_table m.tables n g) (globals_say m m.globals n (among_functions m.functions n (among_tables m.tables n)) g h)

-- ---- views

view_table : (ts : List Table) (n : List ℕ) (v : Element) → among_tables ts n ≡ a_view v → ⊥
view_table [] n v h = cc h
view_table (t ∷ ts) n v h = by (bytes_eq t.name n) (view_table ts n v) h
  where
    by : (b : Bool) → (among_tables ts n ≡ a_view v → ⊥) → (if b then a_table t else among_tables ts n) ≡ a_view v → ⊥
    by true rest h = cc h
    by false rest h = rest h

view_function : (fs : List Function) (n : List ℕ) (o : Meaning) (v : Element) → (o ≡ a_view v → ⊥) → among_functions fs n o ≡ a_view v → ⊥
view_function [] n o v none h = none h
view_function (f ∷ fs) n o v none h = by (bytes_eq f.name n) (view_function fs n o v none) h
  where
    by : (b : Bool) → (among_functions fs n o ≡ a_view v → ⊥) → (if b then a_function f else among_functions fs n o) ≡ a_view v → ⊥
    by true rest h = cc h
    by false rest h = rest h

or_true : (b : Bool) → (b || true) ≡ true
or_true true = refl
or_true false = refl

view_global : (m : Module) (vs : List Variable) (n : List ℕ) (o : Meaning) (v : Element) → (o ≡ a_view v → ⊥) → among_globals m vs n o ≡ a_view v → any_view m vs ≡ true
view_global m [] n o v none h = absurd (none h)
view_global m (u ∷ vs) n o v none h = by (bytes_eq u.name n) (view_global m vs n o v none) h
  where
    by : (b : Bool) → (among_globals m vs n o ≡ a_view v → any_view m vs ≡ true) → (if b then init_meaning m u.init else among_globals m vs n o) ≡ a_view v → (is_view (init_meaning m u.init) || any_view m vs) ≡ true
    by true rest h = ap (λ mm. is_view mm || any_view m vs) h
    by false rest h = ap (λ b. is_view (init_meaning m u.init) || b) (rest h) ∙ or_true (is_view (init_meaning m u.init))

-- a module with a view has a heap
pub view_said : (m : Module) (n : List ℕ) (v : Element) → module_meaning m n ≡ a_view v → has_heap m ≡ true
view_said m n v h = by (is_in n m.params) h
  where
    by : (b : Bool) → (if b then a_parameter else among_globals m m.globals n (among_functions m.functions n (among_tables m.tables n))) ≡ a_view v → has_heap m ≡ true
    by true h = absurd (cc h)
    by false h = view_global m m.globals n (among_functions m.functions n (among_tables m.tables n)) v (view_function m.functions n (among_tables m.tables n) v (view_table m.tables n v)) h
