-- The code of a module has what the names of the module stand for.
use Rattle.std.proofs.Common.{◌≡◌, ℕ, suc, Bool, true, false, List, [], ◌∷◌, map, Option, Some, None, refl, sym, ap, ◌∙◌}
use Rattle.std.specs.Prelude.{slice_get, option_map, codes, bytes_eq, if◌then◌else◌}
use Rattle.std.specs.Option.{unwrap_or}
use Rattle.std.proofs.lemmas.Option.{slice_get-map}
use Rattle.std.proofs.lemmas.Slice.Eq.{bytes_eq-Decides}
use Rattle.asm_lang.specs.Trees.{Init, number, decimal, foreign_int, foreign_double, member, math, view}
use Rattle.asm_lang.specs.Modules.{Variable, Function, Table, Module}
use Rattle.asm_lang_valid.specs.declared.meaning.Element.{Element}
use Rattle.asm_lang_valid.specs.declared.meaning.Builtin.TheVariants.{Imul, Clz32}
use Rattle.asm_lang_valid.specs.Scope.{is_foreign, is_name, Meaning, an_outside, a_foreign, a_builtin, a_function, a_table, a_parameter, Constructor, constructors, constructor_in, viewed, init_meaning, among_globals, among_functions, among_tables, is_in, module_meaning}
use Rattle.asm2wasm_lang.specs.Tables.{members_of}
use Rattle.asm2wasm_translation.specs.Numbers.{slot_of}
use Rattle.asm_run_code.specs.Machine.{Codes}
use Rattle.asm_run_code.specs.Names.{member_name, member_number, table_number}
use Rattle.asm_run_code.specs.Modules.{codes_of}
use Rattle.asm_run_laws.specs.Frames.{Setting}
use Rattle.asm_run_laws.proofs.Called.{imports, member_there}
use Rattle.asm_run_laws.proofs.Evaluated.{Made}

-- ---- foreign members

no_foreign_view : (o : Option Constructor) (p : List ℕ) → viewed o ≡ a_foreign p → ⊥
no_foreign_view None p h = cc h
no_foreign_view (Some k) p h = by k.element h
  where
    by : (e : Option Element) → viewed (Some (record k { element = e })) ≡ a_foreign p → ⊥
    by None h = cc h
    by (Some e) h = cc h

init_imports : (m : Module) (i : Init) (p : List ℕ) → init_meaning m i ≡ a_foreign p → is_name p (member_name i) ≡ true
init_imports m (number z) p h = absurd (cc h)
init_imports m (decimal bs) p h = absurd (cc h)
init_imports m (foreign_int f q) p h = absurd (cc h)
init_imports m (foreign_double f q) p h = absurd (cc h)
init_imports m (member f q) p h = by (is_foreign m f) h
  where
    by : (b : Bool) → (if b then a_foreign q else an_outside) ≡ a_foreign p → bytes_eq q p ≡ true
    by true h = let e : q ≡ p = cc h in (bytes_eq-Decides q p).1 e
    by false h = absurd (cc h)
init_imports m (math f q) p h = by (bytes_eq (codes "imul") q) (bytes_eq (codes "clz32") q) h
  where
    by : (a b : Bool) → (if a then a_builtin Imul else (if b then a_builtin Clz32 else an_outside)) ≡ a_foreign p → is_name p (member_name (math f q)) ≡ true
    by true b h = absurd (cc h)
    by false true h = absurd (cc h)
    by false false h = absurd (cc h)
init_imports m (view f q b) p h = absurd (no_foreign_view (constructor_in constructors q) p h)

globals_import : (m : Module) (vs : List Variable) (n : List ℕ) (o : Meaning) (p : List ℕ) → (o ≡ a_foreign p → ⊥) → among_globals m vs n o ≡ a_foreign p → imports vs p ≡ true
globals_import m [] n o p none h = absurd (none h)
globals_import m (v ∷ vs) n o p none h = by (bytes_eq v.name n) (globals_import m vs n o p none) h
  where
    later : (b : Bool) → imports vs p ≡ true → (if b then true else imports vs p) ≡ true
    later true k = refl
    later false k = k

    by : (b : Bool) → (among_globals m vs n o ≡ a_foreign p → imports vs p ≡ true) → (if b then init_meaning m v.init else among_globals m vs n o) ≡ a_foreign p → (if is_name p (member_name v.init) then true else imports vs p) ≡ true
    by true rest h = ap (λ b. if b then true else imports vs p) (init_imports m v.init p h)
    by false rest h = later (is_name p (member_name v.init)) (rest h)

no_foreign_table : (ts : List Table) (n p : List ℕ) → among_tables ts n ≡ a_foreign p → ⊥
no_foreign_table [] n p h = cc h
no_foreign_table (t ∷ ts) n p h = by (bytes_eq t.name n) (no_foreign_table ts n p) h
  where
    by : (b : Bool) → (among_tables ts n ≡ a_foreign p → ⊥) → (if b then a_table t else among_tables ts n) ≡ a_foreign p → ⊥
    by true rest h = cc h
    by false rest h = rest h

no_foreign_function : (fs : List Function) (n : List ℕ) (o : Meaning) (p : List ℕ) → (o ≡ a_foreign p → ⊥) → among_functions fs n o ≡ a_foreign p → ⊥
no_foreign_function [] n o p none h = none h
no_foreign_function (f ∷ fs) n o p none h = by (bytes_eq f.name n) (no_foreign_function fs n o p none) h
  where
    by : (b : Bool) → (among_functions fs n o ≡ a_foreign p → ⊥) → (if b then a_function f else among_functions fs n o) ≡ a_foreign p → ⊥
    by true rest h = cc h
    by false rest h = rest h

foreign_imports : (m : Module) (n p : List ℕ) → module_meaning m n ≡ a_foreign p → imports m.globals p ≡ true
foreign_imports m n p h = by (is_in n m.params) h
  where
    by : (b : Bool) → (if b then a_parameter else among_globals m m.globals n (among_functions m.functions n (among_tables m.tables n))) ≡ a_foreign p → imports m.globals p ≡ true
    by true h = absurd (cc h)
    by false h = globals_import m m.globals n _ p (no_foreign_function m.functions n (among_tables m.tables n) p (no_foreign_table m.tables n p)) h

-- ---- tables

tables_say : (ts : List Table) (n : List ℕ) (t : Table) → among_tables ts n ≡ a_table t → slice_get ts (unwrap_or (slot_of (map (λ (t : Table). t.name) ts) n) 0) ≡ Some t
tables_say [] n t h = absurd (cc h)
tables_say (u ∷ us) n t h = by (bytes_eq u.name n) (slot_of (map (λ (t : Table). t.name) us) n) refl (tables_say us n t) h
  where
    there : (us : List Table) (n : List ℕ) → slot_of (map (λ (t : Table). t.name) us) n ≡ None → among_tables us n ≡ a_table t → ⊥
    there [] n e h = cc h
    there (w ∷ us) n e h = test (bytes_eq w.name n) (slot_of (map (λ (t : Table). t.name) us) n) refl (there us n) e h
      where
        test : (b : Bool) (o : Option ℕ) → slot_of (map (λ (t : Table). t.name) us) n ≡ o → (slot_of (map (λ (t : Table). t.name) us) n ≡ None → among_tables us n ≡ a_table t → ⊥) → (if b then Some 0 else option_map (λ i. suc i) o) ≡ None → (if b then a_table w else among_tables us n) ≡ a_table t → ⊥
        test true o is rest e h = cc e
        test false None is rest e h = rest is h
        test false (Some i) is rest e h = cc e

    by : (b : Bool) (o : Option ℕ) → slot_of (map (λ (t : Table). t.name) us) n ≡ o → (among_tables us n ≡ a_table t → slice_get us (unwrap_or (slot_of (map (λ (t : Table). t.name) us) n) 0) ≡ Some t) → (if b then a_table u else among_tables us n) ≡ a_table t
        → slice_get (u ∷ us) (unwrap_or (if b then Some 0 else option_map (λ i. suc i) o) 0) ≡ Some t
    by true o is rest h = let e : u ≡ t = cc h in ap Some e
    by false None is rest h = absurd (there us n is h)
    by false (Some i) is rest h = sym (ap (λ o. slice_get us (unwrap_or o 0)) is) ∙ rest h

table_view : (o : Option Constructor) (t : Table) → viewed o ≡ a_table t → ⊥
table_view None t h = cc h
table_view (Some k) t h = by k.element h
  where
    by : (e : Option Element) → viewed (Some (record k { element = e })) ≡ a_table t → ⊥
    by None h = cc h
    by (Some e) h = cc h

table_init : (m : Module) (i : Init) (t : Table) → init_meaning m i ≡ a_table t → ⊥
table_init m (number z) t h = cc h
table_init m (decimal bs) t h = cc h
table_init m (foreign_int f q) t h = cc h
table_init m (foreign_double f q) t h = cc h
table_init m (member f q) t h = by (is_foreign m f) h
  where
    by : (b : Bool) → (if b then a_foreign q else an_outside) ≡ a_table t → ⊥
    by true h = cc h
    by false h = cc h
table_init m (math f q) t h = by (bytes_eq (codes "imul") q) (bytes_eq (codes "clz32") q) h
  where
    by : (a b : Bool) → (if a then a_builtin Imul else (if b then a_builtin Clz32 else an_outside)) ≡ a_table t → ⊥
    by true b h = cc h
    by false true h = cc h
    by false false h = cc h
table_init m (view f q b) t h = table_view (constructor_in constructors q) t h

table_global : (m : Module) (vs : List Variable) (n : List ℕ) (o : Meaning) (t : Table) → among_globals m vs n o ≡ a_table t → o ≡ a_table t
table_global m [] n o t h = h
table_global m (v ∷ vs) n o t h = by (bytes_eq v.name n) (table_global m vs n o t) h
  where
    by : (b : Bool) → (among_globals m vs n o ≡ a_table t → o ≡ a_table t) → (if b then init_meaning m v.init else among_globals m vs n o) ≡ a_table t → o ≡ a_table t
    by true rest h = absurd (table_init m v.init t h)
    by false rest h = rest h

table_function : (fs : List Function) (n : List ℕ) (o : Meaning) (t : Table) → among_functions fs n o ≡ a_table t → o ≡ a_table t
table_function [] n o t h = h
table_function (f ∷ fs) n o t h = by (bytes_eq f.name n) (table_function fs n o t) h
  where
    by : (b : Bool) → (among_functions fs n o ≡ a_table t → o ≡ a_table t) → (if b then a_function f else among_functions fs n o) ≡ a_table t → o ≡ a_table t
    by true rest h = absurd (cc h)
    by false rest h = rest h

table_said : (m : Module) (n : List ℕ) (t : Table) → module_meaning m n ≡ a_table t → slice_get m.tables (table_number m n) ≡ Some t
table_said m n t h = by (is_in n m.params) h
  where
    by : (b : Bool) → (if b then a_parameter else among_globals m m.globals n (among_functions m.functions n (among_tables m.tables n))) ≡ a_table t → slice_get m.tables (table_number m n) ≡ Some t
    by true h = absurd (cc h)
    by false h = tables_say m.tables n t (table_function m.functions n (among_tables m.tables n) t (table_global m m.globals n _ t h))

pub is_made : (s : Setting) → s.codes ≡ codes_of s.home → Made s
is_made s e = record {
  foreign = λ n p h. ap (λ (c : Codes). slice_get c.members (member_number s.home.globals p)) e ∙ member_there s.home.globals p (foreign_imports s.home n p h);
  tables = λ n t h. ap (λ (c : Codes). slice_get c.tables (table_number s.home n)) e ∙ slice_get-map (members_of s.home) s.home.tables (table_number s.home n) ∙ ap (option_map (members_of s.home)) (table_said s.home n t h);
}
