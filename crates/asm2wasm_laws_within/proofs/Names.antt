-- What a property of all declarations says of what a name means.
use Rattle.std.proofs.Common.{◌≡◌, ℕ, ◌≤◌, Bool, true, false, List, [], ◌∷◌, length, Option, Some, None, refl, ap}
use Rattle.std.specs.Prelude.{bytes_eq, ◌||◌, codes, if◌then◌else◌}
use Rattle.std.specs.List.{AllByRecursion}
use Rattle.asm_lang.specs.Trees.{Init, number, decimal, foreign_int, foreign_double, member, math, view}
use Rattle.asm_lang.specs.Modules.{Variable, Param, Function, Table, Module}
use Rattle.asm_lang_valid.specs.declared.meaning.Element.{Element}
use Rattle.asm_lang_valid.specs.declared.meaning.Builtin.TheVariants.{Imul, Clz32}
use Rattle.asm_lang_valid.specs.Scope.{is_foreign, Meaning, nothing, an_int, an_outside, a_foreign, a_builtin, a_function, a_table, a_parameter, Constructor, constructors, constructor_in, viewed, init_meaning, among_globals, among_functions, among_tables, is_in, module_meaning, local_init, among_locals, among_params, meaning}
use Rattle.asm_lang_valid.specs.LimitRows.{member_length, longest_name}
use Rattle.asm_lang_valid.specs.Refusal.{is_view, any_view, has_heap}
use Rattle.asm2wasm_laws_within.specs.Laws.{ViewsMeanAHeap}

-- it holds of what isn't a declaration of the module that asks for something outside it
pub record Plainly (Q : Meaning → Type 0) : Type 0 where
  pub of_nothing : Q nothing
  pub of_int : Q an_int
  pub of_outside : Q an_outside
  pub of_parameter : Q a_parameter
  pub of_function : (f : Function) → Q (a_function f)
  pub of_table : (t : Table) → Q (a_table t)

module _ (Q : Meaning → Type 0) (plainly : Plainly Q) (m : Module) where
  choose : (b : Bool) (x y : Meaning) → Q x → Q y → Q (if b then x else y)
  choose true x y p q = p
  choose false x y p q = q

  in_tables : (ts : List Table) (n : List ℕ) → Q (among_tables ts n)
  in_tables [] n = plainly.of_nothing
  in_tables (t ∷ ts) n = choose (bytes_eq t.name n) (a_table t) (among_tables ts n) (plainly.of_table t) (in_tables ts n)

  in_functions : (fs : List Function) (n : List ℕ) (x : Meaning) → Q x → Q (among_functions fs n x)
  in_functions [] n x q = q
  in_functions (f ∷ fs) n x q = choose (bytes_eq f.name n) (a_function f) (among_functions fs n x) (plainly.of_function f) (in_functions fs n x q)

  in_globals : (vs : List Variable) (n : List ℕ) (x : Meaning) → AllByRecursion (λ (v : Variable). Q (init_meaning m v.init)) vs → Q x → Q (among_globals m vs n x)
  in_globals [] n x a q = q
  in_globals (v ∷ vs) n x a q = choose (bytes_eq v.name n) (init_meaning m v.init) (among_globals m vs n x) a.0 (in_globals vs n x a.1 q)

  local_holds : (i : Init) → Q (local_init i)
  local_holds (number z) = plainly.of_int
  local_holds (decimal bs) = plainly.of_outside
  local_holds (foreign_int f p) = plainly.of_outside
  local_holds (foreign_double f p) = plainly.of_outside
  local_holds (member f p) = plainly.of_outside
  local_holds (math f p) = plainly.of_outside
  local_holds (view f p h) = plainly.of_outside

  in_locals : (vs : List Variable) (n : List ℕ) (x : Meaning) → Q x → Q (among_locals vs n x)
  in_locals [] n x q = q
  in_locals (v ∷ vs) n x q = choose (bytes_eq v.name n) (local_init v.init) (among_locals vs n x) (local_holds v.init) (in_locals vs n x q)

  in_params : (ps : List Param) (n : List ℕ) (x : Meaning) → Q x → Q (among_params ps n x)
  in_params [] n x q = q
  in_params (p ∷ ps) n x q =
      choose (bytes_eq p.name n) (if p.double then an_outside else an_int) (among_params ps n x) (choose p.double an_outside an_int plainly.of_outside plainly.of_int) (in_params ps n x q)

  pub named_holds : AllByRecursion (λ (v : Variable). Q (init_meaning m v.init)) m.globals → (f : Function) (n : List ℕ) → Q (meaning m f n)
  named_holds a f n =
      let otherwise = among_functions m.functions n (among_tables m.tables n) in
      let declared = in_globals m.globals n otherwise a (in_functions m.functions n (among_tables m.tables n) (in_tables m.tables n)) in
      in_params f.params n (among_locals f.locals n (module_meaning m n))
      (in_locals f.locals n (module_meaning m n) (choose (is_in n m.params) a_parameter (among_globals m m.globals n otherwise) plainly.of_parameter declared))

-- ---- foreign functions

abbrev pub ForeignIsShort : Meaning → Type 0
ForeignIsShort (a_foreign p) = length p ≤ longest_name
ForeignIsShort _ = Unit {0}

pub foreign_plainly : Plainly ForeignIsShort
foreign_plainly = record { of_nothing = tt; of_int = tt; of_outside = tt; of_parameter = tt; of_function = λ f. tt; of_table = λ t. tt }

pub init_short : (m : Module) (i : Init) → member_length m i ≤ longest_name → ForeignIsShort (init_meaning m i)
init_short m (number z) h = tt
init_short m (decimal bs) h = tt
init_short m (foreign_int f p) h = tt
init_short m (foreign_double f p) h = tt
init_short m (member f p) h = by (is_foreign m f) h
  where
    by : (b : Bool) → (if b then length p else 0) ≤ longest_name → ForeignIsShort (if b then a_foreign p else an_outside)
    by true h = h
    by false h = tt
init_short m (math f p) h = by (bytes_eq (codes "imul") p) (bytes_eq (codes "clz32") p)
  where
    by : (a b : Bool) → ForeignIsShort (if a then a_builtin Imul else (if b then a_builtin Clz32 else an_outside))
    by true b = tt
    by false true = tt
    by false false = tt
init_short m (view f p h') h = by (constructor_in constructors p)
  where
    element : (e : Option Element) (n : List ℕ) → ForeignIsShort (viewed (Some (record { name = n; element = e })))
    element None n = tt
    element (Some e) n = tt

    by : (c : Option Constructor) → ForeignIsShort (viewed c)
    by None = tt
    by (Some c) = element c.element c.name

-- ---- views

abbrev HeapFor : Bool → Meaning → Type 0
HeapFor b x = is_view x ≡ true → b ≡ true

no_view : (b : Bool) → false ≡ true → b ≡ true
no_view b h = cc

views_plainly : (b : Bool) → Plainly (HeapFor b)
views_plainly b = record { of_nothing = no_view b; of_int = no_view b; of_outside = no_view b; of_parameter = no_view b; of_function = λ f. no_view b; of_table = λ t. no_view b }

or_first : (a b : Bool) → a ≡ true → (a || b) ≡ true
or_first true b h = refl
or_first false b h = cc

or_second : (a b : Bool) → b ≡ true → (a || b) ≡ true
or_second true b h = refl
or_second false b h = h

views_in : (m : Module) (b : Bool) (vs : List Variable) → (any_view m vs ≡ true → b ≡ true) → AllByRecursion (λ (v : Variable). HeapFor b (init_meaning m v.init)) vs
views_in m b [] h = tt
views_in m b (v ∷ vs) h =
    (λ is. h (or_first (is_view (init_meaning m v.init)) (any_view m vs) is), views_in m b vs (λ some. h (or_second (is_view (init_meaning m v.init)) (any_view m vs) some)))

pub views_mean_a_heap : ViewsMeanAHeap
views_mean_a_heap m f n e is = named_holds (HeapFor (has_heap m)) (views_plainly (has_heap m)) m (views_in m (has_heap m) m.globals (λ h. h)) f n (ap is_view is)
