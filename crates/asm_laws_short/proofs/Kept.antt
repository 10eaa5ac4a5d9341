-- Lists of which only some elements stay, and where the declaration of a name stands in a module.
use Rattle.std.proofs.Common.{◌≡◌, ℕ, zero, suc, ◌<◌, Bool, true, false, ◌||◌, List, [], ◌∷◌, length, Option, Some, None, refl, sym, ap, ◌∙◌, subst, ◌⊎◌, inl, inr, arith}
use Rattle.std.specs.Prelude.{if◌then◌else◌, map, bytes_eq, codes, slice_get, slice_index_or, Contains}
use Rattle.asm_lang.specs.Trees.{Init, number, decimal, foreign_int, foreign_double, member, math, view}
use Rattle.asm_lang.specs.Modules.{Variable, Function, Table, Module}
use Rattle.asm_lang_valid.specs.declared.meaning.Element.{Element}
use Rattle.asm_lang_valid.specs.declared.meaning.Builtin.TheVariants.{Imul, Clz32}
use Rattle.asm_lang_valid.specs.Scope.{is_foreign, Meaning, nothing, an_outside, a_foreign, a_builtin, a_function, a_table, Constructor, constructors, constructor_in, viewed, math_meaning, init_meaning, among_globals, among_functions, among_tables, is_in, module_meaning}
use Rattle.asm_lang_valid.specs.Refusal.{function_number}
use Rattle.asm_short_lang.specs.Reached.{Keeps, none, kept, left_out}
use Rattle.asm_laws_short.proofs.Lists.{same_name, itself, or_left, or_right, IsPartOf, no_part, stays, goes}

-- ---- elements

module _ {A : Type 0} where
  pub contains_here : (x y : A) (ys : List A) → y ≡ x → Contains (y ∷ ys) x
  contains_here x y ys e = (0, omega arith, e)

  pub contains_later : (x y : A) (ys : List A) → Contains ys x → Contains (y ∷ ys) x
  contains_later x y ys h = let lt = h.1 in (suc h.0, omega arith, h.2)

  pub contains_split : (x y : A) (ys : List A) → Contains (y ∷ ys) x → (y ≡ x) ⊎ Contains ys x
  contains_split x y ys h = by h.0 h.1 h.2
    where
      by : (k : ℕ) → k < length (y ∷ ys) → slice_index_or (y ∷ ys) k x ≡ x → (y ≡ x) ⊎ Contains ys x
      by zero lt e = inl e
      by (suc k) lt e = inr (k, omega arith, e)

  pub contains_none : (x : A) → Contains [] x → ⊥
  contains_none x h = let lt = h.1 in omega arith

  pub kept_part : {P : A → Type 0} {xs ys : List A} → Keeps P xs ys → IsPartOf ys xs
  kept_part none = no_part
  kept_part (kept p k) = stays (kept_part k)
  kept_part (left_out n k) = goes (kept_part k)

  pub kept_in : {P : A → Type 0} {xs ys : List A} (x : A) → Keeps P xs ys → Contains xs x → P x → Contains ys x
  kept_in x none c p = c
  kept_in {P} x (kept {x = y} {xs = xs} {ys = ys} q k) c p = by (contains_split x y xs c) (λ c. kept_in x k c p)
    where
      by : (y ≡ x) ⊎ Contains xs x → (Contains xs x → Contains ys x) → Contains (y ∷ ys) x
      by (inl e) rest = contains_here x y ys e
      by (inr c) rest = contains_later x y ys (rest c)
  kept_in {P} x (left_out {x = y} {xs = xs} {ys = ys} n k) c p = by (contains_split x y xs c) (λ c. kept_in x k c p)
    where
      by : (y ≡ x) ⊎ Contains xs x → (Contains xs x → Contains ys x) → Contains ys x
      by (inl e) rest = absurd (n (subst P (sym e) p))
      by (inr c) rest = rest c

  pub kept_has : {P : A → Type 0} {xs ys : List A} (x : A) → Keeps P xs ys → Contains ys x → P x × Contains xs x
  kept_has x none c = absurd (contains_none x c)
  kept_has {P} x (kept {x = y} {xs = xs} {ys = ys} q k) c = by (contains_split x y ys c) (λ c. kept_has x k c)
    where
      by : (y ≡ x) ⊎ Contains ys x → (Contains ys x → P x × Contains xs x) → P x × Contains (y ∷ xs) x
      by (inl e) rest = (subst P e q, contains_here x y xs e)
      by (inr c) rest = let r = rest c in (r.0, contains_later x y xs r.1)
  kept_has {P} x (left_out {x = y} {xs = xs} {ys = ys} n k) c = let r = kept_has x k c in (r.0, contains_later x y xs r.1)

-- one property gives one list
pub one_list : {A : Type 0} {P : A → Type 0} {xs ys zs : List A} → Keeps P xs ys → Keeps P xs zs → ys ≡ zs
one_list none none = refl
one_list (kept {x = x} p k) (kept q l) = ap (λ us. x ∷ us) (one_list k l)
one_list (kept p k) (left_out n l) = absurd (n p)
one_list (left_out n k) (kept p l) = absurd (n p)
one_list (left_out n k) (left_out o l) = one_list k l

pub contains_map : {A B : Type 0} (f : A → B) (xs : List A) (x : A) → Contains xs x → Contains (map f xs) (f x)
contains_map f [] x c = absurd (contains_none x c)
contains_map f (y ∷ ys) x c = by (contains_split x y ys c) (contains_map f ys x)
  where
    by : (y ≡ x) ⊎ Contains ys x → (Contains ys x → Contains (map f ys) (f x)) → Contains (f y ∷ map f ys) (f x)
    by (inl e) rest = contains_here (f x) (f y) (map f ys) (ap f e)
    by (inr c) rest = contains_later (f x) (f y) (map f ys) (rest c)

pub contains_of_map : {A B : Type 0} (f : A → B) (xs : List A) (y : B) → Contains (map f xs) y → (x : A) × Contains xs x × (f x ≡ y)
contains_of_map f [] y c = absurd (contains_none y c)
contains_of_map {A} {B} f (x ∷ xs) y c = by (contains_split y (f x) (map f xs) c) (contains_of_map f xs y)
  where
    by : (f x ≡ y) ⊎ Contains (map f xs) y → (Contains (map f xs) y → (z : A) × Contains xs z × (f z ≡ y)) → (z : A) × Contains (x ∷ xs) z × (f z ≡ y)
    by (inl e) rest = (x, contains_here x x xs refl, e)
    by (inr c) rest = let r = rest c in (r.0, contains_later r.0 x xs r.1, r.2)

pub function_named : (fs : List Function) (g : Function) → Contains fs g → is_in g.name (map (λ (f : Function). f.name) fs) ≡ true
function_named [] g c = absurd (contains_none g c)
function_named (f ∷ fs) g c = by (contains_split g f fs c) (function_named fs g)
  where
    by : (f ≡ g) ⊎ Contains fs g → (Contains fs g → is_in g.name (map (λ (f : Function). f.name) fs) ≡ true) → (bytes_eq f.name g.name || is_in g.name (map (λ (f : Function). f.name) fs)) ≡ true
    by (inl e) rest = or_left (bytes_eq f.name g.name) _ (subst (λ (h : Function). bytes_eq f.name h.name ≡ true) e (itself f.name))
    by (inr c) rest = or_right (bytes_eq f.name g.name) _ (rest c)

pub table_named : (ts : List Table) (u : Table) → Contains ts u → is_in u.name (map (λ (t : Table). t.name) ts) ≡ true
table_named [] u c = absurd (contains_none u c)
table_named (t ∷ ts) u c = by (contains_split u t ts c) (table_named ts u)
  where
    by : (t ≡ u) ⊎ Contains ts u → (Contains ts u → is_in u.name (map (λ (t : Table). t.name) ts) ≡ true) → (bytes_eq t.name u.name || is_in u.name (map (λ (t : Table). t.name) ts)) ≡ true
    by (inl e) rest = or_left (bytes_eq t.name u.name) _ (subst (λ (h : Table). bytes_eq t.name h.name ≡ true) e (itself t.name))
    by (inr c) rest = or_right (bytes_eq t.name u.name) _ (rest c)

-- ---- where the declaration of a name stands

-- neither a function nor a table
abbrev pub Plain : Meaning → Type 0
Plain (a_function f) = ⊥
Plain (a_table t) = ⊥
Plain _ = Unit {0}

plain_math : (p : List ℕ) → Plain (math_meaning p)
plain_math p = by (bytes_eq (codes "imul") p) (bytes_eq (codes "clz32") p)
  where
    by : (a b : Bool) → Plain (if a then a_builtin Imul else (if b then a_builtin Clz32 else an_outside))
    by true b = tt
    by false true = tt
    by false false = tt

plain_view : (o : Option Constructor) → Plain (viewed o)
plain_view None = tt
plain_view (Some c) = by c.element
  where
    by : (e : Option Element) → Plain (viewed (Some (record c { element = e })))
    by None = tt
    by (Some e) = tt

plain_init : (m : Module) (i : Init) → Plain (init_meaning m i)
plain_init m (number z) = tt
plain_init m (decimal bs) = tt
plain_init m (foreign_int f p) = tt
plain_init m (foreign_double f p) = tt
plain_init m (member f p) = by (is_foreign m f)
  where
    by : (b : Bool) → Plain (if b then a_foreign p else an_outside)
    by true = tt
    by false = tt
plain_init m (math f p) = plain_math p
plain_init m (view f p b) = plain_view (constructor_in constructors p)

pub data Standing (m : Module) (n : List ℕ) : Type 0 where
  in_front : is_in n m.params ≡ true → Plain (module_meaning m n) → Standing m n
  a_global : is_in n (map (λ (v : Variable). v.name) m.globals) ≡ true → Plain (module_meaning m n) → Standing m n
  of_function : (g : Function) → Contains m.functions g → g.name ≡ n → slice_get m.functions (function_number m.functions n) ≡ Some g → module_meaning m n ≡ a_function g → Standing m n
  of_table : (t : Table) → Contains m.tables t → t.name ≡ n → module_meaning m n ≡ a_table t → Standing m n
  nowhere_declared : module_meaning m n ≡ nothing → Standing m n

-- among globals, functions and tables

data AmongGlobals (m : Module) (vs : List Variable) (n : List ℕ) (o : Meaning) : Type 0 where
  this_global : is_in n (map (λ (v : Variable). v.name) vs) ≡ true → Plain (among_globals m vs n o) → AmongGlobals m vs n o
  no_global : among_globals m vs n o ≡ o → AmongGlobals m vs n o

look_globals : (m : Module) (vs : List Variable) (n : List ℕ) (o : Meaning) → AmongGlobals m vs n o
look_globals m [] n o = no_global refl
look_globals m (v ∷ vs) n o = by (bytes_eq v.name n) refl (look_globals m vs n o)
  where
    later : bytes_eq v.name n ≡ false → AmongGlobals m vs n o → AmongGlobals m (v ∷ vs) n o
    later e (this_global i p) = this_global (or_right (bytes_eq v.name n) _ i) (rw e p)
    later e (no_global p) = no_global (rw e p)

    by : (b : Bool) → bytes_eq v.name n ≡ b → AmongGlobals m vs n o → AmongGlobals m (v ∷ vs) n o
    by true e rest = this_global (or_left (bytes_eq v.name n) _ e) (rw e (plain_init m v.init))
    by false e rest = later e rest

data AmongFunctions (fs : List Function) (n : List ℕ) (o : Meaning) : Type 0 where
  this_function : (g : Function) → Contains fs g → g.name ≡ n → slice_get fs (function_number fs n) ≡ Some g → among_functions fs n o ≡ a_function g → AmongFunctions fs n o
  no_function : among_functions fs n o ≡ o → AmongFunctions fs n o

look_functions : (fs : List Function) (n : List ℕ) (o : Meaning) → AmongFunctions fs n o
look_functions [] n o = no_function refl
look_functions (f ∷ fs) n o = by (bytes_eq f.name n) refl (look_functions fs n o)
  where
    later : bytes_eq f.name n ≡ false → AmongFunctions fs n o → AmongFunctions (f ∷ fs) n o
    later e (this_function g c i s p) = this_function g (contains_later g f fs c) i (rw e s) (rw e p)
    later e (no_function p) = no_function (rw e p)

    by : (b : Bool) → bytes_eq f.name n ≡ b → AmongFunctions fs n o → AmongFunctions (f ∷ fs) n o
    by true e rest = this_function f (contains_here f f fs refl) (same_name f.name n e) (rw e refl) (rw e refl)
    by false e rest = later e rest

data AmongTables (ts : List Table) (n : List ℕ) : Type 0 where
  this_table : (t : Table) → Contains ts t → t.name ≡ n → among_tables ts n ≡ a_table t → AmongTables ts n
  no_table : among_tables ts n ≡ nothing → AmongTables ts n

look_tables : (ts : List Table) (n : List ℕ) → AmongTables ts n
look_tables [] n = no_table refl
look_tables (t ∷ ts) n = by (bytes_eq t.name n) refl (look_tables ts n)
  where
    later : bytes_eq t.name n ≡ false → AmongTables ts n → AmongTables (t ∷ ts) n
    later e (this_table u c i p) = this_table u (contains_later u t ts c) i (rw e p)
    later e (no_table p) = no_table (rw e p)

    by : (b : Bool) → bytes_eq t.name n ≡ b → AmongTables ts n → AmongTables (t ∷ ts) n
    by true e rest = this_table t (contains_here t t ts refl) (same_name t.name n e) (rw e refl)
    by false e rest = later e rest

pub standing : (m : Module) (n : List ℕ) → Standing m n
standing m n = by (is_in n m.params) refl
  where
    behind_functions : is_in n m.params ≡ false → among_globals m m.globals n (among_functions m.functions n (among_tables m.tables n)) ≡ among_functions m.functions n (among_tables m.tables n) → among_functions m.functions n (among_tables m.tables n) ≡ among_tables m.tables n → AmongTables m.tables n → Standing m n
    behind_functions e f g (this_table t c i p) = of_table t c i (rw e (f ∙ (g ∙ p)))
    behind_functions e f g (no_table p) = nowhere_declared (rw e (f ∙ (g ∙ p)))

    behind_globals : is_in n m.params ≡ false → among_globals m m.globals n (among_functions m.functions n (among_tables m.tables n)) ≡ among_functions m.functions n (among_tables m.tables n) → AmongFunctions m.functions n (among_tables m.tables n) → Standing m n
    behind_globals e f (this_function g c i s p) = of_function g c i s (rw e (f ∙ p))
    behind_globals e f (no_function p) = behind_functions e f p (look_tables m.tables n)

    behind_params : is_in n m.params ≡ false → AmongGlobals m m.globals n (among_functions m.functions n (among_tables m.tables n)) → Standing m n
    behind_params e (this_global i p) = a_global i (rw e p)
    behind_params e (no_global p) = behind_globals e p (look_functions m.functions n (among_tables m.tables n))

    by : (b : Bool) → is_in n m.params ≡ b → Standing m n
    by true e = in_front e (rw e tt)
    by false e = behind_params e (look_globals m m.globals n (among_functions m.functions n (among_tables m.tables n)))

-- what means a function stands among the functions, under its name
pub record FunctionAt (m : Module) (n : List ℕ) (g : Function) : Type 0 where
  pub inside : Contains m.functions g
  pub name : g.name ≡ n
  pub number : slice_get m.functions (function_number m.functions n) ≡ Some g

pub function_at : (m : Module) (n : List ℕ) (g : Function) → module_meaning m n ≡ a_function g → FunctionAt m n g
function_at m n g e = by (standing m n)
  where
    by : Standing m n → FunctionAt m n g
    by (in_front i p) = absurd (subst Plain e p)
    by (a_global i p) = absurd (subst Plain e p)
    by (of_function f c i s p) = let q : f ≡ g = cc in record { inside = subst (Contains m.functions) q c; name = ap (λ (h : Function). h.name) (sym q) ∙ i; number = s ∙ ap (λ (h : Function). Some h) q }
    by (of_table t c i p) = absurd (cc)
    by (nowhere_declared p) = absurd (cc)

pub record TableAt (m : Module) (n : List ℕ) (t : Table) : Type 0 where
  pub inside : Contains m.tables t
  pub name : t.name ≡ n

pub table_at : (m : Module) (n : List ℕ) (t : Table) → module_meaning m n ≡ a_table t → TableAt m n t
table_at m n t e = by (standing m n)
  where
    by : Standing m n → TableAt m n t
    by (in_front i p) = absurd (subst Plain e p)
    by (a_global i p) = absurd (subst Plain e p)
    by (of_function f c i s p) = absurd (cc)
    by (of_table u c i p) = let q : u ≡ t = cc in record { inside = subst (Contains m.tables) q c; name = ap (λ (h : Table). h.name) (sym q) ∙ i }
    by (nowhere_declared p) = absurd (cc)
