-- The imports of a translated module are those that are asked for, and it has a heap where its source has a memory.
use Rattle.std.proofs.Common.{◌≡◌, ℕ, zero, suc, Bool, true, false, ◌||◌, List, [], ◌∷◌, ◌++◌, length, Option, Some, None, refl, sym, ap, ◌∙◌, subst}
use Rattle.std.specs.Prelude.{slice_get, option_map, bytes_eq, if◌then◌else◌}
use Rattle.std.specs.List.{AllByRecursion, flat_map}
use Rattle.std.proofs.lemmas.List.{append_assoc, append-nil}
use Rattle.session_lang.specs.Imports.{high_name}
use Rattle.session_lang.specs.Observation.{trap_name}
use Rattle.session_lang.specs.Names.{import_name}
use Rattle.wasm_lang.specs.declared.types.ImportKind.{ImportKind}
use Rattle.wasm_lang.specs.declared.types.ImportKind.TheVariants as imports
use Rattle.wasm_lang.specs.Instructions.{Instruction, plain, const32, const64, global_get}
use Rattle.wasm_lang.specs.Modules.{FunctionType, Imported, GlobalEntry, FunctionBody, WasmModule}
use Rattle.wasm_lang_valid.specs.ModuleRules.{has_memory}
use Rattle.wasm_lang_valid.specs.Validity.{IsValidModule}
use Rattle.wasm_lang_exec.specs.Code.{Trees, tree_of}
use Rattle.wasm_lang_exec.specs.Fits.{GlobalImport, global_imports, global_names}
use Rattle.wasm_lang_exec.specs.Reductions as machine
use Rattle.wasm_lang_exec.specs.Reductions.{Callee, an_import, a_function, imported_callee, imported_callees, own_callee, own_callees, callees}
use Rattle.asm_lang.specs.Trees.{Init, number, decimal, foreign_int, foreign_double, member, math, view}
use Rattle.asm_lang.specs.Modules.{Variable, Module}
use Rattle.asm_lang_valid.specs.Scope.{is_foreign, init_meaning, a_foreign, an_outside, is_in}
use Rattle.asm_lang_valid.specs.Refusal as text
use Rattle.asm_lang_valid.specs.Refusal.{is_view, any_view, has_heap, with_global, foreign_globals}
use Rattle.wasm2js_lang.specs.Calling.{if_function, functions_asked, globals_asked, function_member, foreign_functions, double_member, foreign_doubles, AreAmong}
use Rattle.wasm2js_translation.specs.Names.{Name, numbered, global_low}
use Rattle.wasm2js_translation.specs.Modules.{foreign_name, view_variables, fixed_variables, foreign_variables, given_variable, imported_variables, first_values, own_variables, global_variables, variables_of, translated}
use Rattle.wasm2js_laws_acceptance.proofs.ProvidedEntries.{is_itself}
use Rattle.wasm2js_laws_acceptance.proofs.ProvidedForeign.{HasType, type_there, is_less, imports_typed}
use Rattle.wasm2js_laws_acceptance.proofs.NamesFresh.{all_join}

-- ---- names in lists

or_right : (a b : Bool) → b ≡ true → (a || b) ≡ true
or_right true b h = refl
or_right false b h = h

or_left : (a b : Bool) → a ≡ true → (a || b) ≡ true
or_left true b h = refl
or_left false b h = cc h

first_in : (n : List ℕ) (xs : List (List ℕ)) → is_in n (n ∷ xs) ≡ true
first_in n xs = or_left (bytes_eq n n) (is_in n xs) (is_itself n)

in_front : (n : List ℕ) (xs ys : List (List ℕ)) → is_in n xs ≡ true → is_in n (xs ++ ys) ≡ true
in_front n [] ys h = cc h
in_front n (x ∷ xs) ys h = by (bytes_eq x n) h (in_front n xs ys)
  where
    by : (b : Bool) → (b || is_in n xs) ≡ true → (is_in n xs ≡ true → is_in n (xs ++ ys) ≡ true) → (b || is_in n (xs ++ ys)) ≡ true
    by true h more = refl
    by false h more = more h

in_back : (n : List ℕ) (xs ys : List (List ℕ)) → is_in n ys ≡ true → is_in n (xs ++ ys) ≡ true
in_back n [] ys h = h
in_back n (x ∷ xs) ys h = or_right (bytes_eq x n) (is_in n (xs ++ ys)) (in_back n xs ys h)

-- names are among themselves, and what stands before them
among_ends : (front xs : List (List ℕ)) → AreAmong xs (front ++ xs)
among_ends front [] = tt
among_ends front (x ∷ xs) = (in_back x front (x ∷ xs) (first_in x xs), subst (AreAmong xs) (append_assoc front (x ∷ []) xs) (among_ends (front ++ x ∷ []) xs))

one_among : (xs ys : List (List ℕ)) (x : List ℕ) → AreAmong xs ys → is_in x ys ≡ true → AreAmong (xs ++ x ∷ []) ys
one_among [] ys x h k = (k, tt)
one_among (y ∷ xs) ys x h k = (h.0, one_among xs ys x h.1 k)

-- ---- groups of variables

flat_join : {A B : Type 0} (f : A → List B) (xs ys : List A) → flat_map f (xs ++ ys) ≡ flat_map f xs ++ flat_map f ys
flat_join f [] ys = refl
flat_join f (x ∷ xs) ys = ap (λ r. f x ++ r) (flat_join f xs ys) ∙ sym (append_assoc (f x) (flat_map f xs) (flat_map f ys))

-- an int that the host gives, or a number
abbrev IsValue : Init → Type 0
IsValue (number z) = Unit {0}
IsValue (foreign_int f p) = Unit {0}
IsValue i = ⊥

-- .. or a foreign function
abbrev IsSimple : Init → Type 0
IsSimple (member f p) = Unit {0}
IsSimple i = IsValue i

abbrev AreValues : List Variable → Type 0
AreValues vs = AllByRecursion (λ (v : Variable). IsValue v.init) vs

abbrev AreSimple : List Variable → Type 0
AreSimple vs = AllByRecursion (λ (v : Variable). IsSimple v.init) vs

value_simple : (i : Init) → IsValue i → IsSimple i
value_simple (number z) h = tt
value_simple (foreign_int f p) h = tt
value_simple (decimal bs) h = absurd h
value_simple (foreign_double f p) h = absurd h
value_simple (member f p) h = absurd h
value_simple (math f p) h = absurd h
value_simple (view f p x) h = absurd h

values_simple : (vs : List Variable) → AreValues vs → AreSimple vs
values_simple [] h = tt
values_simple (v ∷ vs) h = (value_simple v.init h.0, values_simple vs h.1)

given_value : (n : Name) (o : Option GlobalImport) → IsValue (given_variable n o).init
given_value n None = tt
given_value n (Some g) = tt

imported_values : (k : ℕ) (gs : List GlobalImport) → AreValues (imported_variables k gs)
imported_values k [] = tt
imported_values k (g ∷ gs) = (tt, imported_values (suc k) gs)

first_are_values : (given : List GlobalImport) (k : ℕ) (is : List Instruction) → AreValues (first_values given k is)
first_are_values given k (plain (const32 n) ∷ is) = (tt, tt)
first_are_values given k (plain (const64 n) ∷ is) = (tt, (tt, tt))
first_are_values given k (plain (global_get x) ∷ is) = (given_value (numbered global_low k) (slice_get given x), tt)
first_are_values given k is = tt

own_values : (given : List GlobalImport) (k : ℕ) (gs : List GlobalEntry) → AreValues (own_variables given k gs)
own_values given k [] = tt
own_values given k (g ∷ gs) = all_join (λ (v : Variable). IsValue v.init) (first_values given k g.init) (own_variables given (suc k) gs) (first_are_values given k g.init) (own_values given (suc k) gs)

globals_are_values : (w : WasmModule) → AreValues (global_variables w)
globals_are_values w =
    let given = global_imports w.imports in
    all_join (λ (v : Variable). IsValue v.init) (imported_variables 0 given) (own_variables given (length given) w.globals) (imported_values 0 given) (own_values given (length given) w.globals)

foreign_simple : (k : ℕ) (cs : List (Option Callee)) → AreSimple (foreign_variables k cs)
foreign_simple k [] = tt
foreign_simple k (None ∷ cs) = tt
foreign_simple k (Some (an_import name t) ∷ cs) = (tt, foreign_simple (suc k) cs)
foreign_simple k (Some (a_function t more code) ∷ cs) = tt

-- ---- what a module asks its host for, where the foreign object has its name

module _ (m : Module) (is : is_foreign m foreign_name ≡ true) where
  abbrev functions_in : List Variable → List (List ℕ)
  functions_in vs = flat_map (λ (v : Variable). function_member m v.init) vs

  abbrev doubles_in : List Variable → List (List ℕ)
  doubles_in vs = flat_map (λ (v : Variable). double_member v.init) vs

  no_functions : (vs : List Variable) → AreValues vs → functions_in vs ≡ []
  no_functions [] h = refl
  no_functions (v ∷ vs) h = by v.init h.0 (no_functions vs h.1)
    where
      by : (i : Init) → IsValue i → functions_in vs ≡ [] → function_member m i ++ functions_in vs ≡ []
      by (number z) k more = more
      by (foreign_int f p) k more = more
      by (decimal bs) k more = absurd k
      by (foreign_double f p) k more = absurd k
      by (member f p) k more = absurd k
      by (math f p) k more = absurd k
      by (view f p x) k more = absurd k

  no_doubles_in : (vs : List Variable) → AreSimple vs → doubles_in vs ≡ []
  no_doubles_in [] h = refl
  no_doubles_in (v ∷ vs) h = by v.init h.0 (no_doubles_in vs h.1)
    where
      by : (i : Init) → IsSimple i → doubles_in vs ≡ [] → double_member i ++ doubles_in vs ≡ []
      by (number z) k more = more
      by (foreign_int f p) k more = more
      by (member f p) k more = more
      by (decimal bs) k more = absurd k
      by (foreign_double f p) k more = absurd k
      by (math f p) k more = absurd k
      by (view f p x) k more = absurd k

  no_views : (vs : List Variable) → AreSimple vs → any_view m vs ≡ false
  no_views [] h = refl
  no_views (v ∷ vs) h = by v.init h.0 (no_views vs h.1)
    where
      by : (i : Init) → IsSimple i → any_view m vs ≡ false → (is_view (init_meaning m i) || any_view m vs) ≡ false
      by (number z) k more = more
      by (foreign_int f p) k more = more
      by (member f p) k more = of (is_foreign m f)
        where
          of : (b : Bool) → (is_view (if b then a_foreign p else an_outside) || any_view m vs) ≡ false
          of true = more
          of false = more
      by (decimal bs) k more = absurd k
      by (foreign_double f p) k more = absurd k
      by (math f p) k more = absurd k
      by (view f p x) k more = absurd k

  abbrev head : Bool → List Variable
  head b = (if b then view_variables else []) ++ fixed_variables

  head_functions : (b : Bool) → functions_in (head b) ≡ trap_name ∷ high_name ∷ []
  head_functions true = ap (λ b. (if b then trap_name ∷ [] else []) ++ ((if b then high_name ∷ [] else []) ++ [])) is
  head_functions false = ap (λ b. (if b then trap_name ∷ [] else []) ++ ((if b then high_name ∷ [] else []) ++ [])) is

  head_doubles : (b : Bool) → doubles_in (head b) ≡ []
  head_doubles true = refl
  head_doubles false = refl

  head_views : (b : Bool) (vs : List Variable) → any_view m vs ≡ false → any_view m (head b ++ vs) ≡ b
  head_views true vs h = refl
  head_views false vs h = ap (λ b. is_view (if b then a_foreign trap_name else an_outside) || (is_view (if b then a_foreign high_name else an_outside) || any_view m vs)) is ∙ h

  -- ---- imported functions

  module _ (w : WasmModule) where
    abbrev own : List (Option Callee)
    own = own_callees w w.functions w.bodies

    own_none : (k : ℕ) (ts : List ℕ) (bs : List FunctionBody) → functions_in (foreign_variables k (own_callees w ts bs)) ≡ []
    own_none k [] [] = refl
    own_none k [] (b ∷ bs) = refl
    own_none k (t ∷ ts) [] = refl
    own_none k (t ∷ ts) (b ∷ bs) = by (slice_get w.types t) (tree_of b.code)
      where
        by : (o : Option FunctionType) (tree : Option Trees) → functions_in (foreign_variables k (own_callee o b tree ∷ own_callees w ts bs)) ≡ []
        by None tree = refl
        by (Some u) None = refl
        by (Some u) (Some code) = refl

    abbrev asked_in : List Imported → List (List ℕ)
    asked_in xs = flat_map (λ (i : Imported). if_function i.kind (import_name i.module_name i.name)) xs

    imported_asked : (xs : List Imported) (k : ℕ) → ((n : ℕ) (i : Imported) → slice_get xs n ≡ Some i → HasType w i.kind)
        → functions_in (foreign_variables k (imported_callees w xs ++ own)) ≡ asked_in xs
    imported_asked [] k h = own_none k w.functions w.bodies
    imported_asked (i ∷ xs) k h = by i.kind (h 0 i refl) (λ k. imported_asked xs k (λ n x e. h (suc n) x e))
      where
        by : (kind : ImportKind) → HasType w kind → ((k : ℕ) → functions_in (foreign_variables k (imported_callees w xs ++ own)) ≡ asked_in xs)
            → functions_in (foreign_variables k (machine.if_function kind (λ t. imported_callee w i t ∷ imported_callees w xs) (imported_callees w xs) ++ own))
            ≡ if_function kind (import_name i.module_name i.name) ++ asked_in xs
        by (imports.Func t) typed more =
            let u = type_there w w.types t (is_less w t (length w.types) typed) in
            ap (λ o. functions_in (foreign_variables k ((option_map (an_import (import_name i.module_name i.name)) o ∷ imported_callees w xs) ++ own))) u.1
            ∙ ap (λ b. (if b then import_name i.module_name i.name ∷ [] else []) ++ functions_in (foreign_variables (suc k) (imported_callees w xs ++ own))) is
            ∙ ap (λ names. import_name i.module_name i.name ∷ names) (more (suc k))
        by (imports.Table l) typed more = more k
        by (imports.Memory l) typed more = more k
        by (imports.Global g) typed more = more k

    pub functions_are : IsValidModule w → functions_in (variables_of w) ≡ trap_name ∷ high_name ∷ functions_asked w
    functions_are valid =
        let foreign = foreign_variables 0 (callees w) in
        flat_join (λ (v : Variable). function_member m v.init) (head (has_memory w) ++ foreign) (global_variables w)
        ∙ ap (λ xs. functions_in (head (has_memory w) ++ foreign) ++ xs) (no_functions (global_variables w) (globals_are_values w))
        ∙ append-nil (functions_in (head (has_memory w) ++ foreign))
        ∙ flat_join (λ (v : Variable). function_member m v.init) (head (has_memory w)) foreign
        ∙ ap (λ xs. xs ++ functions_in foreign) (head_functions (has_memory w))
        ∙ ap (λ xs. trap_name ∷ high_name ∷ xs) (imported_asked w.imports 0 (imports_typed w valid))

    rest_simple : AreSimple (foreign_variables 0 (callees w) ++ global_variables w)
    rest_simple =
        all_join (λ (v : Variable). IsSimple v.init) (foreign_variables 0 (callees w)) (global_variables w) (foreign_simple 0 (callees w)) (values_simple (global_variables w) (globals_are_values w))

    no_doubles_are : doubles_in (variables_of w) ≡ []
    no_doubles_are =
        ap doubles_in (append_assoc (head (has_memory w)) (foreign_variables 0 (callees w)) (global_variables w))
        ∙ flat_join (λ (v : Variable). double_member v.init) (head (has_memory w)) (foreign_variables 0 (callees w) ++ global_variables w)
        ∙ ap (λ xs. xs ++ doubles_in (foreign_variables 0 (callees w) ++ global_variables w)) (head_doubles (has_memory w))
        ∙ no_doubles_in (foreign_variables 0 (callees w) ++ global_variables w) rest_simple

    views_are : any_view m (variables_of w) ≡ has_memory w
    views_are =
        ap (any_view m) (append_assoc (head (has_memory w)) (foreign_variables 0 (callees w)) (global_variables w))
        ∙ head_views (has_memory w) (foreign_variables 0 (callees w) ++ global_variables w) (no_views (foreign_variables 0 (callees w) ++ global_variables w) rest_simple)

-- ---- imported globals

-- one that is given has one of these names
abbrev IsOneOf : List (List ℕ) → Init → Type 0
IsOneOf asked (foreign_int f p) = is_in p asked ≡ true
IsOneOf asked i = Unit {0}

abbrev AreOf : List (List ℕ) → List Variable → Type 0
AreOf asked vs = AllByRecursion (λ (v : Variable). IsOneOf asked v.init) vs

seen_among : (asked seen : List (List ℕ)) (vs : List Variable) → AreOf asked vs → AreAmong seen asked → AreAmong (text.global_imports seen vs) asked
seen_among asked seen [] h k = k
seen_among asked seen (v ∷ vs) h k = seen_among asked (with_global seen v.init) vs h.1 (by v.init h.0)
  where
    by : (i : Init) → IsOneOf asked i → AreAmong (with_global seen i) asked
    by (foreign_int f p) one = of (is_in p seen)
      where
        of : (b : Bool) → AreAmong (if b then seen else seen ++ p ∷ []) asked
        of true = k
        of false = one_among seen asked p k one
    by (number z) one = k
    by (member f p) one = k
    by (decimal bs) one = k
    by (foreign_double f p) one = k
    by (math f p) one = k
    by (view f p x) one = k

seen_stays : (n : List ℕ) (seen : List (List ℕ)) (vs : List Variable) → is_in n seen ≡ true → is_in n (text.global_imports seen vs) ≡ true
seen_stays n seen [] h = h
seen_stays n seen (v ∷ vs) h = seen_stays n (with_global seen v.init) vs (by v.init)
  where
    by : (i : Init) → is_in n (with_global seen i) ≡ true
    by (foreign_int f p) = of (is_in p seen)
      where
        of : (b : Bool) → is_in n (if b then seen else seen ++ p ∷ []) ≡ true
        of true = h
        of false = in_front n seen (p ∷ []) h
    by (number z) = h
    by (member f p) = h
    by (decimal bs) = h
    by (foreign_double f p) = h
    by (math f p) = h
    by (view f p x) = h

is_seen : (p : List ℕ) (seen : List (List ℕ)) → is_in p (if is_in p seen then seen else seen ++ p ∷ []) ≡ true
is_seen p seen = by (is_in p seen) refl
  where
    by : (b : Bool) → is_in p seen ≡ b → is_in p (if b then seen else seen ++ p ∷ []) ≡ true
    by true e = e
    by false e = in_back p seen (p ∷ []) (first_in p [])

imports_seen : (seen : List (List ℕ)) (k : ℕ) (gs : List GlobalImport) (rest : List Variable) → AreAmong (global_names gs) (text.global_imports seen (imported_variables k gs ++ rest))
imports_seen seen k [] rest = tt
imports_seen seen k (g ∷ gs) rest = (
  seen_stays g.name (if is_in g.name seen then seen else seen ++ g.name ∷ []) (imported_variables (suc k) gs ++ rest) (is_seen g.name seen),
  imports_seen (if is_in g.name seen then seen else seen ++ g.name ∷ []) (suc k) gs rest,
)

seen_join : (seen : List (List ℕ)) (vs ws : List Variable) → text.global_imports seen (vs ++ ws) ≡ text.global_imports (text.global_imports seen vs) ws
seen_join seen [] ws = refl
seen_join seen (v ∷ vs) ws = seen_join (with_global seen v.init) vs ws

-- ---- .. of a translated module

module _ (w : WasmModule) where
  abbrev given : List GlobalImport
  given = global_imports w.imports

  given_in : (gs : List GlobalImport) (x : ℕ) (g : GlobalImport) → slice_get gs x ≡ Some g → is_in g.name (global_names gs) ≡ true
  given_in [] x g e = cc e
  given_in (f ∷ gs) zero g e = let same : f ≡ g = cc e in subst (λ (g : GlobalImport). is_in g.name (f.name ∷ global_names gs) ≡ true) same (first_in f.name (global_names gs))
  given_in (f ∷ gs) (suc x) g e = or_right (bytes_eq f.name g.name) (is_in g.name (global_names gs)) (given_in gs x g e)

  given_of : (n : Name) (o : Option GlobalImport) → ((g : GlobalImport) → o ≡ Some g → is_in g.name (globals_asked w) ≡ true) → IsOneOf (globals_asked w) (given_variable n o).init
  given_of n None h = tt
  given_of n (Some g) h = h g refl

  imported_of : (k : ℕ) (gs : List GlobalImport) → AreAmong (global_names gs) (globals_asked w) → AreOf (globals_asked w) (imported_variables k gs)
  imported_of k [] h = tt
  imported_of k (g ∷ gs) h = (h.0, imported_of (suc k) gs h.1)

  first_of_given : (k : ℕ) (is : List Instruction) → AreOf (globals_asked w) (first_values given k is)
  first_of_given k (plain (const32 n) ∷ is) = (tt, tt)
  first_of_given k (plain (const64 n) ∷ is) = (tt, (tt, tt))
  first_of_given k (plain (global_get x) ∷ is) = (given_of (numbered global_low k) (slice_get given x) (λ g e. given_in given x g e), tt)
  first_of_given k is = tt

  own_of : (k : ℕ) (gs : List GlobalEntry) → AreOf (globals_asked w) (own_variables given k gs)
  own_of k [] = tt
  own_of k (g ∷ gs) = all_join (λ (v : Variable). IsOneOf (globals_asked w) v.init) (first_values given k g.init) (own_variables given (suc k) gs) (first_of_given k g.init) (own_of (suc k) gs)

  foreign_of : (k : ℕ) (cs : List (Option Callee)) → AreOf (globals_asked w) (foreign_variables k cs)
  foreign_of k [] = tt
  foreign_of k (None ∷ cs) = tt
  foreign_of k (Some (an_import name t) ∷ cs) = (tt, foreign_of (suc k) cs)
  foreign_of k (Some (a_function t more code) ∷ cs) = tt

  head_of : (b : Bool) → AreOf (globals_asked w) ((if b then view_variables else []) ++ fixed_variables)
  head_of true = (tt, (tt, (tt, (tt, (tt, (tt, (tt, (tt, (tt, tt)))))))))
  head_of false = (tt, (tt, (tt, (tt, (tt, (tt, tt))))))

  abbrev is_of : Variable → Type 0
  is_of v = IsOneOf (globals_asked w) v.init

  all_of : AreOf (globals_asked w) (variables_of w)
  all_of =
      let head = (if has_memory w then view_variables else []) ++ fixed_variables in
      all_join is_of (head ++ foreign_variables 0 (callees w)) (global_variables w)
      (all_join is_of head (foreign_variables 0 (callees w)) (head_of (has_memory w)) (foreign_of 0 (callees w)))
      (all_join is_of (imported_variables 0 given) (own_variables given (length given) w.globals) (imported_of 0 given (among_ends [] (global_names given))) (own_of (length given) w.globals))

  -- ---- together

  pub functions_as_asked : IsValidModule w → AreAmong (functions_asked w) (foreign_functions (translated w))
  functions_as_asked valid = subst (AreAmong (functions_asked w)) (sym (functions_are (translated w) refl w valid)) (among_ends (trap_name ∷ high_name ∷ []) (functions_asked w))

  pub no_functions_but_asked : IsValidModule w → AreAmong (foreign_functions (translated w)) (trap_name ∷ high_name ∷ functions_asked w)
  no_functions_but_asked valid =
      subst (λ xs. AreAmong xs (trap_name ∷ high_name ∷ functions_asked w)) (sym (functions_are (translated w) refl w valid)) (among_ends [] (trap_name ∷ high_name ∷ functions_asked w))

  pub globals_as_asked : AreAmong (globals_asked w) (foreign_globals (translated w))
  globals_as_asked =
      let head = ((if has_memory w then view_variables else []) ++ fixed_variables) ++ foreign_variables 0 (callees w) in
      subst (AreAmong (globals_asked w)) (sym (seen_join [] head (global_variables w))) (imports_seen (text.global_imports [] head) 0 given (own_variables given (length given) w.globals))

  pub no_globals_but_asked : AreAmong (foreign_globals (translated w)) (globals_asked w)
  no_globals_but_asked = seen_among (globals_asked w) [] (variables_of w) all_of tt

  pub no_doubles : foreign_doubles (translated w) ≡ []
  no_doubles = no_doubles_are (translated w) refl w

  pub heap_as_asked : has_heap (translated w) ≡ has_memory w
  heap_as_asked = views_are (translated w) refl w
