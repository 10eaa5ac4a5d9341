-- The variables of a module: what they take from the host is a function or a value, and no name is both.
use Rattle.std.proofs.Common.{◌≡◌, ℕ, zero, suc, ◌+◌, Bool, true, false, ◌||◌, not, List, [], ◌∷◌, ◌++◌, length, Option, Some, None, inl, inr, refl, sym, ap, ◌∙◌, subst, arith}
use Rattle.std.specs.Prelude.{slice_get, codes, option_map, All, if◌then◌else◌}
use Rattle.std.specs.List.{AllByRecursion}
use Rattle.std.specs.Str.{IsUtf8}
use Rattle.std.proofs.lemmas.List.{append_assoc}
use Rattle.hex.specs.Hex.{IsBytes}
use Rattle.session_lang.specs.Names.{import_name}
use Rattle.session_lang.proofs.NameLaws.{different_imports_have_different_names, names_are_plain, fixed_names_are_kept}
use Rattle.wasm_lang.specs.declared.types.ImportKind.{ImportKind}
use Rattle.wasm_lang.specs.declared.types.ImportKind.TheVariants as imports
use Rattle.wasm_lang.specs.Instructions.{Instruction, plain, const32, const64, global_get}
use Rattle.wasm_lang.specs.Modules.{FunctionType, Imported, GlobalEntry, FunctionBody, WasmModule}
use Rattle.wasm_lang.specs.Shape.{IsShaped}
use Rattle.wasm_lang_valid.specs.Measures.{is_function_import, is_global_import, measures_of}
use Rattle.wasm_lang_valid.specs.ModuleRules.{has_memory}
use Rattle.wasm_lang_valid.specs.Profile.{IsInProfile}
use Rattle.wasm_lang_exec.specs.Code.{Trees, tree_of}
use Rattle.wasm_lang_exec.specs.Reductions.{Callee, an_import, a_function, if_function, imported_callee, imported_callees, own_callee, own_callees, callees}
use Rattle.wasm_lang_exec.specs.Fits.{GlobalImport, with_import as with_global, global_imports}
use Rattle.asm_lang.specs.Modules.{Variable, Module}
use Rattle.asm_lang_valid.specs.declared.rule.Rule.TheVariants.{NameTaken, ForbiddenName}
use Rattle.asm_lang_valid.specs.Rows.{need}
use Rattle.asm_lang_valid.specs.Scope.{is_in}
use Rattle.asm_lang_valid.specs.NameRows.{is_forbidden, is_forbidden_key, Imports, added, with_import, clashes, has_forbidden_member, init_rows, global_names, globals_names}
use Rattle.wasm2js_translation.specs.Names.{Name, numbered, global_low}
use Rattle.wasm2js_translation.specs.Modules.{view_variables, fixed_variables, foreign_variables, given_variable, imported_variables, first_values, own_variables, global_variables, variables_of, translated}
use Rattle.wasm2js_laws_scripts.proofs.Names.{utf8_bytes}
use Rattle.wasm2js_laws_acceptance.proofs.ProvidedDeclared.{variable_texts}
use Rattle.wasm2js_laws_acceptance.proofs.ProvidedEntries.{are_apart, In}
use Rattle.wasm2js_laws_acceptance.proofs.ProvidedWithin.{rows_are_within}
use Rattle.wasm2js_laws_acceptance.specs.NamesLaws.{no_imports, VariablesHaveNoRows}
use Rattle.wasm2js_laws_acceptance.proofs.NamesFresh.{none_join, NewTexts, MayBeDeclared, params_of, globals_new, globals_allowed}
use Rattle.wasm2js_laws_acceptance.proofs.NamesKeys.{plain_allowed}
use Rattle.wasm2js_laws_acceptance.proofs.NamesMixed.{none_mixed, none_given, trap_is_given, high_is_given}

-- ---- rows, where each declaration goes with those before it

abbrev pub GoTogether : Module → Imports → List Variable → Type 0
GoTogether m is [] = Unit {0}
GoTogether m is (v ∷ vs) =
    (clashes m is v.init ≡ false) × (has_forbidden_member m v.init ≡ false) × ((at : ℕ) → init_rows m v.init at ≡ []) × GoTogether m (with_import m v.init is) vs

neither : (a b : Bool) → a ≡ false → b ≡ false → not (a || b) ≡ true
neither a b h k = rw (h, k) refl

variables_fine : (m : Module) (before : List (List ℕ)) (is : Imports) (vs : List Variable) (at : ℕ) → NewTexts before (variable_texts vs) → MayBeDeclared (variable_texts vs) → GoTogether m is vs
    → globals_names m before is vs at ≡ []
variables_fine m before is [] at h k g = refl
variables_fine m before is (v ∷ vs) at h k g =
    none_join (global_names m before is v at) (globals_names m (before ++ v.name ∷ []) (with_import m v.init is) vs (at + 1))
    (none_join (need (not (is_in v.name before || clashes m is v.init)) NameTaken at) (need (not (is_forbidden v.name || has_forbidden_member m v.init)) ForbiddenName at ++ init_rows m v.init at)
    (ap (λ b. need b NameTaken at) (neither (is_in v.name before) (clashes m is v.init) h.0 g.0))
    (none_join (need (not (is_forbidden v.name || has_forbidden_member m v.init)) ForbiddenName at) (init_rows m v.init at)
    (ap (λ b. need b ForbiddenName at) (neither (is_forbidden v.name) (has_forbidden_member m v.init) k.0 g.1))
    (g.2 at)))
    (variables_fine m (before ++ v.name ∷ []) (with_import m v.init is) vs (at + 1) h.1 k.1 g.3)

-- ---- imports of a shaped module

module _ (w : WasmModule) (h : IsInProfile w) (shaped : IsShaped w) where
  all_of : {A : Type 0} → (P : A → Type 0) (xs : List A) → All P xs → AllByRecursion P xs
  all_of P [] h = tt
  all_of P (x ∷ xs) h = (h 0 x (omega arith), all_of P xs (λ k d low. h (suc k) d (omega (arith, low))))

  item_of : {A : Type 0} → (P : A → Type 0) (xs : List A) (x : A) → AllByRecursion P xs → In x xs → P x
  item_of P [] x h k = absurd k
  item_of P (y ∷ xs) x h (inl e) = subst P e h.0
  item_of P (y ∷ xs) x h (inr k) = item_of P xs x h.1 k

  module_bytes : (i : Imported) → In i w.imports → IsBytes i.module_name
  module_bytes i k = utf8_bytes i.module_name (item_of (λ (i : Imported). IsUtf8 i.module_name) w.imports i (all_of (λ (i : Imported). IsUtf8 i.module_name) w.imports shaped.module_names) k)

  name_bytes : (i : Imported) → In i w.imports → IsBytes i.name
  name_bytes i k = utf8_bytes i.name (item_of (λ (i : Imported). IsUtf8 i.name) w.imports i (all_of (λ (i : Imported). IsUtf8 i.name) w.imports shaped.import_names) k)

  abbrev name_of : Imported → List ℕ
  name_of i = import_name i.module_name i.name

  name_allowed : (i : Imported) → In i w.imports → is_forbidden_key (name_of i) ≡ false
  name_allowed i k = plain_allowed (name_of i) (names_are_plain.imports i.module_name i.name (module_bytes i k) (name_bytes i k))

  -- ---- what globals are imported

  record IsGlobal (is : List Imported) (g : GlobalImport) : Type 0 where
    import : Imported
    is_in : In import is
    is_global : is_global_import import.kind ≡ true
    is_name : g.name ≡ name_of import

  global_of : (is : List Imported) (g : GlobalImport) → In g (global_imports is) → IsGlobal is g
  global_of [] g k = absurd k
  global_of (i ∷ is) g k = by i.kind refl k (global_of is g)
    where
      later : IsGlobal is g → IsGlobal (i ∷ is) g
      later it = record { import = it.import; is_in = inr it.is_in; is_global = it.is_global; is_name = it.is_name }

      by : (kind : ImportKind) → i.kind ≡ kind → In g (with_global i kind (global_imports is)) → (In g (global_imports is) → IsGlobal is g) → IsGlobal (i ∷ is) g
      by (imports.Func t) e k more = later (more k)
      by (imports.Table l) e k more = later (more k)
      by (imports.Memory l) e k more = later (more k)
      by (imports.Global f) e (inl s) more = record { import = i; is_in = inl refl; is_global = ap is_global_import e; is_name = ap (λ (g : GlobalImport). g.name) (sym s) }
      by (imports.Global f) e (inr k) more = later (more k)

  mixed : (measures_of w).mixed ≡ None
  mixed = (rows_are_within w h.within).mixed

  -- a function's name is no global's
  abbrev IsNoGlobal : List ℕ → Type 0
  IsNoGlobal name = (g : GlobalImport) → In g (global_imports w.imports) → name ≡ g.name → ⊥

  function_no_global : (i : Imported) → In i w.imports → is_function_import i.kind ≡ true → IsNoGlobal (name_of i)
  function_no_global i k func g there e =
      let it = global_of w.imports g there in
      let same = different_imports_have_different_names i.module_name i.name it.import.module_name it.import.name (module_bytes i k) (name_bytes i k) (module_bytes it.import it.is_in) (name_bytes it.import it.is_in) (e ∙ it.is_name) in
      none_mixed i it.import func it.is_global (record { modules = same.0; names = same.1 }) [] 0 w.imports mixed k it.is_in

  trap_no_global : IsNoGlobal (codes "$trap")
  trap_no_global g there e =
      let it = global_of w.imports g there in
      let names = fixed_names_are_kept.trap it.import.module_name it.import.name (sym (e ∙ it.is_name)) in
      none_given it.import it.is_global (trap_is_given it.import names.0 names.1) [] 0 w.imports mixed it.is_in

  high_no_global : IsNoGlobal (codes "$high")
  high_no_global g there e =
      let it = global_of w.imports g there in
      let names = fixed_names_are_kept.high it.import.module_name it.import.name (sym (e ∙ it.is_name)) in
      none_given it.import it.is_global (high_is_given it.import names.0 names.1) [] 0 w.imports mixed it.is_in

  -- ---- names of imported functions

  record IsFunctionName (name : List ℕ) : Type 0 where
    allowed : is_forbidden_key name ≡ false
    no_global : IsNoGlobal name

  -- of those that are declared
  abbrev AreFunctionNames : List (Option Callee) → Type 0
  AreFunctionNames (Some (an_import name t) ∷ cs) = IsFunctionName name × AreFunctionNames cs
  AreFunctionNames cs = Unit {0}

  own_names : (ts : List ℕ) (bs : List FunctionBody) → AreFunctionNames (own_callees w ts bs)
  own_names [] [] = tt
  own_names [] (b ∷ bs) = tt
  own_names (t ∷ ts) [] = tt
  own_names (t ∷ ts) (b ∷ bs) = by (slice_get w.types t) (tree_of b.code)
    where
      by : (o : Option FunctionType) (tree : Option Trees) → AreFunctionNames (own_callee o b tree ∷ own_callees w ts bs)
      by None tree = tt
      by (Some u) None = tt
      by (Some u) (Some code) = tt

  callee_names : (is : List Imported) → ((i : Imported) → In i is → In i w.imports) → (cs : List (Option Callee)) → AreFunctionNames cs → AreFunctionNames (imported_callees w is ++ cs)
  callee_names [] all cs k = k
  callee_names (i ∷ is) all cs k = by i.kind refl (callee_names is (λ x e. all x (inr e)) cs k)
    where
      of_type : (t : ℕ) (o : Option FunctionType) → i.kind ≡ imports.Func t → AreFunctionNames (imported_callees w is ++ cs) → AreFunctionNames (option_map (an_import (name_of i)) o ∷ (imported_callees w is ++ cs))
      of_type t None e more = tt
      of_type t (Some u) e more = (record { allowed = name_allowed i (all i (inl refl)); no_global = function_no_global i (all i (inl refl)) (ap is_function_import e) }, more)

      by : (kind : ImportKind) → i.kind ≡ kind → AreFunctionNames (imported_callees w is ++ cs) → AreFunctionNames (if_function kind (λ t. imported_callee w i t ∷ imported_callees w is) (imported_callees w is) ++ cs)
      by (imports.Func t) e more = of_type t (slice_get w.types t) e more
      by (imports.Table l) e more = more
      by (imports.Memory l) e more = more
      by (imports.Global g) e more = more

  -- ---- declarations go together

  abbrev AreNoGlobals : List (List ℕ) → Type 0
  AreNoGlobals names = AllByRecursion IsNoGlobal names

  no_globals_join : (xs : List (List ℕ)) (x : List ℕ) → AreNoGlobals xs → IsNoGlobal x → AreNoGlobals (xs ++ x ∷ [])
  no_globals_join [] x a b = (b, tt)
  no_globals_join (y ∷ xs) x a b = (a.0, no_globals_join xs x a.1 b)

  added_none : (xs : List (List ℕ)) (x : List ℕ) → AreNoGlobals xs → IsNoGlobal x → AreNoGlobals (added xs x)
  added_none xs x a b = by (is_in x xs)
    where
      by : (t : Bool) → AreNoGlobals (if t then xs else xs ++ x ∷ [])
      by true = a
      by false = no_globals_join xs x a b

  not_in : (xs : List (List ℕ)) (g : GlobalImport) → In g (global_imports w.imports) → AreNoGlobals xs → is_in g.name xs ≡ false
  not_in [] g k a = refl
  not_in (x ∷ xs) g k a = let e = are_apart x g.name (a.0 g k) in rw e (not_in xs g k a.1)

  abbrev functions_alone : List (List ℕ) → Imports
  functions_alone names = record { values = []; functions = names }

  abbrev m : Module
  m = translated w

  head_together : (b : Bool) (rest : List Variable) → GoTogether m (functions_alone (codes "$trap" ∷ codes "$high" ∷ [])) rest → GoTogether m no_imports (((if b then view_variables else []) ++ fixed_variables) ++ rest)
  head_together true rest k = (
    refl,
    refl,
    (λ at. refl),
    (
      refl,
      refl,
      (λ at. refl),
      (
        refl,
        refl,
        (λ at. refl),
        (refl, refl, (λ at. refl), (refl, refl, (λ at. refl), (refl, refl, (λ at. refl), (refl, refl, (λ at. refl), (refl, refl, (λ at. refl), (refl, refl, (λ at. refl), k)))))),
      ),
    ),
  )
  head_together false rest k =
      (refl, refl, (λ at. refl), (refl, refl, (λ at. refl), (refl, refl, (λ at. refl), (refl, refl, (λ at. refl), (refl, refl, (λ at. refl), (refl, refl, (λ at. refl), k))))))

  foreign_together : (k : ℕ) (cs : List (Option Callee)) (names : List (List ℕ)) (rest : List Variable) → AreFunctionNames cs → AreNoGlobals names
      → ((further : List (List ℕ)) → AreNoGlobals further → GoTogether m (functions_alone further) rest) → GoTogether m (functions_alone names) (foreign_variables k cs ++ rest)
  foreign_together k [] names rest fs a more = more names a
  foreign_together k (None ∷ cs) names rest fs a more = more names a
  foreign_together k (Some (a_function t locals code) ∷ cs) names rest fs a more = more names a
  foreign_together k (Some (an_import name t) ∷ cs) names rest fs a more =
      (refl, fs.0.allowed, (λ at. refl), foreign_together (suc k) cs (added names name) rest fs.1 (added_none names name a fs.0.no_global) more)

  -- further declarations, after which the functions that are imported are the same
  abbrev Onward : List Variable → Type 0
  Onward rest = (further : Imports) → AreNoGlobals further.functions → GoTogether m further rest

  given_together : (n : Name) (o : Option GlobalImport) → ((g : GlobalImport) → o ≡ Some g → In g (global_imports w.imports)) → (is : Imports) → AreNoGlobals is.functions → (rest : List Variable) → Onward rest
      → GoTogether m is (given_variable n o ∷ rest)
  given_together n None there is a rest more = (refl, refl, (λ at. refl), more is a)
  given_together n (Some g) there is a rest more =
      let it = global_of w.imports g (there g refl) in (
        not_in is.functions g (there g refl) a,
        ap is_forbidden_key it.is_name ∙ name_allowed it.import it.is_in,
        (λ at. refl),
        more (record { values = added is.values g.name; functions = is.functions }) a,
      )

  imported_together : (k : ℕ) (gs : List GlobalImport) → ((g : GlobalImport) → In g gs → In g (global_imports w.imports)) → (is : Imports) → AreNoGlobals is.functions → (rest : List Variable) → Onward rest
      → GoTogether m is (imported_variables k gs ++ rest)
  imported_together k [] all is a rest more = more is a
  imported_together k (g ∷ gs) all is a rest more =
      given_together (numbered global_low k) (Some g) (λ f e. all f (inl (some_same e))) is a (imported_variables (suc k) gs ++ rest)
      (λ further b. imported_together (suc k) gs (λ f e. all f (inr e)) further b rest more)
    where
      some_same : {x y : GlobalImport} → Some x ≡ Some y → x ≡ y
      some_same e = cc e

  in_place : {A : Type 0} → (xs : List A) (i : ℕ) (x : A) → slice_get xs i ≡ Some x → In x xs
  in_place [] i x h = cc h
  in_place (y ∷ xs) zero x h = inl (cc h)
  in_place (y ∷ xs) (suc i) x h = inr (in_place xs i x h)

  first_together : (k : ℕ) (is : List Instruction) (imports : Imports) → AreNoGlobals imports.functions → (rest : List Variable) → Onward rest → GoTogether m imports (first_values (global_imports w.imports) k is ++ rest)
  first_together k (plain (const32 n) ∷ is) imports a rest more = (refl, refl, (λ at. refl), more imports a)
  first_together k (plain (const64 n) ∷ is) imports a rest more = (refl, refl, (λ at. refl), (refl, refl, (λ at. refl), more imports a))
  first_together k (plain (global_get x) ∷ is) imports a rest more =
      given_together (numbered global_low k) (slice_get (global_imports w.imports) x) (λ g e. in_place (global_imports w.imports) x g e) imports a rest more
  first_together k is imports a rest more = more imports a

  own_together : (k : ℕ) (gs : List GlobalEntry) → Onward (own_variables (global_imports w.imports) k gs)
  own_together k [] imports a = tt
  own_together k (g ∷ gs) imports a = first_together k g.init imports a (own_variables (global_imports w.imports) (suc k) gs) (own_together (suc k) gs)

  all_together : GoTogether m no_imports (variables_of w)
  all_together =
      let head = (if has_memory w then view_variables else []) ++ fixed_variables in
      let given = global_imports w.imports in
      subst (GoTogether m no_imports) (sym (append_assoc head (foreign_variables 0 (callees w)) (global_variables w)))
      (head_together (has_memory w) (foreign_variables 0 (callees w) ++ global_variables w)
      (foreign_together 0 (callees w) (codes "$trap" ∷ codes "$high" ∷ []) (global_variables w) (callee_names w.imports (λ i e. e) (own_callees w w.functions w.bodies) (own_names w.functions w.bodies)) (trap_no_global, (high_no_global, tt))
      (λ names a.
      imported_together 0 given (λ g e. e) (functions_alone names) a (own_variables given (length given) w.globals) (own_together (length given) w.globals))))

pub variables_have_no_rows : VariablesHaveNoRows
variables_have_no_rows w h shaped = variables_fine (translated w) params_of no_imports (variables_of w) 1 (globals_new w) (globals_allowed w) (all_together w h shaped)
