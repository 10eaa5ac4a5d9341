-- What the names of imported functions mean in the functions of a translated module.
use Rattle.std.proofs.Common.{◌≡◌, ℕ, zero, suc, ◌+◌, ◌<◌, Bool, true, false, List, [], ◌∷◌, ◌++◌, length, get_or, Option, Some, None, refl, sym, ap, ◌∙◌, subst, arith}
use Rattle.std.specs.Prelude.{codes, bytes_eq, slice_get, take, option_map, nat_lt, ◌||◌, if◌then◌else◌}
use Rattle.std.specs.List.{AllByRecursion, list_all}
use Rattle.std.proofs.lemmas.Bool.Decides.{nat_tests}
use Rattle.std.proofs.lemmas.List.{append_assoc}
use Rattle.std.proofs.lemmas.Option.{slice_get_within, slice_get-get_or}
use Rattle.session_lang.specs.Names.{import_name}
use Rattle.wasm_lang.specs.declared.types.ImportKind.{ImportKind}
use Rattle.wasm_lang.specs.declared.types.ImportKind.TheVariants as imports
use Rattle.wasm_lang.specs.Modules.{FunctionType, Imported, FunctionBody, WasmModule}
use Rattle.wasm_lang_valid.specs.declared.section.Section.TheVariants as sections
use Rattle.wasm_lang_valid.specs.ModuleRules.{is_type, has_memory, import_rule, at}
use Rattle.wasm_lang_valid.specs.Validity.{no_type, IsValidModule}
use Rattle.wasm_lang_exec.specs.Code.{Trees, tree_of}
use Rattle.wasm_lang_exec.specs.Reductions.{Callee, an_import, if_function, imported_callee, imported_callees, own_callee, own_callees, callees}
use Rattle.wasm_laws_sound.proofs.Functions.{meets_none}
use Rattle.asm_lang.specs.Modules.{Stmt, Variable, Module}
use Rattle.asm_lang_valid.specs.Scope as scopes
use Rattle.asm_lang_valid.specs.Scope.{is_in, Meaning, a_parameter, a_foreign, init_meaning, among_globals, among_functions, among_tables}
use Rattle.asm_lang_valid.specs.Typing.{named}
use Rattle.asm_lang_valid.specs.Typed.{scope_of}
use Rattle.wasm2js_translation.specs.Names as names
use Rattle.wasm2js_translation.specs.Names.{Name, Fixed, numbered, foreign, fixed, word, spelled}
use Rattle.wasm2js_translation.proofs.Spelling.{spellings_are_usable}
use Rattle.wasm2js_translation.specs.Helpers.{function_of}
use Rattle.wasm2js_translation.specs.Modules.{functions_of, stdlib_name, foreign_name, heap_name, view_variables, fixed_variables, foreign_variables, global_variables, variables_of, translated}
use Rattle.wasm2js_translation.specs.Tables.{tables_for}
use Rattle.wasm2js_laws_scopes.specs.Laws.{is_own}
use Rattle.wasm2js_laws_scopes.proofs.Among.{same_spelling, other_spelling}
use Rattle.wasm2js_laws_scopes.proofs.Declared.{module_names_are_seen}
use Rattle.wasm2js_laws_scopes.proofs.HeadNames.{OtherNames}

-- ---- past variables of other names

past : (m : Module) (vs ws : List Variable) (s : List ℕ) (o : Meaning) → OtherNames s vs → among_globals m (vs ++ ws) s o ≡ among_globals m ws s o
past m [] ws s o h = refl
past m (v ∷ vs) ws s o h = ap (λ b. if b then init_meaning m v.init else among_globals m (vs ++ ws) s o) h.0 ∙ past m vs ws s o h.1

second_false : (a b : Bool) → (a || b) ≡ false → b ≡ false
second_false true b h = absurd (cc h)
second_false false b h = h

no_parameter : (n : Name) → is_in (spelled n) (stdlib_name ∷ foreign_name ∷ heap_name ∷ []) ≡ false
no_parameter n = second_false (bytes_eq (codes "wasm") (spelled n)) _ (spellings_are_usable n).is_not_own

module _ (k : ℕ) where
  not_fixed : (f : Fixed) → bytes_eq (word f) (spelled (numbered foreign k)) ≡ false
  not_fixed f = other_spelling (fixed f) (numbered foreign k) (λ e. cc e)

  past_views : (b : Bool) → OtherNames (spelled (numbered foreign k)) (if b then view_variables else [])
  past_views true = (not_fixed names.view_of_bytes, (not_fixed names.view_of_signed_bytes, (not_fixed names.view_of_words, tt)))
  past_views false = tt

  past_fixed : OtherNames (spelled (numbered foreign k)) fixed_variables
  past_fixed = (not_fixed names.imul, (not_fixed names.clz32, (not_fixed names.trap, (not_fixed names.high, (not_fixed names.spare_high, (not_fixed names.result_high, tt))))))

-- ---- imported functions have types

abbrev IsTypedImport : WasmModule → ImportKind → Type 0
IsTypedImport w (imports.Func n) = (t : FunctionType) × (slice_get w.types n ≡ Some t)
IsTypedImport w kind = Unit {0}

abbrev pub AreTypedImports : WasmModule → List Imported → Type 0
AreTypedImports w is = AllByRecursion (λ (x : Imported). IsTypedImport w x.kind) is

from_places : (w : WasmModule) (is : List Imported) → ((i : ℕ) (x : Imported) → slice_get is i ≡ Some x → IsTypedImport w x.kind) → AreTypedImports w is
from_places w [] f = tt
from_places w (x ∷ is) f = (f 0 x refl, from_places w is (λ i y e. f (suc i) y e))

typed_import : (w : WasmModule) (before : List Imported) (kind : ImportKind) → import_rule w before kind ≡ None → IsTypedImport w kind
typed_import w before (imports.Func n) h = (get_or w.types n no_type, slice_get-get_or w.types n no_type (less n (length w.types) (meets_none (is_type w n) _ _ h)))
  where
    less : (a b : ℕ) → nat_lt a b ≡ true → a < b
    less a b h = grind (arith, nat_tests)
typed_import w before (imports.Table l) h = tt
typed_import w before (imports.Memory l) h = tt
typed_import w before (imports.Global g) h = tt

pub imports_typed : (w : WasmModule) → IsValidModule w → AreTypedImports w w.imports
imports_typed w valid =
    from_places w w.imports
    (λ i x e. typed_import w (take i w.imports) x.kind (sym (ap (λ o. at o (λ (x : Imported). import_rule w (take i w.imports) x.kind)) e) ∙ valid sections.Imports i (slice_get_within w.imports i x e)))

-- ---- among the variables of imported functions

module _ (w : WasmModule) (m : Module) (is_foreign : scopes.is_foreign m foreign_name ≡ true) (name : List ℕ) (t : FunctionType) (ws : List Variable) (o : Meaning) where
  abbrev Wanted : Option Callee
  Wanted = Some (an_import name t)

  no_own : (b : FunctionBody) (u : Option FunctionType) (tree : Option Trees) → own_callee u b tree ≡ Wanted → ⊥
  no_own b None tree h = cc h
  no_own b (Some u) None h = cc h
  no_own b (Some u) (Some x) h = cc h

  none_own : (ts : List ℕ) (bs : List FunctionBody) (i : ℕ) → slice_get (own_callees w ts bs) i ≡ Some Wanted → ⊥
  none_own [] [] i h = cc h
  none_own [] (b ∷ bs) i h = cc h
  none_own (n ∷ ts) [] i h = cc h
  none_own (n ∷ ts) (b ∷ bs) zero h = no_own b (slice_get w.types n) (tree_of b.code) (cc h)
  none_own (n ∷ ts) (b ∷ bs) (suc i) h = none_own ts bs i h

  abbrev Here : (j i : ℕ) → List (Option Callee) → Type 0
  Here j i cs = among_globals m (foreign_variables j cs ++ ws) (spelled (numbered foreign (j + i))) o ≡ a_foreign name

  abbrev Looked : List Imported → List (Option Callee) → Type 0
  Looked is rest = (j i : ℕ) → slice_get (imported_callees w is ++ rest) i ≡ Some Wanted → Here j i (imported_callees w is ++ rest)

  this_one : (j : ℕ) (n : List ℕ) (cs : List (Option Callee)) (u : FunctionType) → n ≡ name → Here j 0 (Some (an_import n u) ∷ cs)
  this_one j n cs u same =
      let e : j ≡ j + 0 = omega arith in
      ap (λ b. if b then (if scopes.is_foreign m foreign_name then a_foreign n else scopes.an_outside) else among_globals m (foreign_variables (suc j) cs ++ ws) (spelled (numbered foreign (j + 0))) o)
      (same_spelling (numbered foreign j) (numbered foreign (j + 0)) (ap (numbered foreign) e))
      ∙ ap (λ b. if b then a_foreign n else scopes.an_outside) is_foreign
      ∙ ap a_foreign same

  next_one : (j i : ℕ) (n : List ℕ) (cs : List (Option Callee)) (u : FunctionType) → Here (suc j) i cs → Here j (suc i) (Some (an_import n u) ∷ cs)
  next_one j i n cs u h =
      let e : suc j + i ≡ j + suc i = omega arith in
      ap (λ b. if b then (if scopes.is_foreign m foreign_name then a_foreign n else scopes.an_outside) else among_globals m (foreign_variables (suc j) cs ++ ws) (spelled (numbered foreign (j + suc i))) o)
      (other_spelling (numbered foreign j) (numbered foreign (j + suc i)) (λ e. let same : j ≡ j + suc i = cc e in omega (arith, same)))
      ∙ subst (λ x. among_globals m (foreign_variables (suc j) cs ++ ws) (spelled (numbered foreign x)) o ≡ a_foreign name) e h

  function_one : (x : Imported) (n : ℕ) (u : FunctionType) (cs : List (Option Callee)) → slice_get w.types n ≡ Some u → ((j i : ℕ) → slice_get cs i ≡ Some Wanted → Here j i cs)
      → (j i : ℕ) → slice_get (imported_callee w x n ∷ cs) i ≡ Some Wanted → Here j i (imported_callee w x n ∷ cs)
  function_one x n u cs e further j i h =
      let is : imported_callee w x n ≡ Some (an_import (import_name x.module_name x.name) u) = ap (option_map (an_import (import_name x.module_name x.name))) e in
      subst (λ c. Here j i (c ∷ cs)) (sym is) (by i (subst (λ c. slice_get (c ∷ cs) i ≡ Some Wanted) is h))
    where
      by : (i : ℕ) → slice_get (Some (an_import (import_name x.module_name x.name) u) ∷ cs) i ≡ Some Wanted → Here j i (Some (an_import (import_name x.module_name x.name) u) ∷ cs)
      by zero h = this_one j (import_name x.module_name x.name) cs u (cc h)
      by (suc i) h = next_one j i (import_name x.module_name x.name) cs u (further (suc j) i h)

  looked : (is : List Imported) (ts : List ℕ) (bs : List FunctionBody) → AreTypedImports w is → Looked is (own_callees w ts bs)
  looked [] ts bs typed j i h = absurd (none_own ts bs i h)
  looked (x ∷ is) ts bs typed j i h = by x.kind typed.0 (looked is ts bs typed.1) j i h
    where
      by : (kind : ImportKind) → IsTypedImport w kind → Looked is (own_callees w ts bs)
          → (j i : ℕ) → slice_get (if_function kind (λ t. imported_callee w x t ∷ imported_callees w is) (imported_callees w is) ++ own_callees w ts bs) i ≡ Some Wanted
          → Here j i (if_function kind (λ t. imported_callee w x t ∷ imported_callees w is) (imported_callees w is) ++ own_callees w ts bs)
      by (imports.Func n) u further j i h = function_one x n u.0 (imported_callees w is ++ own_callees w ts bs) u.1 further j i h
      by (imports.Table l) u further j i h = further j i h
      by (imports.Memory l) u further j i h = further j i h
      by (imports.Global g) u further j i h = further j i h

-- ---- in the scope of a function

module _ (w : WasmModule) (fname : Name) (ps ls : List Name) (ss : List Stmt) (p : list_all is_own ps ≡ true) (l : list_all is_own ls ≡ true) where
  abbrev numbered_variables : List Variable
  numbered_variables = foreign_variables 0 (callees w) ++ global_variables w

  abbrev no_variable : List ℕ → Meaning
  no_variable s = among_functions (functions_of w) s (among_tables (tables_for w) s)

  in_order : variables_of w ≡ (if has_memory w then view_variables else []) ++ (fixed_variables ++ numbered_variables)
  in_order =
      append_assoc ((if has_memory w then view_variables else []) ++ fixed_variables) (foreign_variables 0 (callees w)) (global_variables w)
      ∙ append_assoc (if has_memory w then view_variables else []) fixed_variables numbered_variables

  in_module : (n : Name) → is_own n ≡ false → named (scope_of (translated w) (function_of fname ps ls ss)) (spelled n)
      ≡ among_globals (translated w) ((if has_memory w then view_variables else []) ++ (fixed_variables ++ numbered_variables)) (spelled n) (no_variable (spelled n))
  in_module n free =
      module_names_are_seen (translated w) fname ps ls ss n p l free
      ∙ ap (λ b. if b then a_parameter else among_globals (translated w) (variables_of w) (spelled n) (no_variable (spelled n))) (no_parameter n)
      ∙ ap (λ vs. among_globals (translated w) vs (spelled n) (no_variable (spelled n))) in_order

  pub high_is_foreign : named (scope_of (translated w) (function_of fname ps ls ss)) (word names.high) ≡ a_foreign (word names.high)
  high_is_foreign = in_module (fixed names.high) refl ∙ by (translated w) (has_memory w) numbered_variables (no_variable (word names.high)) refl
    where
      by : (m : Module) (b : Bool) (rest : List Variable) (o : Meaning) → scopes.is_foreign m foreign_name ≡ true
          → among_globals m ((if b then view_variables else []) ++ (fixed_variables ++ rest)) (word names.high) o ≡ a_foreign (word names.high)
      by m true rest o h = rw h refl
      by m false rest o h = rw h refl

  pub import_is_foreign : IsValidModule w → (k : ℕ) (name : List ℕ) (t : FunctionType) → slice_get (callees w) k ≡ Some (Some (an_import name t))
      → named (scope_of (translated w) (function_of fname ps ls ss)) (spelled (numbered foreign k)) ≡ a_foreign name
  import_is_foreign valid k name t there =
      let e : 0 + k ≡ k = omega arith in
      let n = spelled (numbered foreign k) in
      in_module (numbered foreign k) refl
      ∙ past (translated w) (if has_memory w then view_variables else []) (fixed_variables ++ numbered_variables) n (no_variable n) (past_views k (has_memory w))
      ∙ past (translated w) fixed_variables numbered_variables n (no_variable n) (past_fixed k)
      ∙ subst (λ x. among_globals (translated w) numbered_variables (spelled (numbered foreign x)) (no_variable n) ≡ a_foreign name) e
      (looked w (translated w) refl name t (global_variables w) (no_variable n) w.imports w.functions w.bodies (imports_typed w valid) 0 k there)

-- ---- the type of an imported function is one of the module's

module _ (w : WasmModule) (t : FunctionType) (name : List ℕ) where
  abbrev Stands : Type 0
  Stands = (n : ℕ) × (slice_get w.types n ≡ Some t)

  this_type : (n : ℕ) (nm : List ℕ) (o : Option FunctionType) → slice_get w.types n ≡ o → option_map (an_import nm) o ≡ Some (an_import name t) → Stands
  this_type n nm None e h = absurd (cc h)
  this_type n nm (Some u) e h = let same : u ≡ t = cc h in (n, e ∙ ap Some same)

  import_stands : (is : List Imported) (ts : List ℕ) (bs : List FunctionBody) (i : ℕ) → slice_get (imported_callees w is ++ own_callees w ts bs) i ≡ Some (Some (an_import name t)) → Stands
  import_stands [] ts bs i h = absurd (none_own w (translated w) refl name t [] a_parameter ts bs i h)
  import_stands (x ∷ is) ts bs i h = by x.kind i h (λ i h. import_stands is ts bs i h)
    where
      by : (kind : ImportKind) (i : ℕ) → slice_get (if_function kind (λ t. imported_callee w x t ∷ imported_callees w is) (imported_callees w is) ++ own_callees w ts bs) i ≡ Some (Some (an_import name t))
          → ((i : ℕ) → slice_get (imported_callees w is ++ own_callees w ts bs) i ≡ Some (Some (an_import name t)) → Stands) → Stands
      by (imports.Func n) zero h f = this_type n (import_name x.module_name x.name) (slice_get w.types n) refl (cc h)
      by (imports.Func n) (suc i) h f = f i h
      by (imports.Table l) i h f = f i h
      by (imports.Memory l) i h f = f i h
      by (imports.Global g) i h f = f i h

  pub import_type : (k : ℕ) → slice_get (callees w) k ≡ Some (Some (an_import name t)) → Stands
  import_type k h = import_stands w.imports w.functions w.bodies k h
