-- The foreign functions of a module: the imported ones, and the one that hands out high words.
use Rattle.std.proofs.Common.{◌≡◌, ℕ, zero, suc, ◌+◌, ◌<◌, Bool, true, false, List, [], ◌∷◌, ◌++◌, length, Option, Some, None, ◌⊎◌, inl, inr, refl, sym, ap, ◌∙◌, subst, arith}
use Rattle.std.specs.Prelude.{slice_get, nat_lt, option_map, take, if◌then◌else◌}
use Rattle.std.proofs.lemmas.Bool.Decides.{nat_tests}
use Rattle.std.proofs.lemmas.Option.{slice_get_within}
use Rattle.session_lang.specs.Names.{import_name}
use Rattle.wasm_lang.specs.declared.types.ImportKind.{ImportKind}
use Rattle.wasm_lang.specs.declared.types.ImportKind.TheVariants as imports
use Rattle.wasm_lang.specs.Modules.{FunctionType, Imported, FunctionBody, WasmModule}
use Rattle.wasm_lang_valid.specs.declared.rule.Rule.TheVariants.{NoType}
use Rattle.wasm_lang_valid.specs.declared.section.Section.TheVariants as sections
use Rattle.wasm_lang_valid.specs.ModuleRules.{has_memory, meets, at, is_type, import_rule}
use Rattle.wasm_lang_valid.specs.Profile.{IsInProfile}
use Rattle.wasm_lang_valid.specs.Validity.{IsValidModule}
use Rattle.wasm_lang_exec.specs.Code.{Trees, tree_of}
use Rattle.wasm_lang_exec.specs.Reductions.{Callee, an_import, a_function, if_function, imported_callee, imported_callees, own_callee, own_callees, callees, callee_at, found}
use Rattle.asm_lang.specs.Trees.{member}
use Rattle.asm_lang.specs.Modules.{Variable}
use Rattle.asm_lang_valid.specs.Scope as scopes
use Rattle.wasm2js_translation.specs.Names.{numbered, foreign, fixed, high, word}
use Rattle.wasm2js_translation.specs.Modules.{foreign_name, view_variables, fixed_variables, foreign_variables, global_variables, variable, variables_of}
use Rattle.wasm2js_laws_acceptance.specs.ProvidedLaws.{ForeignAreProvided, HighIsForeign}
use Rattle.wasm2js_laws_acceptance.proofs.ProvidedEntries.{In, in_left, in_right}
use Rattle.wasm2js_laws_acceptance.proofs.ProvidedFound.{variable_found, is_seen}
use Rattle.wasm2js_laws_acceptance.proofs.ProvidedGlobals.{Further, in_either}

-- ---- imported functions are imports, and own ones none

abbrev pub IsImport : Option Callee → Type 0
IsImport (Some (an_import name t)) = Unit {0}
IsImport c = ⊥

abbrev pub AreImports : List (Option Callee) → Type 0
AreImports [] = Unit {0}
AreImports (c ∷ cs) = IsImport c × AreImports cs

module _ (w : WasmModule) where
  abbrev pub HasType : ImportKind → Type 0
  HasType (imports.Func t) = is_type w t ≡ true
  HasType kind = Unit {0}

  met : (b : Bool) → meets b NoType None ≡ None → b ≡ true
  met true h = refl
  met false h = cc h

  has_type : (before : List Imported) (kind : ImportKind) → import_rule w before kind ≡ None → HasType kind
  has_type before (imports.Func t) h = met (is_type w t) h
  has_type before (imports.Table l) h = tt
  has_type before (imports.Memory l) h = tt
  has_type before (imports.Global g) h = tt

  pub type_there : {A : Type 0} → (xs : List A) (n : ℕ) → n < length xs → (x : A) × (slice_get xs n ≡ Some x)
  type_there [] n h = absurd (omega (arith, h))
  type_there (x ∷ xs) zero h = (x, refl)
  type_there (x ∷ xs) (suc n) h = type_there xs n (omega (arith, h))

  pub is_less : (a b : ℕ) → nat_lt a b ≡ true → a < b
  is_less a b h = grind (arith, nat_tests)

  is_import : (i : Imported) (t : ℕ) → is_type w t ≡ true → IsImport (imported_callee w i t)
  is_import i t h =
      let it = type_there w.types t (is_less t (length w.types) h) in
      subst (λ o. IsImport (option_map (an_import (import_name i.module_name i.name)) o)) (sym it.1) tt

  pub all_imports : (is : List Imported) → ((n : ℕ) (i : Imported) → slice_get is n ≡ Some i → HasType i.kind) → AreImports (imported_callees w is)
  all_imports [] h = tt
  all_imports (i ∷ is) h = by i.kind (h 0 i refl) (all_imports is (λ n x e. h (suc n) x e))
    where
      by : (kind : ImportKind) → HasType kind → AreImports (imported_callees w is) → AreImports (if_function kind (λ t. imported_callee w i t ∷ imported_callees w is) (imported_callees w is))
      by (imports.Func t) k more = (is_import i t k, more)
      by (imports.Table l) k more = more
      by (imports.Memory l) k more = more
      by (imports.Global g) k more = more

  pub imports_typed : IsValidModule w → (n : ℕ) (i : Imported) → slice_get w.imports n ≡ Some i → HasType i.kind
  imports_typed valid n i e =
      has_type (take n w.imports) i.kind
      (sym (ap (λ o. at o (λ (x : Imported). import_rule w (take n w.imports) x.kind)) e) ∙ valid sections.Imports n (slice_get_within w.imports n i e))

  no_import : (name : List ℕ) (t : FunctionType) (o : Option FunctionType) (b : FunctionBody) (tree : Option Trees) → own_callee o b tree ≡ Some (an_import name t) → ⊥
  no_import name t None b tree e = cc e
  no_import name t (Some u) b None e = cc e
  no_import name t (Some u) b (Some code) e = cc e

  no_imports : (name : List ℕ) (t : FunctionType) (ts : List ℕ) (bs : List FunctionBody) (k : ℕ) → slice_get (own_callees w ts bs) k ≡ Some (Some (an_import name t)) → ⊥
  no_imports name t [] [] k e = cc e
  no_imports name t [] (b ∷ bs) k e = cc e
  no_imports name t (x ∷ ts) [] k e = cc e
  no_imports name t (x ∷ ts) (b ∷ bs) zero e = no_import name t (slice_get w.types x) b (tree_of b.code) (cc e)
  no_imports name t (x ∷ ts) (b ∷ bs) (suc k) e = no_imports name t ts bs k e

-- ---- their variables

foreign_there : (k i : ℕ) (cs ds : List (Option Callee)) (name : List ℕ) (t : FunctionType) → AreImports cs → slice_get cs i ≡ Some (Some (an_import name t))
    → In (variable (numbered foreign (k + i)) (member foreign_name name)) (foreign_variables k (cs ++ ds))
foreign_there k i [] ds name t h e = cc e
foreign_there k i (None ∷ cs) ds name t h e = absurd h.0
foreign_there k i (Some (a_function u more code) ∷ cs) ds name t h e = absurd h.0
foreign_there k zero (Some (an_import n u) ∷ cs) ds name t h e =
    let same : Some (an_import n u) ≡ Some (an_import name t) = cc e in
    let names : n ≡ name = cc same in
    let none : k ≡ k + 0 = omega arith in
    inl (ap (λ n. variable (numbered foreign k) (member foreign_name n)) names ∙ ap (λ k. variable (numbered foreign k) (member foreign_name name)) none)
foreign_there k (suc i) (Some (an_import n u) ∷ cs) ds name t h e =
    let next : suc k + i ≡ k + suc i = omega arith in
    inr (subst (λ n. In (variable (numbered foreign n) (member foreign_name name)) (foreign_variables (suc k) (cs ++ ds))) next (foreign_there (suc k) i cs ds name t h.1 e))

found_some : (o : Option (Option Callee)) (c : Callee) → found o ≡ Some c → o ≡ Some (Some c)
found_some None c e = cc e
found_some (Some d) c e = ap Some e

module _ (w : WasmModule) where
  abbrev head : List Variable
  head = (if has_memory w then view_variables else []) ++ fixed_variables

  there : IsInProfile w → (k : ℕ) (name : List ℕ) (t : FunctionType) → callee_at w k ≡ Some (an_import name t) → In (variable (numbered foreign k) (member foreign_name name)) (variables_of w)
  there h k name t e =
      in_left (variable (numbered foreign k) (member foreign_name name)) (head ++ foreign_variables 0 (callees w)) (global_variables w)
      (in_right (variable (numbered foreign k) (member foreign_name name)) head (foreign_variables 0 (callees w))
      (by (in_either (imported_callees w w.imports) (own_callees w w.functions w.bodies) k (Some (an_import name t)) (found_some (slice_get (callees w) k) (an_import name t) e))))
    where
      by : (slice_get (imported_callees w w.imports) k ≡ Some (Some (an_import name t))) ⊎ Further (imported_callees w w.imports) (own_callees w w.functions w.bodies) k (Some (an_import name t))
          → In (variable (numbered foreign k) (member foreign_name name)) (foreign_variables 0 (callees w))
      by (inl f) =
          let none : 0 + k ≡ k = omega arith in
          subst (λ n. In (variable (numbered foreign n) (member foreign_name name)) (foreign_variables 0 (callees w))) none
          (foreign_there 0 k (imported_callees w w.imports) (own_callees w w.functions w.bodies) name t (all_imports w w.imports (imports_typed w h.valid)) f)
      by (inr f) = absurd (no_imports w name t w.functions w.bodies f.place f.is_there)

  high_there : (b : Bool) → In (variable (fixed high) (member foreign_name (word high))) ((if b then view_variables else []) ++ fixed_variables)
  high_there true = inr (inr (inr (inr (inr (inr (inl refl))))))
  high_there false = inr (inr (inr (inl refl)))

pub foreign_are_provided : ForeignAreProvided
foreign_are_provided w h name ps ls ss p l k key t e =
    is_seen w name ps ls ss p l (numbered foreign k) (scopes.a_foreign key) refl
    (variable_found w (variable (numbered foreign k) (member foreign_name key)) (numbered foreign k) (there w h k key t e) refl)

pub high_is_foreign : HighIsForeign
high_is_foreign w name ps ls ss p l =
    is_seen w name ps ls ss p l (fixed high) (scopes.a_foreign (word high)) refl
    (variable_found w (variable (fixed high) (member foreign_name (word high))) (fixed high)
    (in_left (variable (fixed high) (member foreign_name (word high))) (head w ++ foreign_variables 0 (callees w)) (global_variables w)
    (in_left (variable (fixed high) (member foreign_name (word high))) (head w) (foreign_variables 0 (callees w)) (high_there w (has_memory w))))
    refl)
