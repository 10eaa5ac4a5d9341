-- The imported functions stand first among all.
use Rattle.std.proofs.Common.{◌≡◌, ℕ, suc, ◌<◌, true, false, Bool, List, [], ◌∷◌, ◌++◌, Option, Some, None, length, take, get_or, refl, sym, ap, ◌∙◌, arith}
use Rattle.std.proofs.lemmas.Bool.Decides.{nat_tests}
use Rattle.std.proofs.lemmas.Option.{slice_get_within, slice_get-get_or}
use Rattle.std.specs.Prelude.{slice_get, option_map}
use Rattle.session_lang.specs.Names.{import_name}
use Rattle.wasm_lang.specs.declared.types.ImportKind.{ImportKind}
use Rattle.wasm_lang.specs.declared.types.ImportKind.TheVariants as imports
use Rattle.wasm_lang.specs.Modules.{FunctionType, Imported, FunctionBody, WasmModule}
use Rattle.wasm_lang_valid.specs.declared.rule.Rule.{Rule}
use Rattle.wasm_lang_valid.specs.declared.rule.Rule.TheVariants.{NoType}
use Rattle.wasm_lang_valid.specs.declared.section.Section.TheVariants as sections
use Rattle.wasm_lang_valid.specs.ModuleRules.{meets, is_type, import_rule, item_rule, at}
use Rattle.wasm_lang_valid.specs.Validity.{no_type, IsValidModule}
use Rattle.wasm_lang_exec.specs.Code.{Trees, tree_of}
use Rattle.wasm_lang_exec.specs.Reductions.{Callee, an_import, if_function, imported_callee, imported_callees, own_callee, own_callees, callees}
use Rattle.wasm2js_translation.specs.Modules.{foreign_variables}
use Rattle.wasm2js_sections.specs.Parts.{import_variable, import_variables}

-- the module has a type of this number
record IsTypeNumber (m : WasmModule) (t : ℕ) : Type 0 where
  type : FunctionType
  found : slice_get m.types t ≡ Some type

abbrev HasType : WasmModule → ImportKind → Type 0
HasType m (imports.Func t) = IsTypeNumber m t
HasType m (imports.Table l) = Unit {0}
HasType m (imports.Memory l) = Unit {0}
HasType m (imports.Global g) = Unit {0}

abbrev HaveTypes : WasmModule → List Imported → Type 0
HaveTypes m is = (k : ℕ) (i : Imported) → slice_get is k ≡ Some i → HasType m i.kind

meets_none : (b : Bool) (rule : Rule) (others : Option Rule) → meets b rule others ≡ None → b ≡ true
meets_none true rule others e = refl
meets_none false rule others e = cc e

module _ (m : WasmModule) where
  type_there : (t : ℕ) → is_type m t ≡ true → IsTypeNumber m t
  type_there t h =
      let inside : t < length m.types = grind (arith, nat_tests) in
      record { type = get_or m.types t no_type; found = slice_get-get_or m.types t no_type inside }

  kind_has_type : (before : List Imported) (kind : ImportKind) → import_rule m before kind ≡ None → HasType m kind
  kind_has_type before (imports.Func t) h = type_there t (meets_none (is_type m t) NoType None h)
  kind_has_type before (imports.Table l) h = tt
  kind_has_type before (imports.Memory l) h = tt
  kind_has_type before (imports.Global g) h = tt

  imports_have_types : IsValidModule m → HaveTypes m m.imports
  imports_have_types valid k x got =
      let fine : item_rule m sections.Imports k ≡ None = valid sections.Imports k (slice_get_within m.imports k x got) in
      kind_has_type (take k m.imports) x.kind (sym (ap (λ o. at o (λ y. import_rule m (take k m.imports) y.kind)) got) ∙ fine)

  -- a function of the module's own is no import
  own_adds_none : (k : ℕ) (ts : List ℕ) (bs : List FunctionBody) → foreign_variables k (own_callees m ts bs) ≡ []
  own_adds_none k [] bs = refl
  own_adds_none k (t ∷ ts) [] = refl
  own_adds_none k (t ∷ ts) (b ∷ bs) = go (slice_get m.types t) (tree_of b.code)
    where
      go : (o : Option FunctionType) (code : Option Trees) → foreign_variables k (own_callee o b code ∷ own_callees m ts bs) ≡ []
      go None None = refl
      go None (Some code) = refl
      go (Some type) None = refl
      go (Some type) (Some code) = refl

  foreign_first : (k : ℕ) (is : List Imported) (cs : List (Option Callee)) → HaveTypes m is → ((n : ℕ) → foreign_variables n cs ≡ [])
      → foreign_variables k (imported_callees m is ++ cs) ≡ import_variables k is
  foreign_first k [] cs has none = none k
  foreign_first k (i ∷ is) cs has none = go (λ n. foreign_first n is cs (λ j. has (suc j)) none) i.kind (has 0 i refl)
    where
      go : ((n : ℕ) → foreign_variables n (imported_callees m is ++ cs) ≡ import_variables n is) → (kind : ImportKind) → HasType m kind
          → foreign_variables k (if_function kind (λ t. imported_callee m i t ∷ imported_callees m is) (imported_callees m is) ++ cs)
          ≡ if_function kind (λ t. import_variable k i ∷ import_variables (suc k) is) (import_variables k is)
      go more (imports.Func t) there =
          ap (λ o. foreign_variables k (option_map (an_import (import_name i.module_name i.name)) o ∷ (imported_callees m is ++ cs))) there.found
          ∙ ap (λ vs. import_variable k i ∷ vs) (more (suc k))
      go more (imports.Table l) there = more k
      go more (imports.Memory l) there = more k
      go more (imports.Global g) there = more k

  pub foreign_are : IsValidModule m → foreign_variables 0 (callees m) ≡ import_variables 0 m.imports
  foreign_are valid = foreign_first 0 m.imports (own_callees m m.functions m.bodies) (imports_have_types valid) (λ n. own_adds_none n m.functions m.bodies)
