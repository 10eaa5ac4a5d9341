-- Each function of a valid module has a type.
use Rattle.std.proofs.Common.{◌≡◌, ℕ, zero, suc, ◌<◌, Bool, true, false, List, [], ◌∷◌, ◌++◌, length, get_or, take, Option, Some, None, nat_lt, refl, sym, ap, ◌∙◌, subst, arith}
use Rattle.std.specs.Prelude.{slice_get}
use Rattle.std.proofs.lemmas.Option.{slice_get-get_or, slice_get_within}
use Rattle.wasm_lang.specs.declared.types.ImportKind.{ImportKind}
use Rattle.wasm_lang.specs.declared.types.ImportKind.TheVariants as imports
use Rattle.wasm_lang.specs.Modules.{FunctionType, Imported, WasmModule}
use Rattle.wasm_lang_valid.specs.declared.rule.Rule.{Rule}
use Rattle.wasm_lang_valid.specs.declared.rule.Rule.TheVariants.{NoType}
use Rattle.wasm_lang_valid.specs.declared.section.Section.TheVariants as sections
use Rattle.wasm_lang_valid.specs.ModuleRules.{meets, function_of, imported_functions, function_types, is_type, import_rule, type_of_function, item_rule, at}
use Rattle.wasm_lang_valid.specs.Validity.{IsValidModule, no_type}

-- each number of the list is one of a type
abbrev AreTypes : WasmModule → List ℕ → Type 0
AreTypes m ts = (i t : ℕ) → slice_get ts i ≡ Some t → is_type m t ≡ true

meets_none : (b : Bool) (rule : Rule) (others : Option Rule) → meets b rule others ≡ None → b ≡ true
meets_none true rule others e = refl
meets_none false rule others e = cc

both : (m : WasmModule) (ts us : List ℕ) → AreTypes m ts → AreTypes m us → AreTypes m (ts ++ us)
both m [] us h g i t e = g i t e
both m (x ∷ ts) us h g zero t e = h zero t e
both m (x ∷ ts) us h g (suc i) t e = both m ts us (λ i t e. h (suc i) t e) g i t e

abbrev IsTyped : WasmModule → ImportKind → Type 0
IsTyped m kind = AreTypes m (function_of kind)

kind_typed : (m : WasmModule) (before : List Imported) (kind : ImportKind) → import_rule m before kind ≡ None → IsTyped m kind
kind_typed m before (imports.Func n) e zero t q = let is : n ≡ t = cc in subst (λ t. is_type m t ≡ true) is (meets_none (is_type m n) NoType None e)
kind_typed m before (imports.Func n) e (suc i) t q = cc
kind_typed m before (imports.Table l) e i t q = cc
kind_typed m before (imports.Memory l) e i t q = cc
kind_typed m before (imports.Global g) e i t q = cc

imported : (m : WasmModule) (is : List Imported) → ((i : ℕ) (x : Imported) → slice_get is i ≡ Some x → IsTyped m x.kind) → AreTypes m (imported_functions is)
imported m [] h i t e = cc
imported m (x ∷ is) h i t e = both m (function_of x.kind) (imported_functions is) (h zero x refl) (imported m is (λ i x e. h (suc i) x e)) i t e

module _ (m : WasmModule) (valid : IsValidModule m) where
  imports_typed : (i : ℕ) (x : Imported) → slice_get m.imports i ≡ Some x → IsTyped m x.kind
  imports_typed i x e =
      let fine : item_rule m sections.Imports i ≡ None = valid sections.Imports i (slice_get_within m.imports i x e) in
      kind_typed m (take i m.imports) x.kind (sym (ap (λ o. at o (λ x. import_rule m (take i m.imports) x.kind)) e) ∙ fine)

  own_typed : AreTypes m m.functions
  own_typed i t e =
      let fine : item_rule m sections.Functions i ≡ None = valid sections.Functions i (slice_get_within m.functions i t e) in
      meets_none (is_type m t) NoType None (sym (ap (λ o. at o (λ t. meets (is_type m t) NoType None)) e) ∙ fine)

  all_typed : AreTypes m (function_types m)
  all_typed = both m (imported_functions m.imports) m.functions (imported m m.imports imports_typed) own_typed

  less : (i n : ℕ) → nat_lt i n ≡ true → i < n
  less i n e = grind arith

  pub has_type : (f : ℕ) → f < length (function_types m) → (t : FunctionType) × (type_of_function m f ≡ Some t)
  has_type f h =
      let n = get_or (function_types m) f 0 in
      let stands = slice_get-get_or (function_types m) f 0 h in
      let within = less n (length m.types) (all_typed f n stands) in
      (get_or m.types n no_type, rw (stands, slice_get-get_or m.types n no_type within) refl)
