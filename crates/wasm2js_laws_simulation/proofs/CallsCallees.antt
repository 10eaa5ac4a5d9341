-- The types of what is called, as the module and its table say them.
use Rattle.std.proofs.Common.{◌≡◌, ℕ, zero, suc, false, ◌&&◌, List, [], ◌∷◌, ◌++◌, length, Option, Some, None, refl, ap, ◌∙◌}
use Rattle.std.specs.Prelude.{slice_get, option_map}
use Rattle.std.specs.Cmp.Lexicographic.{pointwise}
use Rattle.wasm_lang.specs.declared.types.ValType.{ValType}
use Rattle.wasm_lang.specs.declared.types.ImportKind.{ImportKind}
use Rattle.wasm_lang.specs.declared.types.ImportKind.TheVariants as imports
use Rattle.wasm_lang.specs.Modules.{FunctionType, Imported, FunctionBody, WasmModule}
use Rattle.wasm_lang_valid.specs.Measures as measures
use Rattle.wasm_lang_valid.specs.ModuleRules.{function_of, imported_functions, type_of_function}
use Rattle.wasm_lang_valid.specs.Typing.{same}
use Rattle.wasm_lang_valid.specs.Validity.{IsValidModule}
use Rattle.wasm_lang_exec.specs.Code.{Trees, tree_of}
use Rattle.wasm_lang_exec.specs.Reductions.{Callee, an_import, a_function, type_of, if_function, imported_callee, imported_callees, own_callee, own_callees, callees, callee_at, found, same_types, same_type, of_type}
use Rattle.wasm_laws_sound.proofs.Functions.{typed_functions}
use Rattle.session_lang.specs.Names.{import_name}
use Rattle.wasm2js_lang.specs.Tables.{has_form}

-- ---- equal types

types_alike : (ts us : List ValType) → same_types ts us ≡ pointwise same ts us
types_alike [] [] = refl
types_alike [] (u ∷ us) = refl
types_alike (t ∷ ts) [] = refl
types_alike (t ∷ ts) (u ∷ us) = ap (λ b. same t u && b) (types_alike ts us)

pub type_alike : (t u : FunctionType) → same_type t u ≡ measures.same_type t u
type_alike t u = ap (λ b. b && same_types t.results u.results) (types_alike t.params u.params) ∙ ap (λ b. pointwise same t.params u.params && b) (types_alike t.results u.results)

-- ---- what is called has its type in the module

module _ (m : WasmModule) where
  -- the type of the number at a place
  record IsTypeAt (ns : List ℕ) (i : ℕ) (t : FunctionType) : Type 0 where
    number : ℕ
    is_number : slice_get ns i ≡ Some number
    is_type : slice_get m.types number ≡ Some t

  abbrev HaveTypes : List ℕ → List (Option Callee) → Type 0
  HaveTypes ns cs = (i : ℕ) (c : Callee) → slice_get cs i ≡ Some (Some c) → IsTypeAt ns i (type_of c)

  own_type : (n : ℕ) (b : FunctionBody) (c : Callee) (o : Option FunctionType) (tree : Option Trees) → slice_get m.types n ≡ o → own_callee o b tree ≡ Some c → slice_get m.types n ≡ Some (type_of c)
  own_type n b c None tree is e = cc e
  own_type n b c (Some t) None is e = cc e
  own_type n b c (Some t) (Some code) is e = let same : a_function t b.locals code ≡ c = cc e in is ∙ ap (λ c. Some (type_of c)) same

  own_types : (ns : List ℕ) (bs : List FunctionBody) → HaveTypes ns (own_callees m ns bs)
  own_types [] [] i c e = cc e
  own_types [] (b ∷ bs) i c e = cc e
  own_types (n ∷ ns) [] i c e = cc e
  own_types (n ∷ ns) (b ∷ bs) zero c e = record { number = n; is_number = refl; is_type = own_type n b c (slice_get m.types n) (tree_of b.code) refl (cc e) }
  own_types (n ∷ ns) (b ∷ bs) (suc i) c e = let it = own_types ns bs i c e in record { number = it.number; is_number = it.is_number; is_type = it.is_type }

  import_type : (name : List ℕ) (c : Callee) (n : ℕ) (o : Option FunctionType) → slice_get m.types n ≡ o → option_map (an_import name) o ≡ Some c → slice_get m.types n ≡ Some (type_of c)
  import_type name c n None is e = cc e
  import_type name c n (Some t) is e = let same : an_import name t ≡ c = cc e in is ∙ ap (λ c. Some (type_of c)) same

  imported_types : (is : List Imported) (ns : List ℕ) (cs : List (Option Callee)) → HaveTypes ns cs → HaveTypes (imported_functions is ++ ns) (imported_callees m is ++ cs)
  imported_types [] ns cs have i c e = have i c e
  imported_types (x ∷ is) ns cs have i c e = go (imported_types is ns cs have) x.kind i c e
    where
      go : HaveTypes (imported_functions is ++ ns) (imported_callees m is ++ cs) → (kind : ImportKind) (i : ℕ) (c : Callee)
          → slice_get (if_function kind (λ k. imported_callee m x k ∷ imported_callees m is) (imported_callees m is) ++ cs) i ≡ Some (Some c)
          → IsTypeAt ((function_of kind ++ imported_functions is) ++ ns) i (type_of c)
      go before (imports.Func k) zero c e = record { number = k; is_number = refl; is_type = import_type (import_name x.module_name x.name) c k (slice_get m.types k) refl (cc e) }
      go before (imports.Func k) (suc i) c e = let it = before i c e in record { number = it.number; is_number = it.is_number; is_type = it.is_type }
      go before (imports.Table l) i c e = before i c e
      go before (imports.Memory l) i c e = before i c e
      go before (imports.Global g) i c e = before i c e

  found_some : (o : Option (Option Callee)) (c : Callee) → found o ≡ Some c → o ≡ Some (Some c)
  found_some None c e = cc e
  found_some (Some x) c e = ap Some e

  pub callee_typed : (k : ℕ) (c : Callee) → callee_at m k ≡ Some c → type_of_function m k ≡ Some (type_of c)
  callee_typed k c e =
      let it = imported_types m.imports m.functions (own_callees m m.functions m.bodies) (own_types m.functions m.bodies) k c (found_some (slice_get (callees m) k) c e) in
      let number = it.is_number in
      let some : type_of_function m k ≡ slice_get m.types it.number = rw number refl in
      some ∙ it.is_type

  -- ---- an entry is of a type exactly where its cell says so

  none_there : (k : ℕ) → type_of_function m k ≡ None → (o : Option Callee) → callee_at m k ≡ o → (t : FunctionType) → of_type (Some t) o ≡ false
  none_there k e None is t = refl
  none_there k e (Some c) is t = let some = callee_typed k c is in absurd (cc (e, some))

  pub of_type_is : IsValidModule m → length m.functions ≡ length m.bodies → (t : FunctionType) (k : ℕ) → of_type (Some t) (callee_at m k) ≡ has_form t (type_of_function m k)
  of_type_is valid match t k = by (type_of_function m k) refl
    where
      by : (o : Option FunctionType) → type_of_function m k ≡ o → of_type (Some t) (callee_at m k) ≡ has_form t o
      by None e = none_there k e (callee_at m k) refl t
      by (Some u) e =
          let it = (typed_functions m valid match).are_there k u e in
          ap (of_type (Some t)) it.1 ∙ ap (same_type t) it.2 ∙ type_alike t u
