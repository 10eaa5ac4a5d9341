-- The types of functions by their addresses: a bound import has the type of what it is bound to.
use Rattle.std.proofs.Common.{◌≡◌, ℕ, zero, suc, ◌+◌, Bool, true, false, not, List, [], ◌∷◌, ◌++◌, length, map, Option, Some, None, refl, sym, ap, ◌∙◌, subst}
use Rattle.std.specs.Prelude.{slice_get, if◌then◌else◌, ◌&&◌, option_map}
use Rattle.std.proofs.lemmas.Option.{slice_get-map}
use Rattle.wasm_lang.specs.declared.types.ValType.{ValType}
use Rattle.wasm_lang.specs.declared.types.ValType.TheVariants.{I32, I64}
use Rattle.wasm_lang.specs.declared.types.ImportKind.{ImportKind}
use Rattle.wasm_lang.specs.declared.types.ImportKind.TheVariants as imports
use Rattle.wasm_lang.specs.Modules.{FunctionType, Imported, WasmModule}
use Rattle.wasm_lang_valid.specs.Typing.{same}
use Rattle.wasm_lang_valid.specs.Measures.{is_function_import}
use Rattle.wasm_lang_valid.specs.ModuleRules.{function_of, imported_functions, function_types, type_of_function}
use Rattle.wasm_lang_exec.specs.Reductions.{same_types, same_type}
use Rattle.wasm_link_lang.specs.Pairs.{Pair, past_first, bound_to, function_imports, next}
use Rattle.wasm_link_lang.specs.Refusal.{are_of_one_type, imported_type, differs, other_type}
use Rattle.wasm_link_laws_modules.specs.Kept.{address_types, type_at, found_type}
use Rattle.wasm_link_laws_modules.proofs.Accepted.{MeetsNoRow}
use Rattle.wasm_link_laws_modules.proofs.Places.{get_second, get_first}
use Rattle.wasm_link_laws_modules.proofs.Chains.{BoundAt, of_first, of_second, bound_at}

-- ---- equal types

same_is : (t u : ValType) → same t u ≡ true → t ≡ u
same_is I32 I32 e = refl
same_is I32 I64 e = cc e
same_is I64 I32 e = cc e
same_is I64 I64 e = refl

both_true : (a b : Bool) → (a && b) ≡ true → (a ≡ true) × (b ≡ true)
both_true true b e = (refl, e)
both_true false b e = cc e

same_types_are : (ts us : List ValType) → same_types ts us ≡ true → ts ≡ us
same_types_are [] [] e = refl
same_types_are [] (u ∷ us) e = cc e
same_types_are (t ∷ ts) [] e = cc e
same_types_are (t ∷ ts) (u ∷ us) e =
    let b = both_true (same t u) (same_types ts us) e in
    ap (λ t. t ∷ ts) (same_is t u b.0) ∙ ap (λ ts. u ∷ ts) (same_types_are ts us b.1)

same_type_is : (t u : FunctionType) → same_type t u ≡ true → t ≡ u
same_type_is t u e =
    let b = both_true (same_types t.params u.params) (same_types t.results u.results) e in
    ap (λ (ps : List ValType). let r : FunctionType = record { params = ps; results = t.results } in r) (same_types_are t.params u.params b.0)
    ∙ ap (λ (rs : List ValType). let r : FunctionType = record { params = u.params; results = rs } in r) (same_types_are t.results u.results b.1)

one_type : (o p : Option FunctionType) → are_of_one_type o p ≡ true → (t : FunctionType) × (o ≡ Some t) × (p ≡ Some t)
one_type None p e = absurd (cc e)
one_type (Some t) None e = absurd (cc e)
one_type (Some t) (Some u) e = (t, refl, ap Some (sym (same_type_is t u e)))

-- ---- a function import by its place among these

pub record ImportAt (is : List Imported) (k : ℕ) (i : Imported) : Type 0 where
  pub type : ℕ
  pub kind : i.kind ≡ imports.Func type
  pub typed : slice_get (imported_functions is) k ≡ Some type

pub import_at : (is : List Imported) (k : ℕ) (i : Imported) → slice_get (function_imports is) k ≡ Some i → ImportAt is k i
import_at [] k i h = absurd (cc h)
import_at (x ∷ is) k i h = by x.kind refl k h (import_at is)
  where
    by : (kind : ImportKind) → x.kind ≡ kind → (k : ℕ) → slice_get (if is_function_import kind then x ∷ function_imports is else function_imports is) k ≡ Some i
        → ((k : ℕ) (i : Imported) → slice_get (function_imports is) k ≡ Some i → ImportAt is k i) → ImportAt (x ∷ is) k i
    by (imports.Func t) e zero h further =
        let it : x ≡ i = cc h in
        record { type = t; kind = ap (λ (i : Imported). i.kind) (sym it) ∙ e; typed = ap (λ k. slice_get (function_of k ++ imported_functions is) 0) e }
    by (imports.Func t) e (suc k) h further =
        let r = further k i h in record { type = r.type; kind = r.kind; typed = ap (λ f. slice_get (function_of f ++ imported_functions is) (suc k)) e ∙ r.typed }
    by (imports.Table l) e k h further =
        let r = further k i h in record { type = r.type; kind = r.kind; typed = ap (λ f. slice_get (function_of f ++ imported_functions is) k) e ∙ r.typed }
    by (imports.Memory l) e k h further =
        let r = further k i h in record { type = r.type; kind = r.kind; typed = ap (λ f. slice_get (function_of f ++ imported_functions is) k) e ∙ r.typed }
    by (imports.Global l) e k h further =
        let r = further k i h in record { type = r.type; kind = r.kind; typed = ap (λ f. slice_get (function_of f ++ imported_functions is) k) e ∙ r.typed }

-- no import differs from what it is bound to
none_differs : (m other : WasmModule) (n : ℕ) (is : List Imported) → other_type m other n is ≡ None → (k : ℕ) (i : Imported) → slice_get (function_imports is) k ≡ Some i
    → differs m other i.kind (bound_to other i) ≡ false
none_differs m other n [] e k i h = absurd (cc h)
none_differs m other n (x ∷ is) e k i h = by (differs m other x.kind (bound_to other x)) refl e (is_function_import x.kind) k h (none_differs m other (suc n) is)
  where
    by : (b : Bool) → differs m other x.kind (bound_to other x) ≡ b → (if b then Some n else other_type m other (suc n) is) ≡ None
        → (f : Bool) (k : ℕ) → slice_get (if f then x ∷ function_imports is else function_imports is) k ≡ Some i
        → (other_type m other (suc n) is ≡ None → (k : ℕ) (i : Imported) → slice_get (function_imports is) k ≡ Some i → differs m other i.kind (bound_to other i) ≡ false)
        → differs m other i.kind (bound_to other i) ≡ false
    by true d e f k h further = absurd (cc e)
    by false d e true zero h further = let it : x ≡ i = cc h in ap (λ (i : Imported). differs m other i.kind (bound_to other i)) (sym it) ∙ d
    by false d e true (suc k) h further = further e k i h
    by false d e false k h further = further e k i h

not_false : (b : Bool) → not b ≡ false → b ≡ true
not_false true e = refl
not_false false e = cc e

-- ---- the type of a bound import

pub record BoundImport (m other : WasmModule) (k f : ℕ) : Type 0 where
  pub number : ℕ
  pub type : FunctionType
  pub numbered : slice_get (imported_functions m.imports) k ≡ Some number
  pub of_import : slice_get m.types number ≡ Some type
  pub of_function : type_of_function other f ≡ Some type

bound_import : (m other : WasmModule) (k f : ℕ) (i : Imported) → other_type m other 0 m.imports ≡ None → slice_get (function_imports m.imports) k ≡ Some i → bound_to other i ≡ Some f
    → BoundImport m other k f
bound_import m other k f i rows h b =
    let at = import_at m.imports k i h in
    let same : not (are_of_one_type (imported_type m i.kind) (type_of_function other f)) ≡ false = ap (differs m other i.kind) (sym b) ∙ none_differs m other 0 m.imports rows k i h in
    let types = one_type (imported_type m i.kind) (type_of_function other f) (not_false (are_of_one_type (imported_type m i.kind) (type_of_function other f)) same) in
    record { number = at.type; type = types.0; numbered = at.typed; of_import = ap (imported_type m) (sym at.kind) ∙ types.1; of_function = types.2 }

pub is_mapped : {A B : Type 0} → (g : A → B) (o : Option A) (y : B) → option_map g o ≡ Some y → (x : A) × (o ≡ Some x) × (g x ≡ y)
is_mapped g None y e = absurd (cc e)
is_mapped g (Some x) y e = (x, refl, cc e)

module _ (w : Pair) where
  -- ---- addresses of types

  pub typed_first : (f : ℕ) (t : FunctionType) → type_of_function w.first f ≡ Some t → type_at w f ≡ Some t
  typed_first f t e = by (slice_get (function_types w.first) f) refl
    where
      by : (o : Option ℕ) → slice_get (function_types w.first) f ≡ o → type_at w f ≡ Some t
      by None is = let none : type_of_function w.first f ≡ None = rw is refl in absurd (cc (none, e))
      by (Some n) is =
          let some : type_of_function w.first f ≡ slice_get w.first.types n = rw is refl in
          ap (found_type w)
          (get_first (function_types w.first) (map (λ t. length w.first.types + t) (imported_functions w.second.imports) ++ map (λ t. length w.first.types + t) w.second.functions) f n is)
          ∙ get_first w.first.types w.second.types n t (sym some ∙ e)

  second_address : (f n : ℕ) → slice_get (function_types w.second) f ≡ Some n → slice_get (address_types w) ((past_first w).functions + f) ≡ Some (length w.first.types + n)
  second_address f n e =
      get_second (function_types w.first) (map (λ t. length w.first.types + t) (imported_functions w.second.imports) ++ map (λ t. length w.first.types + t) w.second.functions) f
      ∙ ap (λ ts. slice_get ts f) (sym (map_both (λ t. length w.first.types + t) (imported_functions w.second.imports) w.second.functions))
      ∙ slice_get-map (λ t. length w.first.types + t) (function_types w.second) f ∙ ap (option_map (λ t. length w.first.types + t)) e
    where
      map_both : {A B : Type 0} → (g : A → B) (xs ys : List A) → map g (xs ++ ys) ≡ map g xs ++ map g ys
      map_both g [] ys = refl
      map_both g (x ∷ xs) ys = ap (λ zs. g x ∷ zs) (map_both g xs ys)

  pub typed_second : (f : ℕ) (t : FunctionType) → type_of_function w.second f ≡ Some t → type_at w ((past_first w).functions + f) ≡ Some t
  typed_second f t e = by (slice_get (function_types w.second) f) refl
    where
      by : (o : Option ℕ) → slice_get (function_types w.second) f ≡ o → type_at w ((past_first w).functions + f) ≡ Some t
      by None is = let none : type_of_function w.second f ≡ None = rw is refl in absurd (cc (none, e))
      by (Some n) is =
          let some : type_of_function w.second f ≡ slice_get w.second.types n = rw is refl in
          ap (found_type w) (second_address f n is) ∙ get_second w.first.types w.second.types n ∙ sym some ∙ e

  -- ---- what is bound has the type of what it is bound to

  module _ (rows : MeetsNoRow w) where
    abbrev IsOf : FunctionType → ℕ → Type 0
    IsOf t a = type_at w a ≡ Some t

    one_of : (a b : ℕ) (t u : FunctionType) → type_at w a ≡ Some u → IsOf t a → IsOf u b → IsOf t b
    one_of a b t u e h f = let same : t ≡ u = cc (e, h) in f ∙ ap Some (sym same)

    pub type_stays : (t : FunctionType) (a b : ℕ) → next w a ≡ Some b → IsOf t a → IsOf t b
    type_stays t a b e h = by (bound_at w a b e)
      where
        of_first_import : (i : Imported) (f : ℕ) → slice_get (function_imports w.first.imports) a ≡ Some i → bound_to w.second i ≡ Some f → (past_first w).functions + f ≡ b → IsOf t b
        of_first_import i f at is e =
            let it = bound_import w.first w.second a f i rows.first_types at is in
            let stands : type_of_function w.first a ≡ Some it.type =
            let first = get_first (imported_functions w.first.imports) w.first.functions a it.number it.numbered in rw first it.of_import
            in
            one_of a b t it.type (typed_first a it.type stands) h (subst (IsOf it.type) e (typed_second f it.type it.of_function))

        of_second_import : (j : ℕ) (i : Imported) → a ≡ (past_first w).functions + j → slice_get (function_imports w.second.imports) j ≡ Some i → bound_to w.first i ≡ Some b → IsOf t b
        of_second_import j i same at is =
            let it = bound_import w.second w.first j b i rows.second_types at is in
            let stands : type_of_function w.second j ≡ Some it.type =
            let first = get_first (imported_functions w.second.imports) w.second.functions j it.number it.numbered in rw first it.of_import
            in
            one_of a b t it.type (ap (type_at w) same ∙ typed_second j it.type stands) h (typed_first b it.type it.of_function)

        by : BoundAt w a b → IsOf t b
        by (of_first p) =
            let at = is_mapped (λ i. option_map (λ f. (past_first w).functions + f) (bound_to w.second i)) (slice_get (function_imports w.first.imports) a) (Some b)
            (sym (slice_get-map (λ i. option_map (λ f. (past_first w).functions + f) (bound_to w.second i)) (function_imports w.first.imports) a) ∙ p) in
            let to = is_mapped (λ f. (past_first w).functions + f) (bound_to w.second at.0) b at.2 in
            of_first_import at.0 to.0 at.1 to.1 to.2
        by (of_second j same p) =
            let at = is_mapped (bound_to w.first) (slice_get (function_imports w.second.imports) j) (Some b) (sym (slice_get-map (bound_to w.first) (function_imports w.second.imports) j) ∙ p) in
            of_second_import j at.0 same at.1 at.2
