-- What the parts of the linked module are, in blocks.
use Rattle.std.proofs.Common.{◌≡◌, ℕ, ◌+◌, Bool, true, false, not, List, [], ◌∷◌, ◌++◌, length, map, Option, Some, None, refl, sym, ap, ◌∙◌, append-nil}
use Rattle.std.specs.Prelude.{if◌then◌else◌, ◌||◌, option_map}
use Rattle.std.proofs.lemmas.List.{append_assoc}
use Rattle.wasm_lang.specs.declared.types.ImportKind.{ImportKind}
use Rattle.wasm_lang.specs.declared.types.ImportKind.TheVariants as imports
use Rattle.wasm_lang.specs.Modules.{Imported, WasmModule}
use Rattle.wasm_lang_valid.specs.ModuleRules.{function_of, global_of, imported_functions, imported_globals, function_types}
use Rattle.wasm_link_lang.specs.Pairs.{Pair, past_first, bound_to, function_imports, first_bindings, second_bindings}
use Rattle.wasm_link_lang.specs.Refusal.{is_there, least_maximum}
use Rattle.wasm_link_lang.specs.Session.{pages}
use Rattle.wasm_link_code.specs.Linked.{staying, moved_import, memory_import, linked_imports, start_types, linked_functions, linked}
use Rattle.wasm_link_laws_modules.specs.Kept.{kept}

-- ---- lists

pub kept_map : {A B : Type 0} → (g : A → B) (bs : List (Option ℕ)) (xs : List A) → kept bs (map g xs) ≡ map g (kept bs xs)
kept_map g [] xs = refl
kept_map g (b ∷ bs) [] = refl
kept_map g (None ∷ bs) (x ∷ xs) = ap (λ ys. g x ∷ ys) (kept_map g bs xs)
kept_map g (Some b ∷ bs) (x ∷ xs) = kept_map g bs xs

functions_append : (is js : List Imported) → imported_functions (is ++ js) ≡ imported_functions is ++ imported_functions js
functions_append [] js = refl
functions_append (i ∷ is) js = ap (λ ts. function_of i.kind ++ ts) (functions_append is js) ∙ sym (append_assoc (function_of i.kind) (imported_functions is) (imported_functions js))

globals_append : (is js : List Imported) → imported_globals (is ++ js) ≡ imported_globals is ++ imported_globals js
globals_append [] js = refl
globals_append (i ∷ is) js = ap (λ ts. global_of i.kind ++ ts) (globals_append is js) ∙ sym (append_assoc (global_of i.kind) (imported_globals is) (imported_globals js))

-- ---- imports with moved types

functions_moved : (n : ℕ) (is : List Imported) → imported_functions (map (moved_import n) is) ≡ map (λ t. n + t) (imported_functions is)
functions_moved n [] = refl
functions_moved n (i ∷ is) = by i.kind (functions_moved n is)
  where
    by : (kind : ImportKind) → imported_functions (map (moved_import n) is) ≡ map (λ t. n + t) (imported_functions is)
        → imported_functions (moved_import n (record i { kind = kind }) ∷ map (moved_import n) is) ≡ map (λ t. n + t) (function_of kind ++ imported_functions is)
    by (imports.Func t) e = ap (λ ts. (n + t) ∷ ts) e
    by (imports.Table l) e = e
    by (imports.Memory l) e = e
    by (imports.Global g) e = e

globals_moved : (n : ℕ) (is : List Imported) → imported_globals (map (moved_import n) is) ≡ imported_globals is
globals_moved n [] = refl
globals_moved n (i ∷ is) = by i.kind (globals_moved n is)
  where
    by : (kind : ImportKind) → imported_globals (map (moved_import n) is) ≡ imported_globals is
        → imported_globals (moved_import n (record i { kind = kind }) ∷ map (moved_import n) is) ≡ global_of kind ++ imported_globals is
    by (imports.Func t) e = e
    by (imports.Table l) e = e
    by (imports.Memory l) e = e
    by (imports.Global g) e = ap (λ gs. g ∷ gs) e

-- ---- imports that stay

staying_functions : (other : WasmModule) (b : Imported → Option ℕ) → ((i : Imported) → is_there (b i) ≡ is_there (bound_to other i)) → (is : List Imported)
    → imported_functions (staying other is) ≡ kept (map b (function_imports is)) (imported_functions is)
staying_functions other b as_bound [] = refl
staying_functions other b as_bound (i ∷ is) = by i.kind i.module_name i.name (staying_functions other b as_bound is)
  where
    with_one : (o : Option ℕ) (there : Bool) (j : Imported) (t : ℕ) → j.kind ≡ imports.Func t → is_there o ≡ there
        → imported_functions (staying other is) ≡ kept (map b (function_imports is)) (imported_functions is)
        → imported_functions (if not there || false then j ∷ staying other is else staying other is) ≡ kept (o ∷ map b (function_imports is)) (t ∷ imported_functions is)
    with_one None true j t f e further = absurd (cc e)
    with_one None false j t f e further = ap (λ k. function_of k ++ imported_functions (staying other is)) f ∙ ap (λ ts. t ∷ ts) further
    with_one (Some x) true j t f e further = further
    with_one (Some x) false j t f e further = absurd (cc e)

    by : (kind : ImportKind) (n m : List ℕ) → imported_functions (staying other is) ≡ kept (map b (function_imports is)) (imported_functions is)
        → let j : Imported = record { module_name = n; name = m; kind = kind } in
        imported_functions (staying other (j ∷ is)) ≡ kept (map b (function_imports (j ∷ is))) (imported_functions (j ∷ is))
    by (imports.Func t) n m further =
        let j : Imported = record { module_name = n; name = m; kind = imports.Func t } in with_one (b j) (is_there (bound_to other j)) j t refl (as_bound j) further
    by (imports.Table l) n m further = further
    by (imports.Memory l) n m further = further
    by (imports.Global g) n m further = further

staying_globals : (other : WasmModule) (is : List Imported) → imported_globals (staying other is) ≡ imported_globals is
staying_globals other [] = refl
staying_globals other (i ∷ is) = by i.kind i.module_name i.name (staying_globals other is)
  where
    either : (b : Bool) (j : Imported) (t : ℕ) → j.kind ≡ imports.Func t → imported_globals (staying other is) ≡ imported_globals is
        → imported_globals (if b then j ∷ staying other is else staying other is) ≡ imported_globals is
    either true j t f further = ap (λ k. global_of k ++ imported_globals (staying other is)) f ∙ further
    either false j t f further = further

    by : (kind : ImportKind) (n m : List ℕ) → imported_globals (staying other is) ≡ imported_globals is
        → let j : Imported = record { module_name = n; name = m; kind = kind } in imported_globals (staying other (j ∷ is)) ≡ imported_globals (j ∷ is)
    by (imports.Func t) n m further =
        let j : Imported = record { module_name = n; name = m; kind = imports.Func t } in either (not (is_there (bound_to other j)) || false) j t refl further
    by (imports.Table l) n m further = further
    by (imports.Memory l) n m further = further
    by (imports.Global g) n m further = ap (λ gs. g ∷ gs) further

memory_functions : (least most : Option ℕ) → imported_functions (memory_import least most) ≡ []
memory_functions None most = refl
memory_functions (Some n) most = refl

memory_globals : (least most : Option ℕ) → imported_globals (memory_import least most) ≡ []
memory_globals None most = refl
memory_globals (Some n) most = refl

-- ---- the whole

pub mapped_there : {A B : Type 0} → (g : A → B) (o : Option A) → is_there (option_map g o) ≡ is_there o
mapped_there g None = refl
mapped_there g (Some x) = refl

module _ (w : Pair) where
  abbrev past : ℕ → ℕ
  past t = length w.first.types + t

  first_stay : imported_functions (staying w.second w.first.imports) ≡ kept (first_bindings w) (imported_functions w.first.imports)
  first_stay =
      staying_functions w.second (λ i. option_map (λ f. (past_first w).functions + f) (bound_to w.second i)) (λ i. mapped_there (λ f. (past_first w).functions + f) (bound_to w.second i)) w.first.imports

  second_stay : imported_functions (map (moved_import (length w.first.types)) (staying w.first w.second.imports)) ≡ kept (second_bindings w) (map past (imported_functions w.second.imports))
  second_stay =
      functions_moved (length w.first.types) (staying w.first w.second.imports)
      ∙ ap (map past) (staying_functions w.first (bound_to w.first) (λ i. refl) w.second.imports)
      ∙ sym (kept_map past (second_bindings w) (imported_functions w.second.imports))

  imported_are : imported_functions (linked_imports w) ≡ kept (first_bindings w) (imported_functions w.first.imports) ++ kept (second_bindings w) (map past (imported_functions w.second.imports))
  imported_are =
      let moved = map (moved_import (length w.first.types)) (staying w.first w.second.imports) in
      let memory = memory_import (pages w) (least_maximum w) in
      functions_append (staying w.second w.first.imports) (moved ++ memory)
      ∙ ap (λ ts. ts ++ imported_functions (moved ++ memory)) first_stay
      ∙ ap (λ ts. kept (first_bindings w) (imported_functions w.first.imports) ++ ts)
      (functions_append moved memory ∙ ap (λ ts. imported_functions moved ++ ts) (memory_functions (pages w) (least_maximum w)) ∙ append-nil (imported_functions moved) ∙ second_stay)

  -- the types of the functions of the linked module
  pub functions_are :
      function_types (linked w)
      ≡ (kept (first_bindings w) (imported_functions w.first.imports) ++ kept (second_bindings w) (map past (imported_functions w.second.imports)))
      ++ (w.first.functions ++ (map past w.second.functions ++ start_types w w.first.start w.second.start))
  unfolding linked
  functions_are = ap (λ ts. ts ++ linked_functions w) imported_are

  pub imported_globals_are : imported_globals (linked_imports w) ≡ imported_globals w.first.imports ++ imported_globals w.second.imports
  imported_globals_are =
      let moved = map (moved_import (length w.first.types)) (staying w.first w.second.imports) in
      let memory = memory_import (pages w) (least_maximum w) in
      globals_append (staying w.second w.first.imports) (moved ++ memory)
      ∙ ap (λ ts. ts ++ imported_globals (moved ++ memory)) (staying_globals w.second w.first.imports)
      ∙ ap (λ ts. imported_globals w.first.imports ++ ts)
      (globals_append moved memory ∙ ap (λ ts. imported_globals moved ++ ts) (memory_globals (pages w) (least_maximum w)) ∙ append-nil (imported_globals moved)
      ∙ globals_moved (length w.first.types) (staying w.first w.second.imports) ∙ staying_globals w.first w.second.imports)
