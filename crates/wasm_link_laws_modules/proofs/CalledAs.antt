-- The linked module is called as asked.
use Rattle.std.proofs.Common.{◌≡◌, ℕ, ◌+◌, Bool, true, false, not, List, [], ◌∷◌, ◌++◌, length, map, take, Option, Some, None, refl, sym, ap, ◌∙◌, subst, arith}
use Rattle.std.proofs.lemmas.List.{append-nil, append_assoc}
use Rattle.std.proofs.lemmas.Option.{get_or_from_slice_get}
use Rattle.std.specs.Prelude.{slice_get, if◌then◌else◌, ◌||◌, All}
use Rattle.wasm_lang.specs.declared.types.GlobalType.{GlobalType}
use Rattle.wasm_lang.specs.declared.types.Limits.{Limits}
use Rattle.wasm_lang.specs.declared.types.ImportKind.{ImportKind}
use Rattle.wasm_lang.specs.declared.types.ImportKind.TheVariants as imports
use Rattle.wasm_lang.specs.Modules.{Imported, Exported, WasmModule}
use Rattle.wasm_lang_valid.specs.ModuleRules.{is_type, type_of_function}
use Rattle.wasm_lang_exec.specs.Session.{exported_function}
use Rattle.wasm_laws_sound.specs.Laws.{IsWhole}
use Rattle.asm2wasm_lang.specs.Calling.{Import, imported_as, of_kind, function_of, global_of, memory_of, table_of}
use Rattle.wasm_link_lang.specs.Pairs.{Pair, past_first, bound_to}
use Rattle.wasm_link_lang.specs.Refusal.{is_there, least_maximum}
use Rattle.wasm_link_lang.specs.Session.{pages}
use Rattle.wasm_link_lang.specs.Calling.{unbound, functions_asked, memory_asked, with_function, functions_exported, OnlyFunctions, IsCalledAs}
use Rattle.wasm_link_code.specs.Numbers.{number}
use Rattle.wasm_link_code.specs.Linked.{stays, staying, moved_kind, moved_import, memory_import, with_export, moved_exports, linked_exports, linked}
use Rattle.wasm_link_laws_modules.proofs.Accepted.{MeetsNoRow}
use Rattle.wasm_link_laws_modules.proofs.Places.{get_there, get_second, get_first}
use Rattle.wasm_link_laws_modules.proofs.Types.{typed_first, typed_second}
use Rattle.wasm_link_laws_modules.proofs.Numbered.{number_typed}
use Rattle.wasm_link_laws_modules.proofs.Facts.{Every, every_both, every_less, lt_true, imports_kept}
use Rattle.wasm_link_laws_modules.proofs.Sections.{TypeThere, import_type, typed_there, linked_imports_are}
use Rattle.wasm_link_laws_modules.proofs.ExportsValid.{moved_export, exported_there, linked_exports_are}

pub all_of_every : {A : Type 0} → (P : A → Type 0) (xs : List A) → Every P xs → All P xs
all_of_every P xs e k d h = let it = get_there xs k h in subst P (sym (get_or_from_slice_get xs k it.0 d it.1)) (e k it.0 it.1)

-- ---- imports of one kind

kind_joins : {A : Type 0} → (kind : ImportKind → List A) (is js : List Imported) → of_kind kind (is ++ js) ≡ of_kind kind is ++ of_kind kind js
kind_joins kind [] js = refl
kind_joins kind (i ∷ is) js =
    ap (λ xs. map (imported_as i) (kind i.kind) ++ xs) (kind_joins kind is js) ∙ sym (append_assoc (map (imported_as i) (kind i.kind)) (of_kind kind is) (of_kind kind js))

-- a kind that no function has
staying_kind : {A : Type 0} → (kind : ImportKind → List A) → ((t : ℕ) → kind (imports.Func t) ≡ []) → ((l : Limits) → kind (imports.Table l) ≡ []) → ((l : Limits) → kind (imports.Memory l) ≡ [])
    → (other : WasmModule) (is : List Imported) → of_kind kind (staying other is) ≡ of_kind kind is
staying_kind kind f t m other [] = refl
staying_kind kind f t m other (i ∷ is) = by i.kind i.module_name i.name (staying_kind kind f t m other is)
  where
    either : (b : Bool) (j : Imported) (n : ℕ) → j.kind ≡ imports.Func n → of_kind kind (staying other is) ≡ of_kind kind is
        → of_kind kind (if b then j ∷ staying other is else staying other is) ≡ of_kind kind is
    either true j n e further = ap (λ k. map (imported_as j) (kind k) ++ of_kind kind (staying other is)) e ∙ ap (λ xs. map (imported_as j) xs ++ of_kind kind (staying other is)) (f n) ∙ further
    either false j n e further = further

    by : (k : ImportKind) (n o : List ℕ) → of_kind kind (staying other is) ≡ of_kind kind is
        → let j : Imported = record { module_name = n; name = o; kind = k } in of_kind kind (staying other (j ∷ is)) ≡ of_kind kind (j ∷ is)
    by (imports.Func x) n o further =
        let j : Imported = record { module_name = n; name = o; kind = imports.Func x } in
        either (stays other j) j x refl further ∙ ap (λ xs. map (imported_as j) xs ++ of_kind kind is) (sym (f x))
    by (imports.Table l) n o further =
        let j : Imported = record { module_name = n; name = o; kind = imports.Table l } in further ∙ ap (λ xs. map (imported_as j) xs ++ of_kind kind is) (sym (t l))
    by (imports.Memory l) n o further =
        let j : Imported = record { module_name = n; name = o; kind = imports.Memory l } in further ∙ ap (λ xs. map (imported_as j) xs ++ of_kind kind is) (sym (m l))
    by (imports.Global g) n o further =
        let j : Imported = record { module_name = n; name = o; kind = imports.Global g } in ap (λ xs. map (imported_as j) (kind (imports.Global g)) ++ xs) further

-- a kind that neither functions nor globals have
none_staying : {A : Type 0} → (kind : ImportKind → List A) → ((t : ℕ) → kind (imports.Func t) ≡ []) → ((g : GlobalType) → kind (imports.Global g) ≡ [])
    → (other : WasmModule) (is : List Imported) → of_kind kind (staying other is) ≡ []
none_staying kind f g other [] = refl
none_staying kind f g other (i ∷ is) = by i.kind i.module_name i.name (none_staying kind f g other is)
  where
    either : (b : Bool) (j : Imported) (n : ℕ) → j.kind ≡ imports.Func n → of_kind kind (staying other is) ≡ [] → of_kind kind (if b then j ∷ staying other is else staying other is) ≡ []
    either true j n e further = ap (λ k. map (imported_as j) (kind k) ++ of_kind kind (staying other is)) e ∙ ap (λ xs. map (imported_as j) xs ++ of_kind kind (staying other is)) (f n) ∙ further
    either false j n e further = further

    by : (k : ImportKind) (n o : List ℕ) → of_kind kind (staying other is) ≡ [] → let j : Imported = record { module_name = n; name = o; kind = k } in of_kind kind (staying other (j ∷ is)) ≡ []
    by (imports.Func x) n o further = let j : Imported = record { module_name = n; name = o; kind = imports.Func x } in either (stays other j) j x refl further
    by (imports.Table l) n o further = further
    by (imports.Memory l) n o further = further
    by (imports.Global x) n o further =
        let j : Imported = record { module_name = n; name = o; kind = imports.Global x } in
        ap (λ xs. map (imported_as j) xs ++ of_kind kind (staying other is)) (g x) ∙ further

moved_kinds : {A : Type 0} → (kind : ImportKind → List A) (n : ℕ) → ((k : ImportKind) → kind (moved_kind n k) ≡ kind k) → (is : List Imported) → of_kind kind (map (moved_import n) is) ≡ of_kind kind is
moved_kinds kind n same [] = refl
moved_kinds kind n same (i ∷ is) =
    ap (λ xs. map (imported_as i) xs ++ of_kind kind (map (moved_import n) is)) (same i.kind) ∙ ap (λ xs. map (imported_as i) (kind i.kind) ++ xs) (moved_kinds kind n same is)

-- functions that aren't bound keep their types
functions_stay : (m w other : WasmModule) (n : ℕ) (is : List Imported) → ((t : ℕ) → is_type m t ≡ true → slice_get w.types (n + t) ≡ slice_get m.types t) → Every (λ (x : Imported). TypeThere m x.kind) is
    → of_kind (function_of w) (map (moved_import n) (staying other is)) ≡ of_kind (function_of m) (unbound other is)
functions_stay m w other n [] types there = refl
functions_stay m w other n (i ∷ is) types there = by i.kind i.module_name i.name (there 0 i refl) (functions_stay m w other n is types (every_less (λ (x : Imported). TypeThere m x.kind) i is there))
  where
    either : (b : Bool) (j : Imported) (t : ℕ) → j.kind ≡ imports.Func t → is_type m t ≡ true
        → of_kind (function_of w) (map (moved_import n) (staying other is)) ≡ of_kind (function_of m) (unbound other is)
        → of_kind (function_of w) (map (moved_import n) (if not b || false then j ∷ staying other is else staying other is)) ≡ of_kind (function_of m) (if b then unbound other is else j ∷ unbound other is)
    either true j t e h further = further
    either false j t e h further =
        ap (λ k. map (imported_as j) (function_of w (moved_kind n k)) ++ of_kind (function_of w) (map (moved_import n) (staying other is))) e
        ∙ ap (λ o. imported_as j o ∷ of_kind (function_of w) (map (moved_import n) (staying other is))) (types t h)
        ∙ ap (λ xs. imported_as j (slice_get m.types t) ∷ xs) further
        ∙ sym (ap (λ k. map (imported_as j) (function_of m k) ++ of_kind (function_of m) (unbound other is)) e)

    by : (k : ImportKind) (a b : List ℕ) → TypeThere m k → of_kind (function_of w) (map (moved_import n) (staying other is)) ≡ of_kind (function_of m) (unbound other is)
        → let j : Imported = record { module_name = a; name = b; kind = k } in
        of_kind (function_of w) (map (moved_import n) (staying other (j ∷ is))) ≡ of_kind (function_of m) (unbound other (j ∷ is))
    by (imports.Func t) a b h further = let j : Imported = record { module_name = a; name = b; kind = imports.Func t } in either (is_there (bound_to other j)) j t refl h further
    by (imports.Table l) a b h further = further
    by (imports.Memory l) a b h further = further
    by (imports.Global g) a b h further = further

pub moved_by_none : (is : List Imported) → map (moved_import 0) is ≡ is
moved_by_none [] = refl
moved_by_none (i ∷ is) = ap (λ k. let j : Imported = record i { kind = k } in j ∷ map (moved_import 0) is) (same i.kind) ∙ ap (λ is. i ∷ is) (moved_by_none is)
  where
    same : (k : ImportKind) → moved_kind 0 k ≡ k
    same (imports.Func t) = let e : 0 + t ≡ t = omega arith in ap imports.Func e
    same (imports.Table l) = refl
    same (imports.Memory l) = refl
    same (imports.Global g) = refl

memory_kind : (least most : Option ℕ) → of_kind memory_of (memory_import least most) ≡ memory_asked least most
memory_kind None most = refl
memory_kind (Some n) most = refl

no_functions : (w : WasmModule) (least most : Option ℕ) → of_kind (function_of w) (memory_import least most) ≡ []
no_functions w None most = refl
no_functions w (Some n) most = refl

no_globals : (least most : Option ℕ) → of_kind global_of (memory_import least most) ≡ []
no_globals None most = refl
no_globals (Some n) most = refl

no_tables : (least most : Option ℕ) → of_kind table_of (memory_import least most) ≡ []
no_tables None most = refl
no_tables (Some n) most = refl

-- ---- exports

exports_join : (m : WasmModule) (es ds : List Exported) → functions_exported m (es ++ ds) ≡ functions_exported m es ++ functions_exported m ds
exports_join m [] ds = refl
exports_join m (e ∷ es) ds = by (exported_function e.kind) (exports_join m es ds)
  where
    by : (o : Option ℕ) → functions_exported m (es ++ ds) ≡ functions_exported m es ++ functions_exported m ds
        → with_function m e o (functions_exported m (es ++ ds)) ≡ with_function m e o (functions_exported m es) ++ functions_exported m ds
    by None further = further
    by (Some f) further = ap (λ xs. record { name = e.name; type = type_of_function m f } ∷ xs) further

exports_keep : (m w : WasmModule) (number : ℕ → ℕ) (es : List Exported)
    → Every (λ (e : Exported). (f : ℕ) → exported_function e.kind ≡ Some f → type_of_function w (number f) ≡ type_of_function m f) es
    → functions_exported w (moved_exports number es) ≡ functions_exported m es
exports_keep m w number [] types = refl
exports_keep m w number (e ∷ es) types =
    by (exported_function e.kind) (types 0 e refl)
    (exports_keep m w number es (every_less (λ (e : Exported). (f : ℕ) → exported_function e.kind ≡ Some f → type_of_function w (number f) ≡ type_of_function m f) e es types))
  where
    by : (o : Option ℕ) → ((f : ℕ) → o ≡ Some f → type_of_function w (number f) ≡ type_of_function m f) → functions_exported w (moved_exports number es) ≡ functions_exported m es
        → functions_exported w (with_export number e o (moved_exports number es)) ≡ with_function m e o (functions_exported m es)
    by None h further = further
    by (Some f) h further =
        ap (λ t. record { name = e.name; type = t } ∷ functions_exported w (moved_exports number es)) (h f refl)
        ∙ ap (λ xs. record { name = e.name; type = type_of_function m f } ∷ xs) further

no_own_memories : (w : Pair) → (linked w).memories ≡ []
unfolding linked
no_own_memories w = refl

module _ (w : Pair) (rows : MeetsNoRow w) (first : IsWhole w.first) (second : IsWhole w.second) where
  abbrev fronts : List Imported
  fronts = staying w.second w.first.imports

  abbrev moved : List Imported
  moved = map (moved_import (length w.first.types)) (staying w.first w.second.imports)

  abbrev memory : List Imported
  memory = memory_import (pages w) (least_maximum w)

  kinds_are : {A : Type 0} → (kind : ImportKind → List A) (xs ys zs : List (Import A)) → of_kind kind fronts ≡ xs → of_kind kind moved ≡ ys → of_kind kind memory ≡ zs
      → of_kind kind (linked w).imports ≡ xs ++ (ys ++ zs)
  kinds_are kind xs ys zs e f g =
      ap (of_kind kind) (linked_imports_are w) ∙ kind_joins kind fronts (moved ++ memory) ∙ ap (λ as'. as' ++ of_kind kind (moved ++ memory)) e
      ∙ ap (λ bs. xs ++ bs) (kind_joins kind moved memory ∙ ap (λ as'. as' ++ of_kind kind memory) f ∙ ap (λ bs. ys ++ bs) g)

  pub first_types : (t : ℕ) → is_type w.first t ≡ true → slice_get (linked w).types (0 + t) ≡ slice_get w.first.types t
  unfolding linked
  first_types t e =
      let same : 0 + t ≡ t = omega arith in
      let it = get_there w.first.types t (lt_true t (length w.first.types) e) in
      ap (slice_get (w.first.types ++ w.second.types)) same ∙ get_first w.first.types w.second.types t it.0 it.1 ∙ sym it.1

  pub second_types : (t : ℕ) → slice_get (linked w).types (length w.first.types + t) ≡ slice_get w.second.types t
  unfolding linked
  second_types t = get_second w.first.types w.second.types t

  functions_are : of_kind (function_of (linked w)) (linked w).imports ≡ functions_asked w.first w.second ++ functions_asked w.second w.first
  functions_are =
      let there : Every (λ (x : Imported). TypeThere w.first x.kind) w.first.imports = λ i x h. import_type w.first (take i w.first.imports) x.kind (imports_kept w.first first.is_valid i x h) in
      let there2 : Every (λ (x : Imported). TypeThere w.second x.kind) w.second.imports = λ i x h. import_type w.second (take i w.second.imports) x.kind (imports_kept w.second second.is_valid i x h) in
      kinds_are (function_of (linked w)) (functions_asked w.first w.second) (functions_asked w.second w.first) []
      (ap (of_kind (function_of (linked w))) (sym (moved_by_none fronts)) ∙ functions_stay w.first (linked w) w.second 0 w.first.imports first_types there)
      (functions_stay w.second (linked w) w.first (length w.first.types) w.second.imports (λ t e. second_types t) there2)
      (no_functions (linked w) (pages w) (least_maximum w))
      ∙ ap (λ xs. functions_asked w.first w.second ++ xs) (append-nil (functions_asked w.second w.first))

  same_global : (n : ℕ) (k : ImportKind) → global_of (moved_kind n k) ≡ global_of k
  same_global n (imports.Func t) = refl
  same_global n (imports.Table l) = refl
  same_global n (imports.Memory l) = refl
  same_global n (imports.Global g) = refl

  same_memory : (n : ℕ) (k : ImportKind) → memory_of (moved_kind n k) ≡ memory_of k
  same_memory n (imports.Func t) = refl
  same_memory n (imports.Table l) = refl
  same_memory n (imports.Memory l) = refl
  same_memory n (imports.Global g) = refl

  same_table : (n : ℕ) (k : ImportKind) → table_of (moved_kind n k) ≡ table_of k
  same_table n (imports.Func t) = refl
  same_table n (imports.Table l) = refl
  same_table n (imports.Memory l) = refl
  same_table n (imports.Global g) = refl

  globals_are : of_kind global_of (linked w).imports ≡ of_kind global_of w.first.imports ++ of_kind global_of w.second.imports
  globals_are =
      kinds_are global_of (of_kind global_of w.first.imports) (of_kind global_of w.second.imports) []
      (staying_kind global_of (λ t. refl) (λ l. refl) (λ l. refl) w.second w.first.imports)
      (moved_kinds global_of (length w.first.types) (same_global (length w.first.types)) (staying w.first w.second.imports)
      ∙ staying_kind global_of (λ t. refl) (λ l. refl) (λ l. refl) w.first w.second.imports)
      (no_globals (pages w) (least_maximum w))
      ∙ ap (λ xs. of_kind global_of w.first.imports ++ xs) (append-nil (of_kind global_of w.second.imports))

  memories_are : of_kind memory_of (linked w).imports ≡ memory_asked (pages w) (least_maximum w)
  memories_are =
      kinds_are memory_of [] [] (memory_asked (pages w) (least_maximum w)) (none_staying memory_of (λ t. refl) (λ g. refl) w.second w.first.imports)
      (moved_kinds memory_of (length w.first.types) (same_memory (length w.first.types)) (staying w.first w.second.imports)
      ∙ none_staying memory_of (λ t. refl) (λ g. refl) w.first w.second.imports)
      (memory_kind (pages w) (least_maximum w))

  tables_are : of_kind table_of (linked w).imports ≡ []
  tables_are =
      kinds_are table_of [] [] [] (none_staying table_of (λ t. refl) (λ g. refl) w.second w.first.imports)
      (moved_kinds table_of (length w.first.types) (same_table (length w.first.types)) (staying w.first w.second.imports)
      ∙ none_staying table_of (λ t. refl) (λ g. refl) w.first w.second.imports)
      (no_tables (pages w) (least_maximum w))

  exports_are : functions_exported (linked w) (linked w).exports ≡ functions_exported w.first w.first.exports ++ functions_exported w.second w.second.exports
  exports_are =
      let past : ℕ → ℕ = λ f. number w ((past_first w).functions + f) in
      ap (functions_exported (linked w)) (linked_exports_are w)
      ∙ exports_join (linked w) (moved_exports (number w) w.first.exports) (moved_exports past w.second.exports)
      ∙ ap (λ xs. xs ++ functions_exported (linked w) (moved_exports past w.second.exports))
      (exports_keep w.first (linked w) (number w) w.first.exports
      (λ i e h f x. let t = typed_there w.first first f (exported_there w.first first i e f h x) in number_typed w rows f t.0 (typed_first w f t.0 t.1) ∙ sym t.1))
      ∙ ap (λ xs. functions_exported w.first w.first.exports ++ xs)
      (exports_keep w.second (linked w) past w.second.exports
      (λ i e h f x. let t = typed_there w.second second f (exported_there w.second second i e f h x) in
      number_typed w rows ((past_first w).functions + f) t.0 (typed_second w f t.0 t.1) ∙ sym t.1))

  only_functions : OnlyFunctions (linked w).exports
  only_functions =
      let past : ℕ → ℕ = λ f. number w ((past_first w).functions + f) in
      let each : (number : ℕ → ℕ) (es : List Exported) → Every (λ (e : Exported). is_there (exported_function e.kind) ≡ true) (moved_exports number es) =
      λ number es i x h. let it = moved_export number es i x h in ap (λ (e : Exported). is_there (exported_function e.kind)) it.is_it in
      subst OnlyFunctions (sym (linked_exports_are w))
      (all_of_every (λ (e : Exported). is_there (exported_function e.kind) ≡ true) (linked_exports w)
      (every_both (λ (e : Exported). is_there (exported_function e.kind) ≡ true) (moved_exports (number w) w.first.exports) (moved_exports past w.second.exports)
      (each (number w) w.first.exports) (each past w.second.exports)))

  pub is_called_as : IsCalledAs w (linked w)
  is_called_as = record {
    functions = functions_are;
    globals = globals_are;
    memories = memories_are;
    tables = tables_are;
    no_memory = no_own_memories w;
    exported = exports_are;
    only_functions = only_functions;
  }
