-- The linked module can be run.
use Rattle.std.proofs.Common.{◌≡◌, ℕ, zero, suc, ◌+◌, ◌≤◌, Bool, true, false, cond, List, [], ◌∷◌, ◌++◌, length, map, Option, Some, None, refl, sym, ap, ◌∙◌}
use Rattle.std.specs.Prelude.{slice_get}
use Rattle.wasm_lang.specs.declared.types.Limits.{Limits}
use Rattle.wasm_lang.specs.declared.types.ImportKind.{ImportKind}
use Rattle.wasm_lang.specs.declared.types.ImportKind.TheVariants as imports
use Rattle.wasm_lang.specs.Modules.{Imported, WasmModule}
use Rattle.wasm_lang_valid.specs.declared.profile.Beyond.TheVariants.{ImportedTable, MutableImport, MemoryLarge}
use Rattle.wasm_lang_valid.specs.Measures.{env_name}
use Rattle.wasm_lang_valid.specs.ModuleRules.{is_table}
use Rattle.wasm_lang_valid.specs.Runnable as alone
use Rattle.wasm_lang_valid.specs.Runnable.{is_mutable, first_import, above, row_or, not_runnable}
use Rattle.wasm_laws_sound.specs.Laws.{IsWhole}
use Rattle.wasm_link_lang.specs.Pairs.{Pair}
use Rattle.wasm_link_lang.specs.Refusal.{memory_name, least_maximum}
use Rattle.wasm_link_lang.specs.Session.{pages}
use Rattle.wasm_link_code.specs.Linked.{staying, moved_kind, moved_import, memory_import, linked}
use Rattle.wasm_link_laws_modules.proofs.Accepted.{MeetsNoRow}
use Rattle.wasm_link_laws_modules.proofs.Facts.{Every, every_both, every_mapped, every_less, not_lt_test, in_itself}
use Rattle.wasm_link_laws_modules.proofs.Sections.{StayingKind, fronts, fronts_stay, joined_imports, linked_imports_are, staying_at, greater_small}
use Rattle.wasm_link_laws_modules.proofs.Scripts.{all_pages_are}

none_first : (test : ImportKind → Bool) (n : ℕ) (is : List Imported) → Every (λ (x : Imported). test x.kind ≡ false) is → first_import test n is ≡ None
none_first test n [] e = refl
none_first test n (i ∷ is) e =
    ap (λ b. cond b (Some n) (first_import test (n + 1) is)) (e 0 i refl) ∙ none_first test (n + 1) is (every_less (λ (x : Imported). test x.kind ≡ false) i is e)

first_none : (test : ImportKind → Bool) (n : ℕ) (is : List Imported) → first_import test n is ≡ None → Every (λ (x : Imported). test x.kind ≡ false) is
first_none test n [] e i x h = absurd (cc h)
first_none test n (y ∷ is) e i x h = by (test y.kind) refl e i h (first_none test (n + 1) is)
  where
    by : (b : Bool) → test y.kind ≡ b → cond b (Some n) (first_import test (n + 1) is) ≡ None → (i : ℕ) → slice_get (y ∷ is) i ≡ Some x
        → (first_import test (n + 1) is ≡ None → Every (λ (x : Imported). test x.kind ≡ false) is) → test x.kind ≡ false
    by true f e i h further = absurd (cc e)
    by false f e zero h further = let same : y ≡ x = cc h in ap (λ (x : Imported). test x.kind) (sym same) ∙ f
    by false f e (suc i) h further = further e i x h

no_table : (m : WasmModule) (k : ImportKind) → StayingKind m k → is_table k ≡ false
no_table m (imports.Func t) e = refl
no_table m (imports.Table l) e = absurd e
no_table m (imports.Memory l) e = absurd e
no_table m (imports.Global g) e = refl

same_mutable : (n : ℕ) (k : ImportKind) → is_mutable (moved_kind n k) ≡ is_mutable k
same_mutable n (imports.Func t) = refl
same_mutable n (imports.Table l) = refl
same_mutable n (imports.Memory l) = refl
same_mutable n (imports.Global g) = refl

memory_alone : (test : ImportKind → Bool) (least most : Option ℕ) → (((l : Limits) → test (imports.Memory l) ≡ false)) → Every (λ (x : Imported). test x.kind ≡ false) (memory_import least most)
memory_alone test None most f i x h = absurd (cc h)
memory_alone test (Some n) most f zero x h =
    let e : record { module_name = env_name; name = memory_name; kind = imports.Memory (record { min = n; max = most }) } ≡ x = cc h in
    ap (λ (x : Imported). test x.kind) (sym e) ∙ f (record { min = n; max = most })
memory_alone test (Some n) most f (suc i) x h = absurd (cc h)

small_pages : (limit : ℕ) (o : Option ℕ) → ((n : ℕ) → o ≡ Some n → n ≤ limit) → above limit o ≡ None
small_pages limit None f = refl
small_pages limit (Some n) f = ap (λ b. cond b (Some n) None) (not_lt_test limit n (f n refl))

module _ (w : Pair) (rows : MeetsNoRow w) (first : IsWhole w.first) (second : IsWhole w.second) where
  abbrev memory : List Imported
  memory = memory_import (pages w) (least_maximum w)

  imports_all : (test : ImportKind → Bool) → Every (λ (x : Imported). test x.kind ≡ false) (fronts w rows first second) → ((l : Limits) → test (imports.Memory l) ≡ false)
      → first_import test 0 (linked w).imports ≡ None
  imports_all test e f =
      ap (first_import test 0) (linked_imports_are w ∙ joined_imports w rows first second)
      ∙ none_first test 0 (fronts w rows first second ++ memory)
      (every_both (λ (x : Imported). test x.kind ≡ false) (fronts w rows first second) memory e (memory_alone test (pages w) (least_maximum w) f))

  no_tables : first_import is_table 0 (linked w).imports ≡ None
  no_tables = imports_all is_table (λ i x h. no_table (linked w) x.kind (fronts_stay w rows first second i x h)) (λ l. refl)

  no_mutables : first_import is_mutable 0 (linked w).imports ≡ None
  no_mutables =
      let one = first_none is_mutable 0 w.first.imports (in_itself w.first rows.first_profile).no_mutable in
      let two = first_none is_mutable 0 w.second.imports (in_itself w.second rows.second_profile).no_mutable in
      imports_all is_mutable
      (every_both (λ (x : Imported). is_mutable x.kind ≡ false) (staying w.second w.first.imports) (map (moved_import (length w.first.types)) (staying w.first w.second.imports))
      (λ i x h. let at = staying_at w.second w.first.imports i x h in one at.0 x at.1)
      (every_mapped (λ (x : Imported). is_mutable x.kind ≡ false) (moved_import (length w.first.types)) (staying w.first w.second.imports)
      (λ i x h. let at = staying_at w.first w.second.imports i x h in same_mutable (length w.first.types) x.kind ∙ two at.0 x at.1)))
      (λ l. refl)

  few_pages : above 4096 (alone.pages (linked w)) ≡ None
  few_pages =
      ap (above 4096) (all_pages_are w)
      ∙ small_pages 4096 (pages w) (greater_small 4096 (alone.pages w.first) (alone.pages w.second) (in_itself w.first rows.first_profile).small (in_itself w.second rows.second_profile).small)

  pub can_run : not_runnable (linked w) ≡ None
  can_run =
      ap (λ o. row_or ImportedTable o (row_or MutableImport (first_import is_mutable 0 (linked w).imports) (row_or MemoryLarge (above 4096 (alone.pages (linked w))) None))) no_tables
      ∙ ap (λ o. row_or MutableImport o (row_or MemoryLarge (above 4096 (alone.pages (linked w))) None)) no_mutables ∙ ap (λ o. row_or MemoryLarge o None) few_pages
