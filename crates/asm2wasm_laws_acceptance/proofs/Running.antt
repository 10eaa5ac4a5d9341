-- The translated module can be run.
use Rattle.std.proofs.Common.{◌≡◌, ℕ, ◌+◌, ◌≤◌, Bool, true, false, List, [], ◌∷◌, ◌++◌, map, Some, None, refl, ap, ◌∙◌, arith}
use Rattle.std.specs.Prelude.{if◌then◌else◌, cond, nat_lt, codes}
use Rattle.std.proofs.lemmas.Bool.Decides.{nat_tests}
use Rattle.wasm_lang.specs.declared.types.ImportKind.{ImportKind}
use Rattle.wasm_lang.specs.declared.types.ImportKind.TheVariants as imports
use Rattle.wasm_lang_valid.specs.declared.profile.Beyond.TheVariants.{ImportedTable, MutableImport, MemoryLarge}
use Rattle.wasm_lang_valid.specs.ModuleRules.{is_table}
use Rattle.wasm_lang_valid.specs.Runnable.{is_mutable, first_import, above, row_or, pages, most_pages_to_run}
use Rattle.asm_lang.specs.Modules.{Module}
use Rattle.asm_lang_valid.specs.LimitRows.{ForeignCall, foreign_calls}
use Rattle.asm_lang_valid.specs.Refusal.{foreign_globals, has_heap}
use Rattle.asm2wasm_lang.specs.Heaps.{is_heap_length, pages_for}
use Rattle.asm2wasm_lang.specs.Calling.{exactly, constant_int}
use Rattle.asm2wasm_translation.specs.Modules.{from_env, imported_function, imported_global, translation}
use Rattle.asm2wasm_laws_acceptance.specs.Laws.{TranslationIsRunnable}
use Rattle.asm2wasm_laws_acceptance.proofs.Fitting.{pages_are}

module _ (m : Module) (size : ℕ) (test : ImportKind → Bool) (no_function : (t : ℕ) → test (imports.Func t) ≡ false) (no_global : test (imports.Global constant_int) ≡ false)
    (no_memory : test (imports.Memory (exactly (pages_for size))) ≡ false) where
  none_last : (n : ℕ) (b : Bool) → first_import test n (if b then from_env (codes "memory") (imports.Memory (exactly (pages_for size))) ∷ [] else []) ≡ None
  none_last n true = ap (λ b. cond b (Some n) None) no_memory
  none_last n false = refl

  none_after : (n : ℕ) (gs : List (List ℕ)) → first_import test n (map imported_global gs ++ (if has_heap m then from_env (codes "memory") (imports.Memory (exactly (pages_for size))) ∷ [] else [])) ≡ None
  none_after n [] = none_last n (has_heap m)
  none_after n (g ∷ gs) =
      ap (λ b. cond b (Some n) (first_import test (n + 1) (map imported_global gs ++ (if has_heap m then from_env (codes "memory") (imports.Memory (exactly (pages_for size))) ∷ [] else [])))) no_global
      ∙ none_after (n + 1) gs

  none_among : (n : ℕ) (fs : List ForeignCall) → let rest = map imported_global (foreign_globals m) ++ (if has_heap m then from_env (codes "memory") (imports.Memory (exactly (pages_for size))) ∷ [] else []) in
      first_import test n (map (imported_function m) fs ++ rest) ≡ None
  none_among n [] = none_after n (foreign_globals m)
  none_among n (f ∷ fs) =
      let rest = map imported_global (foreign_globals m) ++ (if has_heap m then from_env (codes "memory") (imports.Memory (exactly (pages_for size))) ∷ [] else []) in
      ap (λ b. cond b (Some n) (first_import test (n + 1) (map (imported_function m) fs ++ rest))) (no_function _) ∙ none_among (n + 1) fs

few_pages : (n : ℕ) (b : Bool) → n ≤ 4096 → above most_pages_to_run (if b then Some n else None) ≡ None
few_pages n true h = let low : nat_lt most_pages_to_run n ≡ false = grind (arith, nat_tests) in ap (λ b. cond b (Some n) None) low
few_pages n false h = refl

pub translation_is_runnable : ((size : ℕ) → is_heap_length size ≡ true → pages_for size ≤ 4096) → TranslationIsRunnable
translation_is_runnable few m size heap =
    let table = none_among m size is_table (λ t. refl) refl refl 0 (foreign_calls m) in
    let mutable = none_among m size is_mutable (λ t. refl) refl refl 0 (foreign_calls m) in
    let memory = ap (above most_pages_to_run) (pages_are m size) ∙ few_pages (pages_for size) (has_heap m) (few size heap) in
    ap (λ o. row_or ImportedTable o (row_or MutableImport (first_import is_mutable 0 (translation m size).imports) (row_or MemoryLarge (above most_pages_to_run (pages (translation m size))) None))) table
    ∙ ap (λ o. row_or MutableImport o (row_or MemoryLarge (above most_pages_to_run (pages (translation m size))) None)) mutable ∙ ap (λ o. row_or MemoryLarge o None) memory
