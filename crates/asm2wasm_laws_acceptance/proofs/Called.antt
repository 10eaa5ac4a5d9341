-- The translated module asks for what the text does.
use Rattle.std.proofs.Common.{◌≡◌, ℕ, Bool, true, false, List, [], ◌∷◌, ◌++◌, map, get_or, Option, Some, refl, ap, ◌∙◌}
use Rattle.std.specs.Prelude.{if◌then◌else◌, codes}
use Rattle.std.specs.List.{AllByRecursion}
use Rattle.wasm_lang.specs.declared.types.GlobalType.{GlobalType}
use Rattle.wasm_lang.specs.declared.types.ImportKind.{ImportKind}
use Rattle.wasm_lang.specs.declared.types.ImportKind.TheVariants as imports
use Rattle.wasm_lang.specs.Modules.{FunctionType, Imported, WasmModule}
use Rattle.asm_lang.specs.Modules.{Module}
use Rattle.asm_lang_valid.specs.LimitRows.{ForeignCall, foreign_calls}
use Rattle.asm_lang_valid.specs.Refusal.{foreign_globals, has_heap, exported_from}
use Rattle.asm2wasm_lang.specs.Heaps.{pages_for}
use Rattle.asm2wasm_lang.specs.Calling as form
use Rattle.asm2wasm_lang.specs.Calling.{Import, imported_as, function_of, table_of, memory_of, global_of, of_kind, int_type, constant_int, exactly}
use Rattle.asm2wasm_translation.specs.Numbers.{asked_signature, type_number}
use Rattle.asm2wasm_translation.specs.Modules.{from_env, imported_function, imported_global, translation}
use Rattle.asm2wasm_laws_acceptance.specs.Laws.{TranslationIsCalled}
use Rattle.asm2wasm_laws_acceptance.proofs.Imports.{functions_have_types}
use Rattle.asm2wasm_laws_acceptance.proofs.Types.{Known, calls_known, type_at}

module _ (m : Module) (size : ℕ) where
  -- the one memory, if there is a heap
  abbrev memories : Bool → List Imported
  memories b = if b then from_env (codes "memory") (imports.Memory (exactly (pages_for size))) ∷ [] else []

  -- ---- imports of other kinds are passed over

  module _ {A : Type 0} (kind : ImportKind → List A) where
    past_functions : ((t : ℕ) → kind (imports.Func t) ≡ []) → (fs : List ForeignCall) (rest : List Imported) → of_kind kind (map (imported_function m) fs ++ rest) ≡ of_kind kind rest
    past_functions none [] rest = refl
    past_functions none (f ∷ fs) rest =
        ap (λ xs. map (imported_as (imported_function m f)) xs ++ of_kind kind (map (imported_function m) fs ++ rest)) (none (type_number m (asked_signature f))) ∙ past_functions none fs rest

    past_globals : kind (imports.Global constant_int) ≡ [] → (gs : List (List ℕ)) (rest : List Imported) → of_kind kind (map imported_global gs ++ rest) ≡ of_kind kind rest
    past_globals none [] rest = refl
    past_globals none (g ∷ gs) rest = ap (λ xs. map (imported_as (imported_global g)) xs ++ of_kind kind (map imported_global gs ++ rest)) none ∙ past_globals none gs rest

    past_memory : kind (imports.Memory (exactly (pages_for size))) ≡ [] → (b : Bool) → of_kind kind (memories b) ≡ []
    past_memory none true = ap (λ xs. map (imported_as (from_env (codes "memory") (imports.Memory (exactly (pages_for size))))) xs ++ []) none
    past_memory none false = refl

  -- ---- each kind

  abbrev w : WasmModule
  w = translation m size

  abbrev asked_function : ForeignCall → Import (Option FunctionType)
  asked_function f = form.from_env f.name (Some (int_type f.params f.result))

  functions_from : (fs : List ForeignCall) (rest : List Imported) → AllByRecursion (λ f. Known m (asked_signature f)) fs → of_kind (function_of w) rest ≡ []
      → of_kind (function_of w) (map (imported_function m) fs ++ rest) ≡ map asked_function fs
  functions_from [] rest a none = none
  functions_from (f ∷ fs) rest a none =
      ap (λ t. form.from_env f.name t ∷ of_kind (function_of w) (map (imported_function m) fs ++ rest)) (type_at m (asked_signature f) a.0) ∙ ap (λ xs. asked_function f ∷ xs) (functions_from fs rest a.1 none)

  abbrev asked_global : List ℕ → Import GlobalType
  asked_global name = form.from_env name constant_int

  globals_from : (gs : List (List ℕ)) → of_kind global_of (map imported_global gs ++ memories (has_heap m)) ≡ map asked_global gs
  globals_from [] = past_memory global_of refl (has_heap m)
  globals_from (g ∷ gs) = ap (λ xs. asked_global g ∷ xs) (globals_from gs)

  memories_from : (b : Bool) → of_kind memory_of (memories b) ≡ (if b then form.from_env (codes "memory") (exactly (pages_for size)) ∷ [] else [])
  memories_from true = refl
  memories_from false = refl

  abbrev after_functions : List Imported
  after_functions = map imported_global (foreign_globals m) ++ memories (has_heap m)

pub translation_is_called : TranslationIsCalled
translation_is_called m size =
    let after = after_functions m size in
    let is = foreign_calls m in
    let gs = foreign_globals m in
    let memory = memories m size (has_heap m) in
    record {
      functions =
          functions_from m size is after (calls_known m)
          (past_globals m size (function_of (translation m size)) refl gs memory ∙ past_memory m size (function_of (translation m size)) refl (has_heap m));
      globals = past_functions m size global_of (λ t. refl) is after ∙ globals_from m size gs;
      memories = past_functions m size memory_of (λ t. refl) is after ∙ past_globals m size memory_of refl gs memory ∙ memories_from m size (has_heap m);
      tables = past_functions m size table_of (λ t. refl) is after ∙ past_globals m size table_of refl gs memory ∙ past_memory m size table_of refl (has_heap m);
      exported = refl;
      typed = λ k d lt f is. functions_have_types m size (get_or (exported_from m m.exports) k d).function f is;
      no_memory = refl;
      no_bytes = refl;
      no_start = refl;
    }
