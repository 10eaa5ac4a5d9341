-- The translation of a module stands for it.
use Rattle.std.proofs.Common.{◌≡◌, ℕ, ◌+◌, true, List, [], ◌∷◌, ◌++◌, length, map, Some, Result, IfOk, refl, sym, ap, ◌∙◌, subst, arith}
use Rattle.std.specs.Prelude.{Ok, Err, slice_get, option_map}
use Rattle.std.proofs.lemmas.List.{length-append}
use Rattle.std.proofs.lemmas.Option.{slice_get-map}
use Rattle.session_lang.specs.Observation.{trapped}
use Rattle.wasm_lang.specs.Modules.{WasmModule}
use Rattle.wasm_lang_valid.specs.ModuleRules.{imported_functions}
use Rattle.wasm_lang_valid.specs.declared.rule.Rule.{Rule}
use Rattle.wasm_lang_valid.specs.declared.section.Section.{Section}
use Rattle.wasm_lang_valid.specs.Validity.{IsValidModule, RefusesModule}
use Rattle.wasm_laws_write.specs.Laws.{FittingAreWritable}
use Rattle.wasm_validate.specs.declared.fault.Invalid.{Invalid}
use Rattle.wasm_validate.specs.declared.fault.Invalid.TheVariants as faults
use Rattle.wasm_validate.specs.Refusals.{IsInvalid}
use Rattle.asm_lang.specs.Heights.{IsWellFormed}
use Rattle.asm_lang.specs.Modules.{Function, Table, Module}
use Rattle.asm_lang_valid.specs.LimitRows.{foreign_calls}
use Rattle.asm_lang_valid.specs.Refusal.{IsAccepted, function_number}
use Rattle.asm2wasm_lang.specs.Allowed.{IsAllowed}
use Rattle.asm2wasm_lang.specs.Heaps.{is_heap_length}
use Rattle.asm2wasm_lang.specs.Tables.{entries_of, bases_of}
use Rattle.asm2wasm_translation.specs.Modules.{table_for, elements_for, translation}
use Rattle.asm2wasm_lang.specs.Alone.{exporting, exporting_number}
use Rattle.asm2wasm_laws_acceptance.specs.Exports.Laws.{ExportingIsAccepted, ExportingIsWellFormed, ExportingIsTranslated}
use Rattle.asm2wasm_laws_acceptance.specs.Laws.{FunctionsAreCounted, FunctionsAreAsMany, TablesAreFilled, TranslationIsWithin}
use Rattle.asm2wasm_laws_profile.specs.Laws.{TranslationIsInProfile}
use Rattle.asm2wasm_laws_simulation.specs.Sessions.Laws.{SessionsNeverTrap, TranslationIsAllowed, TranslationIsBounded}
use Rattle.asm2wasm_laws_writable.specs.Laws.{TranslationIsShaped, TranslationsNumbersFit, TranslationsSectionsFit}
use Rattle.asm2wasm_lang.specs.Parts.{NeverTraps, HasFunctions, tables_for, segments_for, HasTables, StandsFor}

-- ---- traps

never_traps : SessionsNeverTrap → (m : Module) (size : ℕ) → IsAccepted m → IsWellFormed m → is_heap_length size ≡ true → NeverTraps (translation m size)
never_traps no_traps m size accepted formed h = λ s fits n kind is. no_traps m size s accepted formed h fits n (trapped kind) is

-- ---- functions

front_length : {A : Type 0} (xs ys : List A) (a b : ℕ) → length (xs ++ ys) ≡ a + b → length ys ≡ b → length xs ≡ a
front_length xs ys a b whole rest = omega (arith, length-append xs ys, whole, rest)

-- the translation of the module with one export is the translation with that one export
exports_one : TranslationIsAllowed → ExportingIsAccepted → ExportingIsWellFormed → ExportingIsTranslated → (m : Module) (size : ℕ) → IsAccepted m → IsWellFormed m → is_heap_length size ≡ true
    → (n : ℕ) (f : Function) → slice_get m.functions n ≡ Some f → IsAllowed (exporting f m) size (exporting_number f.name (length (foreign_calls m) + n) (translation m size))
exports_one allowed still_accepted still_formed translated m size accepted formed h n f is =
    subst (IsAllowed (exporting f m) size) (translated m size n f accepted is)
    (allowed (exporting f m) size (still_accepted m n f accepted is) (still_formed m n f formed is) h)

has_functions : FunctionsAreCounted → FunctionsAreAsMany → TranslationIsAllowed → ExportingIsAccepted → ExportingIsWellFormed → ExportingIsTranslated
    → (m : Module) (size : ℕ) → IsAccepted m → IsWellFormed m → is_heap_length size ≡ true → HasFunctions m size (translation m size)
has_functions counted as_many allowed still_accepted still_formed translated m size accepted formed h =
    let w = translation m size in record {
      imported = front_length (imported_functions w.imports) w.functions (length (foreign_calls m)) (length m.functions) (counted m size) (as_many m size).0;
      as_many = (as_many m size).0;
      each = exports_one allowed still_accepted still_formed translated m size accepted formed h;
    }

-- ---- the table

same_tables : (m : Module) (ts : List Table) → table_for m ts ≡ tables_for ts (length (entries_of m))
same_tables m [] = refl
same_tables m (t ∷ ts) = refl

same_segments : (m : Module) (ts : List Table) → elements_for m ts ≡ segments_for ts (map (λ n. length (foreign_calls m) + n) (entries_of m))
same_segments m [] = refl
same_segments m (t ∷ ts) = refl

abbrev EndToEnd : Type 0
EndToEnd =
    (m : Module) (n i base : ℕ) (t : Table) (name : List ℕ) → slice_get m.tables n ≡ Some t → slice_get (bases_of m) n ≡ Some base → slice_get t.members i ≡ Some name
    → slice_get (entries_of m) (base + i) ≡ Some (function_number m.functions name)

has_tables : TablesAreFilled → EndToEnd → (m : Module) (size : ℕ) → HasTables m (translation m size)
has_tables filled end_to_end m size =
    let w = translation m size in
    let k = length (foreign_calls m) in record {
      table = same_tables m m.tables;
      segment = same_segments m m.tables;
      fits = λ s. (filled m size s).0;
      filled = λ s n i base t name at begins member.
          ap (λ es. slice_get es (base + i)) (filled m size s).1
          ∙ slice_get-map (λ j. Some (k + j)) (entries_of m) (base + i)
          ∙ ap (option_map (λ j. Some (k + j))) (end_to_end m n i base t name at begins member);
    }

-- ---- the whole

pub translation_stands : TranslationIsAllowed → TranslationIsBounded → SessionsNeverTrap → TranslationIsWithin
    → TranslationIsShaped → TranslationsNumbersFit → TranslationsSectionsFit → FittingAreWritable
    → FunctionsAreCounted → FunctionsAreAsMany → ExportingIsAccepted → ExportingIsWellFormed → ExportingIsTranslated → TablesAreFilled → EndToEnd → TranslationIsInProfile
    → (m : Module) (size : ℕ) → IsAccepted m → IsWellFormed m → is_heap_length size ≡ true → StandsFor m size (translation m size)
translation_stands allowed bounded no_traps within shaped numbers sections writable counted as_many still_accepted still_formed translated filled end_to_end profile m size accepted formed h = record {
  allowed = allowed m size accepted formed h;
  bounded = bounded m size accepted formed h;
  never_traps = never_traps no_traps m size accepted formed h;
  within = within m size accepted formed;
  shaped = shaped m size formed;
  writable = λ short. writable (translation m size) (shaped m size formed) (numbers m size accepted formed h) (sections m size accepted formed short h);
  functions = has_functions counted as_many allowed still_accepted still_formed translated m size accepted formed h;
  tables = has_tables filled end_to_end m size;
  profile = λ small. profile m size accepted formed small h;
}

-- what holds of a module holds of the one that was made, where it is this one
pub of_made : {A E : Type 0} (view : A → WasmModule) (w : WasmModule) (P : WasmModule → Type 0) (r : Result A E) → P w → IfOk r (λ x. view x ≡ w) → IfOk r (λ x. P (view x))
of_made view w P (Ok x) holds is = subst P (sym is) holds
of_made view w P (Err e) holds is = tt

-- ---- validation

abbrev NotBoth : Type 0
NotBoth = (w : WasmModule) (rule : Rule) (section : Section) (index instruction : ℕ) → IsValidModule w → RefusesModule w rule section index instruction → ⊥

-- a valid module isn't refused, so that what the validator says against it is want of memory
pub only_memory : NotBoth → (w : WasmModule) → IsValidModule w → (fault : Invalid) → IsInvalid w fault → fault ≡ faults.Memory
only_memory never w valid (faults.Rule rule section index instruction) refuses = absurd (never w rule section index instruction valid refuses)
only_memory never w valid faults.Memory refuses = refl
