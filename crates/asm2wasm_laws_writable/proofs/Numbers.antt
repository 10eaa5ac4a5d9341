-- The numbers of the translated module fit.
use Rattle.std.proofs.Common.{◌≡◌, ℕ, suc, ◌+◌, ◌≤◌, Bool, true, false, List, [], ◌∷◌, ◌++◌, length, map, Option, Some, None, refl, arith}
use Rattle.std.specs.Prelude.{All, bytes_eq, option_map, codes, if◌then◌else◌}
use Rattle.std.specs.List.{AllByRecursion}
use Rattle.std.proofs.lemmas.List.{length-map, length-append}
use Rattle.std.proofs.lemmas.List.Elements.{All-from_recursion}
use Rattle.sem_words.proofs.WordLaws.{word_of-IsWord}
use Rattle.wasm_lang.specs.declared.types.ImportKind.TheVariants as imports
use Rattle.wasm_lang.specs.declared.types.ExportKind.TheVariants as exports
use Rattle.wasm_lang.specs.Instructions.{plain, const32, end_mark}
use Rattle.wasm_lang.specs.Modules.{Imported, Exported, GlobalEntry}
use Rattle.wasm_laws_trees.specs.Laws.{IsReadAgain, LevelsAreKept}
use Rattle.wasm_laws_write.specs.Fits.{FitsU32, InstructionFits, LimitsFit, ImportFits, ExportFits, ElementFits, SegmentFits, BodyFits}
use Rattle.wasm_laws_write.specs.Lengths.{IsNarrow}
use Rattle.wasm_laws_write.proofs.Short.{narrow_fit}
use Rattle.wasm_laws_write.specs.Each.{EachIn}
use Rattle.wasm_laws_write.proofs.Spelled.{narrow_trees_fit}
use Rattle.asm_lang.specs.Trees.{Init, number, decimal, foreign_int, foreign_double, member, math, view}
use Rattle.asm_lang.specs.Modules.{Variable, Function, Table, Export, Exports, one, many, Module}
use Rattle.asm_lang_valid.specs.Scope.{Signature, signature_of}
use Rattle.asm_lang_valid.specs.Typed.{scope_of}
use Rattle.asm_lang_valid.specs.LimitRows.{ForeignCall, foreign_calls}
use Rattle.asm_lang_valid.specs.Refusal as text
use Rattle.asm_lang_valid.specs.Refusal.{foreign_globals, has_heap, IsAccepted, function_number, exported_from}
use Rattle.asm2wasm_lang.specs.Heaps.{pages_for}
use Rattle.asm2wasm_lang.specs.Calling.{exactly}
use Rattle.asm2wasm_lang.specs.Tables.{members_of, entries_from, entries_of}
use Rattle.asm2wasm_translation.specs.Numbers.{slot_of, int_variables, asked_signature, is_signature, place_of_type, signatures, type_number}
use Rattle.asm2wasm_translation.specs.Modules.{type_for, from_env, imported_function, imported_global, or_zero, first_value, global_for, table_for, elements_for, body_for, translation}
use Rattle.asm2wasm_translation.specs.Bodies.{function_code}
use Rattle.asm2wasm_laws_within.specs.Within.{members}
use Rattle.asm2wasm_laws_within.proofs.Within.{accepted_are_within}
use Rattle.asm2wasm_laws_acceptance.proofs.Readable.{translation_is_within}
use Rattle.asm2wasm_laws_writable.specs.Laws.{TranslationsNumbersFit}
use Rattle.asm2wasm_laws_writable.proofs.Lists.{both_all}
use Rattle.asm2wasm_laws_writable.proofs.Constants.{PagesAreFew, PagesHold}
use Rattle.asm2wasm_laws_writable.proofs.Narrow.{HasFewLocals, all_few_locals, functions_are_narrow}

-- ---- places in lists are at most their lengths

place_low : (s : Signature) (ts : List Signature) → place_of_type s ts ≤ length ts
place_low s [] = omega arith
place_low s (t ∷ ts) = by (is_signature s t) (place_low s ts)
  where
    by : (b : Bool) → place_of_type s ts ≤ length ts → (if b then 0 else suc (place_of_type s ts)) ≤ suc (length ts)
    by true h = omega arith
    by false h = omega (arith, h)

function_low : (fs : List Function) (n : List ℕ) → function_number fs n ≤ length fs
function_low [] n = omega arith
function_low (f ∷ fs) n = by (bytes_eq f.name n) (function_low fs n)
  where
    by : (b : Bool) → function_number fs n ≤ length fs → (if b then 0 else suc (function_number fs n)) ≤ suc (length fs)
    by true h = omega arith
    by false h = omega (arith, h)

slot_low : (xs : List (List ℕ)) (n : List ℕ) → or_zero (slot_of xs n) ≤ length xs
slot_low [] n = omega arith
slot_low (x ∷ xs) n = by (bytes_eq x n) (slot_of xs n) (slot_low xs n)
  where
    by : (b : Bool) (o : Option ℕ) → or_zero o ≤ length xs → or_zero (if b then Some 0 else option_map (λ i. suc i) o) ≤ suc (length xs)
    by true o h = omega arith
    by false None h = omega arith
    by false (Some i) h = omega (arith, h)

entries_counted : (m : Module) (ts : List Table) → length (entries_from m ts) ≡ members ts
entries_counted m [] = refl
entries_counted m (t ∷ ts) =
    let rest = entries_counted m ts in
    let many = length-append (members_of m t) (entries_from m ts) in
    let each : length (members_of m t) ≡ length t.members = length-map t.members (function_number m.functions) in
    omega (arith, rest, many, each)

-- ---- what an accepted module has few of

module _ (m : Module) (ok : IsAccepted m) where
  pub few_entries : length (entries_of m) ≤ 1048576
  few_entries = let counted = entries_counted m m.tables in let few = (accepted_are_within m ok).entries in omega (arith, counted, few)

  abbrev pub IsFunctionNumber : ℕ → Type 0
  IsFunctionNumber k = k ≤ 50000

  number_few : (n : List ℕ) → IsFunctionNumber (function_number m.functions n)
  number_few n = let low = function_low m.functions n in let few = (accepted_are_within m ok).functions in omega (arith, low, few)

  pub after_calls : (k : ℕ) → IsFunctionNumber k → FitsU32 (length (foreign_calls m) + k)
  after_calls k h = let few = (accepted_are_within m ok).calls in omega (arith, few, h)

  -- ---- globals

  pub first_narrow : (i : Init) → IsNarrow (first_value m i)
  first_narrow (number z) = word_of-IsWord 32 z
  first_narrow (foreign_int f p) = let low = slot_low (foreign_globals m) p in let few = (accepted_are_within m ok).foreign in omega (arith, low, few)
  first_narrow (decimal bs) = omega arith
  first_narrow (foreign_double f p) = omega arith
  first_narrow (member f p) = omega arith
  first_narrow (math f p) = omega arith
  first_narrow (view f p h) = omega arith

  first_fits : (i : Init) → InstructionFits (first_value m i)
  first_fits i = narrow_fit (first_value m i) (first_narrow i)

  globals_fit : (vs : List Variable) → AllByRecursion (λ (g : GlobalEntry). All InstructionFits g.init) (map (global_for m) vs)
  globals_fit [] = tt
  globals_fit (v ∷ vs) = (All-from_recursion InstructionFits (first_value m v.init ∷ end_mark ∷ []) (first_fits v.init, (tt, tt)), globals_fit vs)

  -- ---- the table and its elements

  tables_fit : (ts : List Table) → AllByRecursion LimitsFit (table_for m ts)
  tables_fit [] = tt
  tables_fit (t ∷ ts) = let few = few_entries in let fits : FitsU32 (length (entries_of m)) = omega (arith, few) in ((fits, fits), tt)

  members_few : (ns : List (List ℕ)) → AllByRecursion IsFunctionNumber (map (function_number m.functions) ns)
  members_few [] = tt
  members_few (n ∷ ns) = (number_few n, members_few ns)

  entries_few : (ts : List Table) → AllByRecursion IsFunctionNumber (entries_from m ts)
  entries_few [] = tt
  entries_few (t ∷ ts) = both_all IsFunctionNumber (members_of m t) (entries_from m ts) (members_few t.members) (entries_few ts)

  numbers_fit : (ks : List ℕ) → AllByRecursion IsFunctionNumber ks → AllByRecursion FitsU32 (map (λ i. length (foreign_calls m) + i) ks)
  numbers_fit [] a = tt
  numbers_fit (k ∷ ks) a = (after_calls k a.0, numbers_fit ks a.1)

  pub elements_numbers_fit : All FitsU32 (map (λ i. length (foreign_calls m) + i) (entries_of m))
  elements_numbers_fit = All-from_recursion FitsU32 (map (λ i. length (foreign_calls m) + i) (entries_of m)) (numbers_fit (entries_of m) (entries_few m.tables))

  offset_fits : All InstructionFits (plain (const32 0) ∷ end_mark ∷ [])
  offset_fits = All-from_recursion InstructionFits (plain (const32 0) ∷ end_mark ∷ []) (omega arith, (tt, tt))

  elements_fit : (ts : List Table) → AllByRecursion ElementFits (elements_for m ts)
  elements_fit [] = tt
  elements_fit (t ∷ ts) = (record { table = omega arith; offset = offset_fits; functions = elements_numbers_fit }, tt)

  -- ---- exports

  abbrev given : text.Exported → Exported
  given e = record { name = e.key; kind = exports.Func (length (foreign_calls m) + e.function) }

  many_fit : (es : List Export) → AllByRecursion (λ (e : Exported). ExportFits e.kind) (map given (exported_from m (many es)))
  many_fit [] = tt
  many_fit (e ∷ es) = (after_calls (function_number m.functions e.function) (number_few e.function), many_fit es)

  pub exports_fit : (x : Exports) → AllByRecursion (λ (e : Exported). ExportFits e.kind) (map given (exported_from m x))
  exports_fit (one f) = (after_calls (function_number m.functions f) (number_few f), tt)
  exports_fit (many es) = many_fit es

-- ---- imports and functions

module _ (m : Module) (heap : ℕ) (types : length (map type_for (signatures m)) ≤ 10000) where
  pub type_low : (s : Signature) → FitsU32 (type_number m s)
  type_low s =
      let low = place_low s (signatures m) in
      let many : length (map type_for (signatures m)) ≡ length (signatures m) = length-map (signatures m) type_for in
      omega (arith, low, many, types)

  abbrev Fits : Imported → Type 0
  Fits i = ImportFits i.kind

  abbrev memories : Bool → List Imported
  memories b = if b then from_env (codes "memory") (imports.Memory (exactly (pages_for heap))) ∷ [] else []

  memory_fits : pages_for heap ≤ 4096 → (b : Bool) → AllByRecursion Fits (memories b)
  memory_fits few true = let fits : FitsU32 (pages_for heap) = omega (arith, few) in ((fits, fits), tt)
  memory_fits few false = tt

  asked_fit : (gs : List (List ℕ)) → AllByRecursion Fits (map imported_global gs)
  asked_fit [] = tt
  asked_fit (g ∷ gs) = (tt, asked_fit gs)

  calls_fit : (fs : List ForeignCall) → AllByRecursion Fits (map (imported_function m) fs)
  calls_fit [] = tt
  calls_fit (f ∷ fs) = (type_low (asked_signature f), calls_fit fs)

  pub imports_fit : pages_for heap ≤ 4096 → AllByRecursion Fits (translation m heap).imports
  imports_fit few =
      let globals = map imported_global (foreign_globals m) in
      both_all Fits (map (imported_function m) (foreign_calls m)) (globals ++ memories (has_heap m)) (calls_fit (foreign_calls m)) (both_all Fits globals (memories (has_heap m)) (asked_fit (foreign_globals m)) (memory_fits few (has_heap m)))

  pub functions_fit : (fs : List Function) → AllByRecursion FitsU32 (map (λ f. type_number m (signature_of f)) fs)
  functions_fit [] = tt
  functions_fit (f ∷ fs) = (type_low (signature_of f), functions_fit fs)

-- ---- bodies

bodies_fit : (m : Module) (heap : ℕ) (fs : List Function) → AllByRecursion (HasFewLocals m heap) fs → AllByRecursion (λ (f : Function). EachIn IsNarrow (function_code heap (scope_of m f))) fs
    → AllByRecursion BodyFits (map (body_for m heap) fs)
bodies_fit m heap [] a b = tt
bodies_fit m heap (f ∷ fs) a b =
    let few = a.0 in
    (record { locals = omega (arith, few); code = narrow_trees_fit (function_code heap (scope_of m f)) b.0 }, bodies_fit m heap fs a.1 b.1)

pub numbers_fit_in_translations : IsReadAgain → LevelsAreKept → PagesAreFew → PagesHold → TranslationsNumbersFit
numbers_fit_in_translations again kept few hold m heap ok formed h =
    let w = translation m heap in
    let within = translation_is_within kept m heap ok formed in
    let types = within.types in
    record {
      imports = All-from_recursion (λ (i : Imported). ImportFits i.kind) w.imports (imports_fit m heap types (few heap h));
      functions = All-from_recursion FitsU32 w.functions (functions_fit m heap types m.functions);
      tables = All-from_recursion LimitsFit w.tables (tables_fit m ok m.tables);
      memories = All-from_recursion LimitsFit [] tt;
      globals = All-from_recursion (λ (g : GlobalEntry). All InstructionFits g.init) w.globals (globals_fit m ok (int_variables m.globals));
      exports = All-from_recursion (λ (e : Exported). ExportFits e.kind) w.exports (exports_fit m ok m.exports);
      start = tt;
      elements = All-from_recursion ElementFits w.elements (elements_fit m ok m.tables);
      bodies = All-from_recursion BodyFits w.bodies (bodies_fit m heap m.functions (all_few_locals m heap within) (functions_are_narrow again kept few hold m heap ok formed h));
      segments = All-from_recursion SegmentFits [] tt;
    }
