-- The translation of a small module meets no row of those that aren't translated.
use Rattle.std.proofs.Common.{◌≡◌, ℕ, suc, ◌+◌, ◌*◌, ◌≤◌, max, Bool, true, false, List, [], ◌∷◌, ◌++◌, length, map, Option, Some, None, refl, sym, ap, ◌∙◌, subst, arith}
use Rattle.std.specs.Prelude.{slice_get, if◌then◌else◌, nat_lt, codes}
use Rattle.std.specs.List.{AllByRecursion}
use Rattle.std.proofs.lemmas.Bool.Decides.{nat_tests}
use Rattle.std.proofs.lemmas.List.{length-map, length-replicate}
use Rattle.std.proofs.lemmas.List.Elements.{recursion_from_All}
use Rattle.wasm_lang.specs.declared.types.ValType.TheVariants.{I32}
use Rattle.wasm_lang.specs.declared.types.ImportKind.{ImportKind}
use Rattle.wasm_lang.specs.declared.types.ImportKind.TheVariants as imports
use Rattle.wasm_lang.specs.Modules.{Imported, GlobalEntry, WasmModule}
use Rattle.wasm_lang_valid.specs.Measures.{deepest, slots_from, called_types, distinct, first_mixed, first_mul_div}
use Rattle.wasm_lang_valid.specs.ModuleRules.{is_table, imported_functions, imported_globals, function_types, global_types}
use Rattle.wasm_lang_valid.specs.Profile.{wide_import, offset_from_import, segment_outside, imported_entries, own_entries, or_zero, table_length, memory_bytes, most_levels, most_functions, most_globals, most_slots, most_entries, most_cells, too_many, params_past, names_past, padded, size_past, outside_profile}
use Rattle.wasm_lang_valid.specs.Runnable.{is_mutable, first_import, or_else, above, imported_pages, pages, most_pages_to_run}
use Rattle.wasm_laws_trees.specs.Laws.{SizeBoundsLength, LevelsAreKept}
use Rattle.asm_lang.specs.Heights.{leaves_height, functions_height, exports_height, function_height, IsWellFormed}
use Rattle.asm_lang.specs.Modules.{Variable, Function, Module}
use Rattle.asm_lang_valid.specs.LimitRows.{ForeignCall, foreign_calls}
use Rattle.asm_lang_valid.specs.Refusal.{foreign_globals, has_heap}
use Rattle.asm_lang_valid.specs.Rows.{function_count}
use Rattle.asm_lang_valid.specs.Scope.{Signature, signature_of}
use Rattle.asm2wasm_lang.specs.Heaps.{is_heap_length, pages_for}
use Rattle.asm2wasm_lang.specs.Calling.{exactly}
use Rattle.asm2wasm_translation.specs.Numbers.{is_variable, int_variables, asked_signature, is_known, each_once, signatures}
use Rattle.asm2wasm_translation.specs.Modules.{type_for, from_env, imported_function, imported_global, imported_memory, global_for, table_for, elements_for, translation}
use Rattle.asm2wasm_laws_typed.specs.Labels.{HaveJoinedLabels}
use Rattle.asm2wasm_laws_typed.proofs.Said.{labels_are_joined}
use Rattle.asm2wasm_laws_acceptance.proofs.Imports.{functions_are_counted}
use Rattle.asm2wasm_laws_acceptance.proofs.Valid.{translation_is_valid}
use Rattle.asm2wasm_lang.specs.Small.{HaveNoSwitch, IsSmall}
use Rattle.asm2wasm_laws_profile.specs.Laws.{TranslationIsInProfile}
use Rattle.asm2wasm_laws_profile.proofs.LightBodies.{functions_are_light}
use Rattle.asm2wasm_laws_profile.proofs.Foreign.{nothing_is_foreign}
use Rattle.asm2wasm_laws_profile.proofs.Bodies.{IsFlat, no_body_multiplies, no_body_calls, bodies_are_flat, all_slots_few}

-- ---- what is within its limit

not_too_many : (limit n : ℕ) (other : Option ℕ) → n ≤ limit → too_many limit n other ≡ other
not_too_many limit n other h = let low : nat_lt limit n ≡ false = grind (arith, nat_tests) in rw low refl

not_above : (limit n : ℕ) → n ≤ limit → above limit (Some n) ≡ None
not_above limit n h = let low : nat_lt limit n ≡ false = grind (arith, nat_tests) in rw low refl

no_cells : (n t : ℕ) → n ≡ 0 → n * padded t ≤ most_cells
no_cells n t e = let none : 0 * padded t ≤ most_cells = omega arith in subst (λ k. k * padded t ≤ most_cells) (sym e) none

-- ---- a module that meets no row

record HasFew (w : WasmModule) : Type 0 where
  functions : length (function_types w) ≤ most_functions
  params : (other : Option ℕ) → params_past w.types other ≡ other
  globals : length (global_types w) ≤ most_globals
  slots : slots_from w 0 w.bodies ≤ most_slots
  entries : table_length w ≤ most_entries
  call_types : distinct (called_types w.types w.bodies) ≡ 0
  names : names_past w.imports ≡ None

sizes_fit : (w : WasmModule) → HasFew w → size_past w ≡ None
sizes_fit w few =
    not_too_many most_functions (length (function_types w)) _ few.functions ∙ few.params _ ∙ not_too_many most_globals (length (global_types w)) _ few.globals
    ∙ not_too_many most_slots (slots_from w 0 w.bodies) _ few.slots ∙ not_too_many most_entries (table_length w) _ few.entries
    ∙ not_too_many most_cells (distinct (called_types w.types w.bodies) * padded (table_length w)) _ (no_cells (distinct (called_types w.types w.bodies)) (table_length w) few.call_types) ∙ few.names

record MeetsNone (w : WasmModule) : Type 0 where
  table : first_import is_table 0 w.imports ≡ None
  mutable : first_import is_mutable 0 w.imports ≡ None
  mixed : first_mixed [] 0 w.imports ≡ None
  wide : wide_import w 0 w.imports ≡ None
  offset : offset_from_import 0 w.elements w.segments ≡ None
  segment : segment_outside (table_length w) (memory_bytes w) 0 w.elements w.segments ≡ None
  memory : above most_pages_to_run (pages w) ≡ None
  levels : above most_levels (Some (deepest w.bodies)) ≡ None
  sizes : size_past w ≡ None
  mul_div : first_mul_div (length (imported_functions w.imports)) w.bodies ≡ None

no_row : (w : WasmModule) → MeetsNone w → outside_profile w ≡ None
no_row w none =
    let a = none.table in
    let b = none.mutable in
    let c = none.mixed in
    let d = none.wide in
    let e = none.offset in
    let f = none.segment in
    let g = none.memory in
    let h = none.levels in
    let i = none.sizes in
    let j = none.mul_div in
    rw (a, b, c, d, e, f, g, h, i, j) refl

-- ---- types

abbrev TakesFew : Signature → Type 0
TakesFew s = s.params ≤ 1000

all_more : (xs : List Signature) (s : Signature) → AllByRecursion TakesFew xs → TakesFew s → AllByRecursion TakesFew (xs ++ s ∷ [])
all_more [] s all few = (few, tt)
all_more (x ∷ xs) s all few = (all.0, all_more xs s all.1 few)

all_once : (seen ss : List Signature) → AllByRecursion TakesFew seen → AllByRecursion TakesFew ss → AllByRecursion TakesFew (each_once seen ss)
all_once seen [] a b = a
all_once seen (s ∷ ss) a b = by (is_known s seen) (all_once seen ss a b.1) (all_once (seen ++ s ∷ []) ss (all_more seen s a b.0) b.1)
  where
    by : (b : Bool) → AllByRecursion TakesFew (each_once seen ss) → AllByRecursion TakesFew (each_once (seen ++ s ∷ []) ss) → AllByRecursion TakesFew (if b then each_once seen ss else each_once (seen ++ s ∷ []) ss)
    by true old new = old
    by false old new = new

params_fit : (ss : List Signature) (other : Option ℕ) → AllByRecursion TakesFew ss → params_past (map type_for ss) other ≡ other
params_fit [] other all = refl
params_fit (s ∷ ss) other all =
    let few : length (type_for s).params ≤ 1000 = subst (λ n. n ≤ 1000) (sym (length-replicate s.params I32)) all.0 in
    not_too_many 1000 (length (type_for s).params) (params_past (map type_for ss) other) few ∙ params_fit ss other all.1

functions_take_few : (fs : List Function) → AllByRecursion IsFlat fs → AllByRecursion TakesFew (map signature_of fs)
functions_take_few [] all = tt
functions_take_few (f ∷ fs) all = ((let nodes = all.0.nodes in omega (arith, nodes)), functions_take_few fs all.1)

-- ---- globals

few_variables : (vs : List Variable) → length (int_variables vs) ≤ length vs
few_variables [] = omega arith
few_variables (v ∷ vs) = by (is_variable v.init) (few_variables vs)
  where
    by : (b : Bool) → length (int_variables vs) ≤ length vs → length (if b then v ∷ int_variables vs else int_variables vs) ≤ suc (length vs)
    by true rest = omega (arith, rest)
    by false rest = omega (arith, rest)

-- ---- functions

heights : (fs : List Function) → functions_height fs ≤ 49 → AllByRecursion (λ (f : Function). function_height f ≤ 49) fs
heights [] h = tt
heights (f ∷ fs) h =
    let first : function_height f ≤ max (function_height f) (functions_height fs) = omega arith in
    let rest : functions_height fs ≤ max (function_height f) (functions_height fs) = omega arith in
    (omega (arith, h, first), heights fs (omega (arith, h, rest)))

functions_low : (m : Module) → IsSmall m → functions_height m.functions ≤ 49
functions_low m small =
    let low = small.height in
    let below : functions_height m.functions ≤ max (leaves_height m.globals) (max (functions_height m.functions) (max (leaves_height m.tables) (exports_height m.exports))) = omega arith in
    omega (arith, low, below)

all_flat : (fs : List Function) → AllByRecursion (λ (f : Function). HaveJoinedLabels f.body) fs → AllByRecursion (λ (f : Function). HaveNoSwitch f.body) fs → AllByRecursion (λ (f : Function). function_height f ≤ 49) fs
    → AllByRecursion (λ (f : Function). function_count f ≤ 1000) fs → AllByRecursion IsFlat fs
all_flat [] a b c d = tt
all_flat (f ∷ fs) a b c d = (record { joined = a.0; no_switch = b.0; height = c.0; nodes = d.0 }, all_flat fs a.1 b.1 c.1 d.1)

-- ---- the only import is the memory

module _ (size : ℕ) where
  abbrev memories : Bool → List Imported
  memories b = if b then from_env (codes "memory") (imports.Memory (exactly (pages_for size))) ∷ [] else []

  none_imported : (test : ImportKind → Bool) (b : Bool) → test (imports.Memory (exactly (pages_for size))) ≡ false → first_import test 0 (memories b) ≡ None
  none_imported test true h = rw h refl
  none_imported test false h = refl

  none_mixed : (b : Bool) → first_mixed [] 0 (memories b) ≡ None
  none_mixed true = refl
  none_mixed false = refl

  none_wide : (w : WasmModule) (b : Bool) → wide_import w 0 (memories b) ≡ None
  none_wide w true = refl
  none_wide w false = refl

  none_named : (b : Bool) → names_past (memories b) ≡ None
  none_named true = refl
  none_named false = refl

  no_entries : (b : Bool) → imported_entries (memories b) ≡ None
  no_entries true = refl
  no_entries false = refl

  no_globals : (b : Bool) → imported_globals (memories b) ≡ []
  no_globals true = refl
  no_globals false = refl

  few_pages : (b : Bool) → pages_for size ≤ 4096 → above most_pages_to_run (or_else (imported_pages (memories b)) None) ≡ None
  few_pages true h = not_above most_pages_to_run (pages_for size) h
  few_pages false h = refl

-- ---- the module

module _ (kept : LevelsAreKept) (short : SizeBoundsLength) (m : Module) (size : ℕ) (formed : IsWellFormed m) (small : IsSmall m) (few : pages_for size ≤ 4096) where
  abbrev w : WasmModule
  w = translation m size

  flat_functions : AllByRecursion IsFlat m.functions
  flat_functions =
      all_flat m.functions (labels_are_joined m formed) (recursion_from_All (λ (f : Function). HaveNoSwitch f.body) m.functions small.no_switch) (heights m.functions (functions_low m small))
      (recursion_from_All (λ (f : Function). function_count f ≤ 1000) m.functions small.nodes)

  no_calls : foreign_calls m ≡ []
  no_calls = (nothing_is_foreign m small.no_foreign_member).0

  imports_are : w.imports ≡ memories size (has_heap m)
  imports_are =
      ap (λ fs. map (imported_function m) fs ++ (map imported_global (foreign_globals m) ++ imported_memory m size)) no_calls
      ∙ ap (λ gs. map imported_global gs ++ imported_memory m size) (nothing_is_foreign m small.no_foreign_member).1

  no_table : table_length w ≡ 0
  no_table =
      ap (λ is. or_zero (or_else (imported_entries is) (own_entries w.tables))) imports_are ∙ ap (λ o. or_zero (or_else o (own_entries w.tables))) (no_entries size (has_heap m))
      ∙ ap (λ ts. or_zero (own_entries (table_for m ts))) small.no_table

  few_types : (other : Option ℕ) → params_past w.types other ≡ other
  few_types other =
      let own = functions_take_few m.functions flat_functions in
      let all = subst (λ (fs : List ForeignCall). AllByRecursion TakesFew (map asked_signature fs ++ map signature_of m.functions)) (sym no_calls) own in
      params_fit (signatures m) other (all_once [] (map asked_signature (foreign_calls m) ++ map signature_of m.functions) tt all)

  few_functions : length (function_types w) ≤ most_functions
  few_functions =
      let counted = functions_are_counted m size in
      let none = ap length no_calls in
      let own = small.functions in
      omega (arith, counted, none, own)

  few_globals : length (global_types w) ≤ most_globals
  few_globals =
      let own = map (λ (g : GlobalEntry). g.kind) w.globals in
      let none = ap imported_globals imports_are ∙ no_globals size (has_heap m) in
      let same : length (global_types w) ≡ length own = ap (λ gs. length (gs ++ own)) none in
      let each : length own ≡ length w.globals = length-map w.globals (λ (g : GlobalEntry). g.kind) in
      let made : length w.globals ≡ length (int_variables m.globals) = length-map (int_variables m.globals) (global_for m) in
      let variables = few_variables m.globals in
      let most = small.globals in
      omega (arith, same, each, made, variables, most)

  few_slots : slots_from w 0 w.bodies ≤ most_slots
  few_slots =
      all_slots_few m size short m.functions 0 (λ j f h. (let same : 0 + j ≡ j = omega arith in subst (λ k. slice_get m.functions k ≡ Some f) (sym same) h)) flat_functions

  has_few : HasFew w
  has_few = record {
    functions = few_functions;
    params = few_types;
    globals = few_globals;
    slots = few_slots;
    entries = (let none = no_table in omega (arith, none));
    call_types = ap distinct (no_body_calls m size w.types m.functions (functions_are_light m size small.no_table));
    names = ap names_past imports_are ∙ none_named size (has_heap m);
  }

  meets_none : MeetsNone w
  meets_none = record {
    table = ap (first_import is_table 0) imports_are ∙ none_imported size is_table (has_heap m) refl;
    mutable = ap (first_import is_mutable 0) imports_are ∙ none_imported size is_mutable (has_heap m) refl;
    mixed = ap (first_mixed [] 0) imports_are ∙ none_mixed size (has_heap m);
    wide = ap (wide_import w 0) imports_are ∙ none_wide size w (has_heap m);
    offset = ap (λ ts. offset_from_import 0 (elements_for m ts) []) small.no_table;
    segment = ap (λ ts. segment_outside (table_length w) (memory_bytes w) 0 (elements_for m ts) []) small.no_table;
    memory = ap (λ is. above most_pages_to_run (or_else (imported_pages is) None)) imports_are ∙ few_pages size (has_heap m) few;
    levels = not_above most_levels (deepest w.bodies) (bodies_are_flat m size kept m.functions flat_functions);
    sizes = sizes_fit w has_few;
    mul_div = no_body_multiplies m size m.functions (length (imported_functions w.imports)) (functions_are_light m size small.no_table);
  }

-- what is known of the lengths of heaps
abbrev pub PagesAreFew : Type 0
PagesAreFew = (size : ℕ) → is_heap_length size ≡ true → pages_for size ≤ 4096

pub translation_is_in_profile : LevelsAreKept → SizeBoundsLength → PagesAreFew → TranslationIsInProfile
translation_is_in_profile kept short few m size ok formed small heap =
    record { valid = translation_is_valid few m size ok heap; within = no_row (translation m size) (meets_none kept short m size formed small (few size heap)) }
