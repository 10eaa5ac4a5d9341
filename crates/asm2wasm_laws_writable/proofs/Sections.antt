-- What stands in each section of the translated module of a short text has fewer than 2 ^ 32 bytes.
use Rattle.std.proofs.Common.{◌≡◌, ℕ, ◌+◌, ◌-◌, ◌*◌, ◌^◌, ◌≤◌, Bool, true, false, List, [], ◌∷◌, ◌++◌, length, map, refl, arith}
use Rattle.std.specs.Prelude.{codes, if◌then◌else◌}
use Rattle.std.specs.List.{AllByRecursion, concat}
use Rattle.std.proofs.lemmas.List.{length-map, length-append, length-replicate}
use Rattle.std.proofs.lemmas.List.Elements.{recursion_from_All}
use Rattle.wasm_lang.specs.declared.types.ValType.TheVariants.{I32}
use Rattle.wasm_lang.specs.declared.types.ImportKind.TheVariants as imports
use Rattle.wasm_lang.specs.declared.types.ExportKind.TheVariants as exports
use Rattle.wasm_lang.specs.Limits as reader
use Rattle.wasm_lang.specs.Modules.{FunctionType, Imported, Exported}
use Rattle.wasm_binary_write.specs.Spelling.{vector, sized, imported, limits, exported, body, segment}
use Rattle.wasm_laws_trees.specs.Spelled.{closed}
use Rattle.wasm_laws_trees.specs.Laws.{IsReadAgain, LevelsAreKept}
use Rattle.wasm_laws_write.specs.Fits.{FitsU32, ExportFits}
use Rattle.wasm_laws_write.specs.Lengths.{IsNarrow, total}
use Rattle.wasm_laws_write.proofs.Short.{parts_are_short, bodies_are_short, imports_are_short, exports_are_short}
use Rattle.wasm_laws_write.specs.Each.{EachIn}
use Rattle.wasm_laws_write.proofs.Spelled.{trees_are_short}
use Rattle.asm_lang.specs.Modules.{Function, Export, Exports, one, many, Module}
use Rattle.asm_lang_valid.specs.Rows.{function_count, functions_count, exports_count}
use Rattle.asm_lang_valid.specs.Scope.{signature_of}
use Rattle.asm_lang_valid.specs.Typed.{scope_of}
use Rattle.asm_lang_valid.specs.LimitRows.{ForeignCall, foreign_calls}
use Rattle.asm_lang_valid.specs.Refusal as text
use Rattle.asm_lang_valid.specs.Refusal.{foreign_globals, has_heap, IsAccepted, exported_from}
use Rattle.asm2wasm_lang.specs.Counts.{body_clauses, functions_clauses}
use Rattle.asm2wasm_lang.specs.Names.{module_names}
use Rattle.asm2wasm_lang.specs.Heaps.{pages_for}
use Rattle.asm2wasm_lang.specs.Calling.{exactly}
use Rattle.asm2wasm_translation.specs.Numbers.{int_variables, asked_signature, signatures, type_number}
use Rattle.asm2wasm_translation.specs.Modules.{type_for, from_env, imported_function, imported_global, body_for, translation}
use Rattle.asm2wasm_translation.specs.Bodies.{function_code}
use Rattle.asm2wasm_laws_typed.proofs.SmallBodies.{functions_are_small}
use Rattle.asm2wasm_laws_within.specs.Within.{CallIsWithin}
use Rattle.asm2wasm_laws_within.proofs.Within.{accepted_are_within}
use Rattle.asm2wasm_laws_acceptance.specs.Laws.{room_of}
use Rattle.asm2wasm_laws_acceptance.proofs.Readable.{translation_is_within}
use Rattle.asm2wasm_laws_writable.specs.Laws.{TranslationsSectionsFit}
use Rattle.asm2wasm_laws_writable.proofs.Lists.{total_joins}
use Rattle.asm2wasm_laws_writable.proofs.Constants.{PagesAreFew, PagesHold}
use Rattle.asm2wasm_laws_writable.proofs.Narrow.{HasFewNodes, few_nodes, HasFewLocals, all_few_locals, functions_are_narrow}
use Rattle.asm2wasm_laws_writable.proofs.Numbers.{type_low, functions_fit, exports_fit}
use Rattle.asm2wasm_laws_writable.proofs.Short.{vector_total, types_fit, numbers_vector_fits, no_items_fit, globals_vector_fits, tables_vector_fits, elements_vector_fits}

-- ---- names

joined_adds : (ms ns : List (List ℕ)) → length (concat (ms ++ ns)) ≡ length (concat ms) + length (concat ns)
joined_adds [] ns = omega arith
joined_adds (m ∷ ms) ns = omega (arith, length-append m (concat (ms ++ ns)), length-append m (concat ms), joined_adds ms ns)

-- of all names of a module, those of its exports and of the variables that it imports
record NamesAreShort (m : Module) : Type 0 where
  keys : length (concat (map (λ (e : text.Exported). e.key) (exported_from m m.exports))) ≤ 2 ^ 24
  foreign : length (concat (foreign_globals m)) ≤ 2 ^ 24

names_short : (m : Module) → length (concat (module_names m)) ≤ 2 ^ 24 → NamesAreShort m
names_short m h =
    let functions = map (λ (f : Function). f.name) m.functions in
    let keys = map (λ (e : text.Exported). e.key) (exported_from m m.exports) in
    let all = joined_adds functions (keys ++ foreign_globals m) in
    let rest = joined_adds keys (foreign_globals m) in
    record { keys = omega (arith, h, all, rest); foreign = omega (arith, h, all, rest) }

-- ---- imports

abbrev imports_length : List Imported → ℕ
imports_length is = total (λ i. length (imported i)) is

module _ (m : Module) (heap : ℕ) (types : length (map type_for (signatures m)) ≤ 10000) where
  calls_length : (fs : List ForeignCall) → AllByRecursion CallIsWithin fs → imports_length (map (imported_function m) fs) ≤ 100026 * length fs
  calls_length [] a = omega arith
  calls_length (f ∷ fs) a =
      let name = a.0.name in
      let short = imports_are_short (imported_function m f) (omega arith) (omega (arith, name)) (type_low m heap types (asked_signature f)) in
      let rest = calls_length fs a.1 in
      omega (arith, name, short, rest)

  globals_length : (gs : List (List ℕ)) → length (concat gs) ≤ 2 ^ 24 → imports_length (map imported_global gs) ≤ 26 * length gs + length (concat gs)
  globals_length [] h = omega arith
  globals_length (g ∷ gs) h =
      let all = length-append g (concat gs) in
      let short = imports_are_short (imported_global g) (omega arith) (omega (arith, h, all)) tt in
      let rest = globals_length gs (omega (arith, h, all)) in
      omega (arith, all, short, rest)

  abbrev memories : Bool → List Imported
  memories b = if b then from_env (codes "memory") (imports.Memory (exactly (pages_for heap))) ∷ [] else []

  memory_length : pages_for heap ≤ 4096 → (b : Bool) → imports_length (memories b) ≤ 32
  memory_length few true =
      let fits : FitsU32 (pages_for heap) = omega (arith, few) in
      let short = imports_are_short (from_env (codes "memory") (imports.Memory (exactly (pages_for heap)))) (omega arith) (omega arith) (fits, fits) in
      omega (arith, short)
  memory_length few false = omega arith

  memory_count : (b : Bool) → length (memories b) ≤ 1
  memory_count true = omega arith
  memory_count false = omega arith

  imports_vector_fits : IsAccepted m → length (concat (foreign_globals m)) ≤ 2 ^ 24 → pages_for heap ≤ 4096 → FitsU32 (length (vector imported (translation m heap).imports))
  imports_vector_fits ok names pages =
      let calls = map (imported_function m) (foreign_calls m) in
      let globals = map imported_global (foreign_globals m) in
      let last = memories (has_heap m) in
      let within = accepted_are_within m ok in
      let few_calls = within.calls in
      let few_globals = within.foreign in
      let many_calls : length calls ≡ length (foreign_calls m) = length-map (foreign_calls m) (imported_function m) in
      let many_globals : length globals ≡ length (foreign_globals m) = length-map (foreign_globals m) imported_global in
      let many_last = memory_count (has_heap m) in
      let first = length-append calls (globals ++ last) in
      let second = length-append globals last in
      let whole = vector_total imported (calls ++ (globals ++ last)) (omega (arith, few_calls, few_globals, many_calls, many_globals, many_last, first, second)) in
      let a = total_joins (λ i. length (imported i)) calls (globals ++ last) in
      let b = total_joins (λ i. length (imported i)) globals last in
      let c = calls_length (foreign_calls m) (recursion_from_All CallIsWithin (foreign_calls m) within.each_call) in
      let d = globals_length (foreign_globals m) names in
      let e = memory_length pages (has_heap m) in
      omega (arith, whole, a, b, c, d, e, few_calls, few_globals, names)

-- ---- exports

module _ (m : Module) where
  abbrev given : text.Exported → Exported
  given e = record { name = e.key; kind = exports.Func (length (foreign_calls m) + e.function) }

  exports_length : (xs : List text.Exported) → AllByRecursion (λ (e : Exported). ExportFits e.kind) (map given xs) → length (concat (map (λ (e : text.Exported). e.key) xs)) ≤ 2 ^ 24
      → total (λ e. length (exported e)) (map given xs) ≤ 11 * length xs + length (concat (map (λ (e : text.Exported). e.key) xs))
  exports_length [] a h = omega arith
  exports_length (x ∷ xs) a h =
      let all = length-append x.key (concat (map (λ (e : text.Exported). e.key) xs)) in
      let short = exports_are_short (given x) (omega (arith, h, all)) a.0 in
      let rest = exports_length xs a.1 (omega (arith, h, all)) in
      omega (arith, all, short, rest)

  exports_counted : (x : Exports) → length (exported_from m x) ≡ exports_count x
  exports_counted (one f) = refl
  exports_counted (many es) = length-map es (λ (e : Export). text.exported m e.key e.function)

  exports_vector_fits : IsAccepted m → exports_count m.exports ≤ 2 ^ 25 → length (concat (map (λ (e : text.Exported). e.key) (exported_from m m.exports))) ≤ 2 ^ 24
      → FitsU32 (length (vector exported (map given (exported_from m m.exports))))
  exports_vector_fits ok few names =
      let xs = exported_from m m.exports in
      let counted = exports_counted m.exports in
      let many : length (map given xs) ≡ length xs = length-map xs given in
      let whole = vector_total exported (map given xs) (omega (arith, few, counted, many)) in
      let long = exports_length xs (exports_fit m ok m.exports) names in
      omega (arith, few, counted, whole, long, names)

-- ---- bodies

module _ (m : Module) (heap : ℕ) where
  body_length : (f : Function) → HasFewNodes f → HasFewLocals m heap f → EachIn IsNarrow (function_code heap (scope_of m f))
      → length (sized (body (body_for m heap f))) ≤ 19 + 98 * (function_count f + body_clauses f.body)
  body_length f nodes locals narrow =
      let code = function_code heap (scope_of m f) in
      let n = room_of m heap f - length f.params in
      let count : length (body_for m heap f).locals ≡ n = length-replicate n I32 in
      let plain = bodies_are_short n I32 (closed code) (omega (arith, locals, count)) in
      let inside = trees_are_short code narrow in
      let small = functions_are_small heap (scope_of m f) in
      let whole : length (body (body_for m heap f)) ≤ 14 + 98 * (function_count f + body_clauses f.body) = omega (arith, plain, inside, small) in
      let part = parts_are_short (body (body_for m heap f)) (omega (arith, whole, nodes)) in
      omega (arith, whole, part)

  bodies_length : (fs : List Function) → AllByRecursion HasFewNodes fs → AllByRecursion (HasFewLocals m heap) fs → AllByRecursion (λ (f : Function). EachIn IsNarrow (function_code heap (scope_of m f))) fs
      → total (λ b. length (sized (body b))) (map (body_for m heap) fs) ≤ 19 * length fs + 98 * (functions_count fs + functions_clauses fs)
  bodies_length [] a b c = omega arith
  bodies_length (f ∷ fs) a b c = let here = body_length f a.0 b.0 c.0 in let rest = bodies_length fs a.1 b.1 c.1 in omega (arith, here, rest)

  bodies_vector_fits : (fs : List Function) → length fs ≤ 50000 → functions_count fs + functions_clauses fs ≤ 2 ^ 25 → AllByRecursion (HasFewLocals m heap) fs
      → AllByRecursion (λ (f : Function). EachIn IsNarrow (function_code heap (scope_of m f))) fs → FitsU32 (length (vector (λ b. sized (body b)) (map (body_for m heap) fs)))
  bodies_vector_fits fs few nodes locals narrow =
      let count : length (map (body_for m heap) fs) ≡ length fs = length-map fs (body_for m heap) in
      let whole = vector_total (λ b. sized (body b)) (map (body_for m heap) fs) (omega (arith, few, count)) in
      let long = bodies_length fs (few_nodes fs nodes) locals narrow in
      omega (arith, few, nodes, whole, long)

-- ---- the module

pub sections_fit_in_translations : IsReadAgain → LevelsAreKept → PagesAreFew → PagesHold → TranslationsSectionsFit
sections_fit_in_translations again kept few hold m heap ok formed short h =
    let w = translation m heap in
    let within = translation_is_within kept m heap ok formed in
    let types = within.types in
    let names = names_short m short.names in
    let nodes = short.nodes in
    let functions = (accepted_are_within m ok).functions in
    let count : length w.functions ≡ length m.functions = length-map m.functions (λ f. type_number m (signature_of f)) in
    let globals = within.globals in
    record {
      types = types_fit (signatures m) types (recursion_from_All (λ (t : FunctionType). length t.params ≤ reader.most_params) w.types within.params);
      imports = imports_vector_fits m heap types ok names.foreign (few heap h);
      functions = numbers_vector_fits w.functions (omega (arith, functions, count)) (functions_fit m heap types m.functions);
      tables = tables_vector_fits m ok m.tables;
      memories = no_items_fit limits;
      globals = globals_vector_fits m ok (int_variables m.globals) (omega (arith, globals));
      exports = exports_vector_fits m ok (omega (arith, nodes)) names.keys;
      elements = elements_vector_fits m ok m.tables;
      bodies = bodies_vector_fits m heap m.functions functions (omega (arith, nodes)) (all_few_locals m heap within) (functions_are_narrow again kept few hold m heap ok formed h);
      segments = no_items_fit segment;
    }
