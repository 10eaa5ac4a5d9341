-- The translated module is within the limits of a reader.
use Rattle.std.proofs.Common.{◌≡◌, ℕ, suc, ◌+◌, ◌-◌, ◌≤◌, max, Bool, true, false, List, [], ◌∷◌, ◌++◌, length, map, Some, refl, sym, ◌∙◌, subst, arith}
use Rattle.std.specs.Prelude.{slice_get, if◌then◌else◌, codes}
use Rattle.std.specs.List.{AllByRecursion, IsDistinct, zip}
use Rattle.std.proofs.lemmas.List.{length-map, length-append, length-replicate}
use Rattle.std.proofs.lemmas.List.Elements.{All-from_recursion, recursion_from_All}
use Rattle.wasm_lang.specs.declared.types.ValType.TheVariants.{I32}
use Rattle.wasm_lang.specs.declared.types.Limits.{Limits}
use Rattle.wasm_lang.specs.declared.types.ImportKind.TheVariants as imports
use Rattle.wasm_lang.specs.Limits as reader
use Rattle.wasm_lang.specs.Modules.{FunctionType, Imported, GlobalEntry, ElementSegment, FunctionBody}
use Rattle.wasm_laws_trees.specs.Spelled.{reach}
use Rattle.wasm_laws_trees.specs.Laws.{LevelsAreKept}
use Rattle.asm_lang.specs.Heights.{stmts_height, function_height, functions_height, leaves_height, exports_height, IsWellFormed}
use Rattle.asm_lang.specs.Trees.{Init, number, decimal, foreign_int, foreign_double, member, math, view}
use Rattle.asm_lang.specs.Modules.{Variable, Function, Table, Module}
use Rattle.asm_lang_valid.specs.Scope.{Signature, signature_of}
use Rattle.asm_lang_valid.specs.Typed.{scope_of}
use Rattle.asm_lang_valid.specs.LimitRows.{ForeignCall, foreign_calls, most_params}
use Rattle.asm_lang_valid.specs.Refusal.{foreign_globals, has_heap}
use Rattle.asm2wasm_lang.specs.Heaps.{pages_for}
use Rattle.asm2wasm_lang.specs.Tables.{members_of, entries_from, entries_of}
use Rattle.asm2wasm_lang.specs.Calling.{exactly}
use Rattle.asm2wasm_translation.specs.Numbers.{first_scratch, is_variable, int_variables, asked_signature, is_signature, is_known, each_once, signatures, type_number}
use Rattle.asm2wasm_translation.specs.Modules.{type_for, from_env, imported_function, imported_global, global_for, table_for, elements_for, body_for, translation}
use Rattle.asm2wasm_translation.specs.Bodies.{function_code}
use Rattle.asm2wasm_laws_typed.specs.Labels.{HaveJoinedLabels}
use Rattle.asm2wasm_laws_typed.proofs.FlatBodies.{functions_are_flat}
use Rattle.asm2wasm_laws_typed.proofs.ReachBodies.{functions_reach}
use Rattle.asm2wasm_laws_typed.proofs.Said.{labels_are_joined}
use Rattle.asm2wasm_laws_within.specs.Within.{members, FunctionIsWithin, CallIsWithin, IsWithin}
use Rattle.asm2wasm_laws_within.proofs.Within.{accepted_are_within}
use Rattle.asm2wasm_laws_within.proofs.Signatures.{few_signatures}
use Rattle.asm2wasm_laws_acceptance.specs.Laws.{room_of, TranslationIsWithin}
use Rattle.asm2wasm_laws_acceptance.proofs.Types.{Known, functions_known, signatures_equal, is_itself, type_at}

-- ---- types are few, since each stands once

abbrev Apart : Signature → List Signature → Type 0
Apart s ss = AllByRecursion (λ t. is_signature t s ≡ false) ss

apart : (s : Signature) (seen : List Signature) → is_known s seen ≡ false → Apart s seen
apart s [] h = tt
apart s (t ∷ ts) h = by (is_signature s t) refl (apart s ts) h
  where
    other : (b : Bool) → is_signature s t ≡ false → is_signature t s ≡ b → b ≡ false
    other false unlike e = refl
    other true unlike e = let back : is_signature s t ≡ true = subst (λ x. is_signature s x ≡ true) (sym (signatures_equal t s e)) (is_itself s) in absurd (cc (unlike, back))

    by : (b : Bool) → is_signature s t ≡ b → (is_known s ts ≡ false → Apart s ts) → (if b then true else is_known s ts) ≡ false → Apart s (t ∷ ts)
    by true e rest h = absurd (cc h)
    by false e rest h = (other (is_signature t s) e refl, rest h)

one_more : (t s : Signature) (ts : List Signature) → AllByRecursion (λ y. is_signature t y ≡ false) ts → is_signature t s ≡ false → AllByRecursion (λ y. is_signature t y ≡ false) (ts ++ s ∷ [])
one_more t s [] all h = (h, tt)
one_more t s (x ∷ xs) all h = (all.0, one_more t s xs all.1 h)

distinct_more : (s : Signature) (seen : List Signature) → IsDistinct is_signature seen → Apart s seen → IsDistinct is_signature (seen ++ s ∷ [])
unfolding IsDistinct
distinct_more s [] d a = (tt, tt)
distinct_more s (t ∷ ts) d a = (one_more t s ts d.0 a.0, distinct_more s ts d.1 a.1)

distinct_once : (seen ss : List Signature) → IsDistinct is_signature seen → IsDistinct is_signature (each_once seen ss)
distinct_once seen [] d = d
distinct_once seen (s ∷ ss) d = by (is_known s seen) refl (distinct_once seen ss d) (distinct_once (seen ++ s ∷ []) ss)
  where
    by : (b : Bool) → is_known s seen ≡ b → IsDistinct is_signature (each_once seen ss) → (IsDistinct is_signature (seen ++ s ∷ []) → IsDistinct is_signature (each_once (seen ++ s ∷ []) ss))
        → IsDistinct is_signature (if b then each_once seen ss else each_once (seen ++ s ∷ []) ss)
    by true e old new = old
    by false e old new = new (distinct_more s seen d (apart s seen e))

none_distinct : IsDistinct is_signature []
unfolding IsDistinct
none_distinct = tt

module _ (P : Signature → Type 0) where
  all_more : (xs ys : List Signature) → AllByRecursion P xs → AllByRecursion P ys → AllByRecursion P (xs ++ ys)
  all_more [] ys a b = b
  all_more (x ∷ xs) ys a b = (a.0, all_more xs ys a.1 b)

  all_once : (seen ss : List Signature) → AllByRecursion P seen → AllByRecursion P ss → AllByRecursion P (each_once seen ss)
  all_once seen [] a b = a
  all_once seen (s ∷ ss) a b = by (is_known s seen) (all_once seen ss a b.1) (all_once (seen ++ s ∷ []) ss (all_more seen (s ∷ []) a (b.0, tt)) b.1)
    where
      by : (b : Bool) → AllByRecursion P (each_once seen ss) → AllByRecursion P (each_once (seen ++ s ∷ []) ss) → AllByRecursion P (if b then each_once seen ss else each_once (seen ++ s ∷ []) ss)
      by true old new = old
      by false old new = new

abbrev HasFew : Signature → Type 0
HasFew s = s.params ≤ most_params

calls_few : (fs : List ForeignCall) → AllByRecursion CallIsWithin fs → AllByRecursion HasFew (map asked_signature fs)
calls_few [] all = tt
calls_few (f ∷ fs) all = (all.0.params, calls_few fs all.1)

functions_few : (fs : List Function) → AllByRecursion FunctionIsWithin fs → AllByRecursion HasFew (map signature_of fs)
functions_few [] all = tt
functions_few (f ∷ fs) all = (all.0.params, functions_few fs all.1)

params_few : (ss : List Signature) → AllByRecursion HasFew ss → AllByRecursion (λ (t : FunctionType). length t.params ≤ reader.most_params) (map type_for ss)
params_few [] all = tt
params_few (s ∷ ss) all = (subst (λ n. n ≤ 2000) (sym (length-replicate s.params I32)) all.0, params_few ss all.1)

module _ (m : Module) (within : IsWithin m) where
  all_few : AllByRecursion HasFew (signatures m)
  all_few =
      all_once HasFew [] (map asked_signature (foreign_calls m) ++ map signature_of m.functions) tt
      (all_more HasFew (map asked_signature (foreign_calls m)) (map signature_of m.functions) (calls_few (foreign_calls m) (recursion_from_All CallIsWithin (foreign_calls m) within.each_call))
      (functions_few m.functions (recursion_from_All FunctionIsWithin m.functions within.each_function)))

  types_few : length (map type_for (signatures m)) ≤ 10000
  types_few =
      let distinct = distinct_once [] (map asked_signature (foreign_calls m) ++ map signature_of m.functions) none_distinct in
      let few = few_signatures (signatures m) distinct (All-from_recursion HasFew (signatures m) all_few) in
      let many : length (map type_for (signatures m)) ≡ length (signatures m) = length-map (signatures m) type_for in
      omega (arith, few, many)

-- ---- imports

module _ (m : Module) (size : ℕ) where
  abbrev memories : Bool → List Imported
  memories b = if b then from_env (codes "memory") (imports.Memory (exactly (pages_for size))) ∷ [] else []

  no_functions : (b : Bool) → reader.function_imports (memories b) ≡ 0
  no_functions true = refl
  no_functions false = refl

  functions_after : (gs : List (List ℕ)) → reader.function_imports (map imported_global gs ++ memories (has_heap m)) ≡ 0
  functions_after [] = no_functions (has_heap m)
  functions_after (g ∷ gs) = let rest = functions_after gs in omega (arith, rest)

  functions_counted : (fs : List ForeignCall) → reader.function_imports (map (imported_function m) fs ++ (map imported_global (foreign_globals m) ++ memories (has_heap m))) ≡ length fs
  functions_counted [] = functions_after (foreign_globals m)
  functions_counted (f ∷ fs) = let rest = functions_counted fs in omega (arith, rest)

  no_globals : (b : Bool) → reader.global_imports (memories b) ≡ 0
  no_globals true = refl
  no_globals false = refl

  globals_counted : (gs : List (List ℕ)) → reader.global_imports (map imported_global gs ++ memories (has_heap m)) ≡ length gs
  globals_counted [] = no_globals (has_heap m)
  globals_counted (g ∷ gs) = let rest = globals_counted gs in omega (arith, rest)

  globals_past : (fs : List ForeignCall) (rest : List Imported) → reader.global_imports (map (imported_function m) fs ++ rest) ≡ reader.global_imports rest
  globals_past [] rest = refl
  globals_past (f ∷ fs) rest = let more = globals_past fs rest in omega (arith, more)

  memory_free : (b : Bool) → AllByRecursion reader.MayImport (memories b)
  memory_free true = (tt, tt)
  memory_free false = tt

  globals_free : (gs : List (List ℕ)) → AllByRecursion reader.MayImport (map imported_global gs ++ memories (has_heap m))
  globals_free [] = memory_free (has_heap m)
  globals_free (g ∷ gs) = (tt, globals_free gs)

  imports_free : (fs : List ForeignCall) → AllByRecursion reader.MayImport (map (imported_function m) fs ++ (map imported_global (foreign_globals m) ++ memories (has_heap m)))
  imports_free [] = globals_free (foreign_globals m)
  imports_free (f ∷ fs) = (tt, imports_free fs)

-- ---- globals, the table and its elements

few_variables : (vs : List Variable) → length (int_variables vs) ≤ length vs
few_variables [] = omega arith
few_variables (v ∷ vs) = by (is_variable v.init) (few_variables vs)
  where
    by : (b : Bool) → length (int_variables vs) ≤ length vs → length (if b then v ∷ int_variables vs else int_variables vs) ≤ suc (length vs)
    by true rest = omega (arith, rest)
    by false rest = omega (arith, rest)

global_flat : (m : Module) (v : Variable) → reader.levels (global_for m v).init ≤ reader.most_levels
global_flat m v = by v.init
  where
    by : (i : Init) → reader.levels (global_for m (record v { init = i })).init ≤ reader.most_levels
    by (number z) = omega arith
    by (decimal bs) = omega arith
    by (foreign_int f p) = omega arith
    by (foreign_double f p) = omega arith
    by (member f p) = omega arith
    by (math f p) = omega arith
    by (view f p b) = omega arith

globals_flat : (m : Module) (vs : List Variable) → AllByRecursion (λ (g : GlobalEntry). reader.levels g.init ≤ reader.most_levels) (map (global_for m) vs)
globals_flat m [] = tt
globals_flat m (v ∷ vs) = (global_flat m v, globals_flat m vs)

elements_flat : (m : Module) (ts : List Table) → AllByRecursion (λ (e : ElementSegment). reader.levels e.offset ≤ reader.most_levels) (elements_for m ts)
elements_flat m [] = tt
elements_flat m (t ∷ ts) = (omega arith, tt)

entries_counted : (m : Module) (ts : List Table) → length (entries_from m ts) ≡ members ts
entries_counted m [] = refl
entries_counted m (t ∷ ts) =
    let rest = entries_counted m ts in
    let many = length-append (members_of m t) (entries_from m ts) in
    let each : length (members_of m t) ≡ length t.members = length-map t.members _ in
    omega (arith, rest, many, each)

tables_few : (m : Module) → length (entries_of m) ≤ 1048576 → (ts : List Table) → AllByRecursion (λ (l : Limits). l.min ≤ reader.most_entries) (table_for m ts)
tables_few m h [] = tt
tables_few m h (t ∷ ts) = (h, tt)

-- ---- bodies

-- what is known of a function
pub record IsFlat (f : Function) : Type 0 where
  pub within : FunctionIsWithin f
  pub joined : HaveJoinedLabels f.body
  pub height : function_height f ≤ 999

heights : (fs : List Function) → functions_height fs ≤ 999 → AllByRecursion (λ (f : Function). function_height f ≤ 999) fs
heights [] h = tt
heights (f ∷ fs) h =
    let first : function_height f ≤ max (function_height f) (functions_height fs) = omega arith in
    let rest : functions_height fs ≤ max (function_height f) (functions_height fs) = omega arith in
    (omega (arith, h, first), heights fs (omega (arith, h, rest)))

all_flat : (fs : List Function) → AllByRecursion FunctionIsWithin fs → AllByRecursion (λ (f : Function). HaveJoinedLabels f.body) fs → AllByRecursion (λ (f : Function). function_height f ≤ 999) fs → AllByRecursion IsFlat fs
all_flat [] a b c = tt
all_flat (f ∷ fs) a b c = (record { within = a.0; joined = b.0; height = c.0 }, all_flat fs a.1 b.1 c.1)

params_found : (ts : List FunctionType) (t : ℕ) (f : FunctionType) → slice_get ts t ≡ Some f → reader.params_of ts t ≡ length f.params
params_found ts t f e = rw e refl

room_fits : (params room scratch code height : ℕ) → room ≡ max scratch code → params ≤ scratch → scratch ≤ 50000 → code ≤ scratch + height → height ≤ 999 → params + (room - params) ≤ 60000
room_fits params room scratch code height e a b c d = let is : max scratch code ≤ scratch + height = omega (arith, c) in omega (arith, e, a, b, is, d)

module _ (m : Module) (size : ℕ) where
  locals_fit : (f : Function) → IsFlat f → Known m (signature_of f) → reader.params_of (map type_for (signatures m)) (type_number m (signature_of f)) + length (body_for m size f).locals ≤ 60000
  locals_fit f is known =
      let room = room_of m size f in
      let params : reader.params_of (map type_for (signatures m)) (type_number m (signature_of f)) ≡ length f.params =
      params_found (map type_for (signatures m)) (type_number m (signature_of f)) (type_for (signature_of f)) (type_at m (signature_of f) known) ∙ length-replicate (length f.params) I32
      in
      let locals : length (body_for m size f).locals ≡ room - length f.params = length-replicate (room - length f.params) I32 in
      let few : length f.params ≤ first_scratch f = omega arith in
      let fits = room_fits (length f.params) room (first_scratch f) (reach (function_code size (scope_of m f))) (function_height f) refl few is.within.locals (functions_reach size (scope_of m f)) is.height in
      omega (arith, params, locals, fits)

  all_locals_fit : (fs : List Function) → AllByRecursion IsFlat fs → AllByRecursion (λ f. Known m (signature_of f)) fs
      → AllByRecursion (λ (f : ℕ × FunctionBody). reader.params_of (map type_for (signatures m)) f.0 + length f.1.locals ≤ 60000) (zip (map (λ f. type_number m (signature_of f)) fs) (map (body_for m size) fs))
  all_locals_fit [] flat known = tt
  all_locals_fit (f ∷ fs) flat known = (locals_fit f flat.0 known.0, all_locals_fit fs flat.1 known.1)

  body_flat : LevelsAreKept → (f : Function) → IsFlat f → reader.levels (body_for m size f).code ≤ 300000
  body_flat kept f is =
      let code = function_code size (scope_of m f) in
      let same = kept code in
      let low = functions_are_flat size (scope_of m f) is.joined in
      let below : stmts_height f.body ≤ function_height f = omega arith in
      let height = is.height in
      omega (arith, same, low, below, height)

  bodies_flat : LevelsAreKept → (fs : List Function) → AllByRecursion IsFlat fs → AllByRecursion (λ (b : FunctionBody). reader.levels b.code ≤ 300000) (map (body_for m size) fs)
  bodies_flat kept [] flat = tt
  bodies_flat kept (f ∷ fs) flat = (body_flat kept f flat.0, bodies_flat kept fs flat.1)

functions_low : (m : Module) → IsWellFormed m → functions_height m.functions ≤ 999
functions_low m h =
    let low = h.within in
    let below : functions_height m.functions ≤ max (leaves_height m.globals) (max (functions_height m.functions) (max (leaves_height m.tables) (exports_height m.exports))) = omega arith in
    omega (arith, low, below)

pub translation_is_within : LevelsAreKept → TranslationIsWithin
translation_is_within kept m size ok formed =
    let within = accepted_are_within m ok in
    let w = translation m size in
    let flat = all_flat m.functions (recursion_from_All FunctionIsWithin m.functions within.each_function) (labels_are_joined m formed) (heights m.functions (functions_low m formed)) in
    let functions = functions_counted m size (foreign_calls m) in
    let globals = globals_past m size (foreign_calls m) (map imported_global (foreign_globals m) ++ memories m size (has_heap m)) ∙ globals_counted m size (foreign_globals m) in
    let own_functions : length w.functions ≡ length m.functions = length-map m.functions (λ f. type_number m (signature_of f)) in
    let own_globals : length w.globals ≡ length (int_variables m.globals) = length-map (int_variables m.globals) (global_for m) in
    let few = few_variables m.globals in
    let entries = entries_counted m m.tables in
    let w_functions = within.functions in
    let w_calls = within.calls in
    let w_globals = within.globals in
    let w_foreign = within.foreign in
    let w_entries = within.entries in
    record {
      types = types_few m within;
      params = All-from_recursion (λ (t : FunctionType). length t.params ≤ reader.most_params) w.types (params_few (signatures m) (all_few m within));
      functions = omega (arith, functions, own_functions, w_functions, w_calls);
      globals = omega (arith, globals, own_globals, few, w_globals, w_foreign);
      imported_tables = All-from_recursion reader.MayImport w.imports (imports_free m size (foreign_calls m));
      tables = All-from_recursion (λ (l : Limits). l.min ≤ reader.most_entries) w.tables (tables_few m (omega (arith, entries, w_entries)) m.tables);
      locals = All-from_recursion (λ (f : ℕ × FunctionBody). reader.params_of w.types f.0 + length f.1.locals ≤ reader.most_locals) (zip w.functions w.bodies) (all_locals_fit m size m.functions flat (functions_known m));
      body_levels = All-from_recursion (λ (b : FunctionBody). reader.levels b.code ≤ reader.most_levels) w.bodies (bodies_flat m size kept m.functions flat);
      global_levels = All-from_recursion (λ (g : GlobalEntry). reader.levels g.init ≤ reader.most_levels) w.globals (globals_flat m (int_variables m.globals));
      element_levels = All-from_recursion (λ (e : ElementSegment). reader.levels e.offset ≤ reader.most_levels) w.elements (elements_flat m m.tables);
      segment_levels = All-from_recursion _ [] tt;
    }
