-- The laws, from their parts.
use Rattle.std.proofs.Common.{◌≡◌, ℕ, suc, ◌+◌, ◌*◌, ◌^◌, ◌<◌, ◌≤◌, true, List, [], ◌∷◌, ◌++◌, length, map, Option, Some, None, refl, sym, ap, ◌∙◌, subst, arith, length-append}
use Rattle.std.specs.Prelude.{All, slice_get, take, nat_lt}
use Rattle.std.specs.List.{AllByRecursion}
use Rattle.std.proofs.lemmas.Bool.Decides.{nat_tests}
use Rattle.std.proofs.lemmas.List.{length-map}
use Rattle.std.proofs.lemmas.List.Elements.{All-from_recursion, recursion_from_All}
use Rattle.wasm_lang.specs.declared.types.Limits.{Limits}
use Rattle.wasm_lang.specs.declared.types.ValType.TheVariants.{I32}
use Rattle.wasm_lang.specs.Instructions.{Instruction, call, end_mark}
use Rattle.wasm_lang.specs.Modules.{Imported, GlobalEntry, Exported, FunctionBody, WasmModule}
use Rattle.wasm_binary_write.specs.Spelling.{unsigned, items, vector, function_type, imported, instruction, global, exported, element, body, segment, table, limits}
use Rattle.wasm_laws_write.specs.Fits.{FitsU32, InstructionFits, OptionFits, LimitsFit, ImportFits, ExportFits, ElementFits, SegmentFits, BodyFits, NumbersFit, SectionsFit}
use Rattle.wasm_laws_write.specs.Lengths.{IsNarrow}
use Rattle.wasm_laws_write.proofs.Modules.{fitting_are_writable}
use Rattle.wasm_laws_write.proofs.Short.{code_is_short, bodies_are_short, parts_are_short}
use Rattle.wasm_link_lang.specs.Pairs.{Pair, past_first, at_addresses}
use Rattle.wasm_link_lang.specs.Reductions.{entries}
use Rattle.wasm_link_lang.specs.Refusal.{sums_past, least_maximum}
use Rattle.wasm_link_lang.specs.Session.{pages}
use Rattle.wasm_link_code.specs.Laws.{no_bases}
use Rattle.wasm_link_code.specs.Numbers.{number, global_number}
use Rattle.wasm_link_code.specs.Linked.{staying, moved_kind, moved_import, memory_import, linked_imports, linked_functions, linked_start, second_start, start_types, start_bodies, moved_bodies, moved_element, moved_global, moved_exports, either_table, linked}
use Rattle.wasm_link_laws_writable.proofs.Sums.{few_sums}
use Rattle.wasm_link_laws_modules.specs.Laws.{IsLinkable}
use Rattle.wasm_link_laws_modules.proofs.Accepted.{meets_no_row}
use Rattle.wasm_link_laws_modules.proofs.Facts.{imports_kept, functions_kept}
use Rattle.wasm_link_laws_modules.proofs.Law.{valid, whole}
use Rattle.wasm_link_laws_modules.proofs.Sections.{linked_imports_are, linked_functions_are}
use Rattle.wasm_link_laws_writable.specs.Laws.{IsSpelledShort, LinkedIsShaped, LinkedIsWritable}
use Rattle.wasm_link_laws_writable.proofs.Each.{each, all_at, each_append, each_before, each_after, each_of_map}
use Rattle.wasm_link_laws_writable.proofs.Entries.{kind_fits, staying_short, moved_imports_short, memory_short, tables_fit, tables_vector, memories_vector, globals_all_fit, globals_short, exports_all_fit, exports_short, elements_all_fit, elements_short}
use Rattle.wasm_link_laws_writable.proofs.Known.{IsKnown, known, ready_bodies, at_none, global_opcodes, placed, HasNoTable, staying_tables, moved_tables, memory_tables}
use Rattle.wasm_link_laws_writable.proofs.Lengths.{joined_items, types_fit, imports_fit, functions_fit, globals_fit, exports_fit, elements_fit, bodies_fit as sections_fit, segments_fit, few_numbers, some_numbers}
use Rattle.wasm_link_laws_writable.proofs.MovedBodies.{sized_body, bodies_fit, bodies_short}
use Rattle.wasm_link_laws_writable.proofs.Numbers.{number_fits, global_number_fits, last_fits}
use Rattle.wasm_link_laws_writable.proofs.Shaped.{linked_is_shaped}

pub is_shaped : LinkedIsShaped
is_shaped w it p q = linked_is_shaped w it.first.is_valid it.second.is_valid p q (whole w it).bodies_match

-- ---- the start

start_fits : (w : Pair) (a b : Option ℕ) → sums_past w ≡ None → OptionFits (linked_start w a b)
start_fits w None None sums = tt
start_fits w None (Some b) sums = number_fits w b sums
start_fits w (Some a) None sums = number_fits w a sums
start_fits w (Some a) (Some b) sums = last_fits w sums

abbrev calls : Pair → ℕ → ℕ → FunctionBody
calls w a b = record { locals = []; code = call (number w a) ∷ call (number w b) ∷ end_mark ∷ [] }

calls_fit : (w : Pair) (a b : ℕ) → sums_past w ≡ None → AllByRecursion InstructionFits (calls w a b).code
calls_fit w a b sums = (number_fits w a sums, (number_fits w b sums, (tt, tt)))

calls_narrow : (w : Pair) (a b : ℕ) → sums_past w ≡ None → AllByRecursion IsNarrow (calls w a b).code
calls_narrow w a b sums = (number_fits w a sums, (number_fits w b sums, (tt, tt)))

calls_short : (w : Pair) (a b : ℕ) → sums_past w ≡ None → length (sized_body (calls w a b)) ≤ 40
calls_short w a b sums =
    let code = code_is_short (calls w a b).code (All-from_recursion IsNarrow (calls w a b).code (calls_narrow w a b sums)) in
    let whole = bodies_are_short 0 I32 (calls w a b).code (omega arith) in
    let low : length (body (calls w a b)) ≤ 30 = omega (arith, code, whole) in
    let parts = parts_are_short (body (calls w a b)) (omega (arith, low)) in
    omega (arith, low, parts)

start_bodies_fit : (w : Pair) (a b : Option ℕ) → sums_past w ≡ None → AllByRecursion BodyFits (start_bodies w a b)
start_bodies_fit w None None sums = tt
start_bodies_fit w None (Some b) sums = tt
start_bodies_fit w (Some a) None sums = tt
start_bodies_fit w (Some a) (Some b) sums = (record { locals = omega arith; code = All-from_recursion InstructionFits (calls w a b).code (calls_fit w a b sums) }, tt)

start_bodies_short : (w : Pair) (a b : Option ℕ) → sums_past w ≡ None → length (items sized_body (start_bodies w a b)) ≤ 40
start_bodies_short w None None sums = omega arith
start_bodies_short w None (Some b) sums = omega arith
start_bodies_short w (Some a) None sums = omega arith
start_bodies_short w (Some a) (Some b) sums = omega (arith, calls_short w a b sums, length-append (sized_body (calls w a b)) [])

few_starts : (w : Pair) (a b : Option ℕ) → length (start_types w a b) ≤ 1
few_starts w None None = omega arith
few_starts w None (Some b) = omega arith
few_starts w (Some a) None = omega arith
few_starts w (Some a) (Some b) = omega arith

-- ---- the sections

abbrev second_number : Pair → ℕ → ℕ
second_number w f = number w ((past_first w).functions + f)

abbrev second_global : Pair → ℕ → ℕ
second_global w x = global_number w ((past_first w).globals + x)

below_all : (n t : ℕ) → nat_lt t n ≡ true → t < n
below_all n t e = grind (arith, nat_tests)

module _ (w : Pair) (it : IsLinkable w) (p : IsKnown w.first) (q : IsKnown w.second) (sums : sums_past w ≡ None) where
  -- ---- imports

  no_tables : AllByRecursion HasNoTable (linked_imports w)
  no_tables =
      let fronts = staying w.second w.first.imports in
      let moved = map (moved_import (length w.first.types)) (staying w.first w.second.imports) in
      let memory = memory_import (pages w) (least_maximum w) in
      each_append HasNoTable fronts (moved ++ memory) (staying_tables w.second w.first.imports)
      (each_append HasNoTable moved memory (moved_tables (length w.first.types) (staying w.first w.second.imports) (staying_tables w.first w.second.imports)) (memory_tables (pages w) (least_maximum w)))

  few_types : length (linked w).types ≤ 10000
  unfolding linked
  few_types = let few = (few_sums w sums).types in omega (arith, few, length-append w.first.types w.second.types)

  imports_all : AllByRecursion (λ (i : Imported). ImportFits i.kind) (linked_imports w)
  imports_all =
      each (λ (i : Imported). ImportFits i.kind) (linked_imports w)
      (λ k x e. kind_fits (linked w) (take k (linked w).imports) x.kind few_types (all_at HasNoTable (linked_imports w) k x no_tables e)
      (imports_kept (linked w) (valid w it) k x (ap (λ is. slice_get is k) (linked_imports_are w) ∙ e)))

  imports_vector : FitsU32 (length (vector imported (linked_imports w)))
  imports_vector =
      let n = length w.first.types in
      let fronts = staying w.second w.first.imports in
      let stayed = staying w.first w.second.imports in
      let moved = map (moved_import n) stayed in
      let memory = memory_import (pages w) (least_maximum w) in
      let fit = λ (i : Imported). ImportFits i.kind in
      let others = each_after fit fronts (moved ++ memory) imports_all in
      let a = staying_short w.second w.first.imports in
      let b = staying_short w.first w.second.imports in
      let c = moved_imports_short n stayed (each_of_map fit (moved_import n) stayed (each_before fit moved memory others)) in
      let d = memory_short (pages w) (least_maximum w) (each_after fit moved memory others) in
      let e = joined_items imported fronts (moved ++ memory) in
      let f = joined_items imported moved memory in
      let g = p.low.imports in
      let h = q.low.imports in
      imports_fit (linked_imports w) (omega (arith, a, b, c, d, e, f, g, h))

  -- ---- functions

  functions_all : AllByRecursion FitsU32 (linked w).functions
  functions_all =
      each FitsU32 (linked w).functions
      (λ k t e. (let there = below_all (length (linked w).types) t (functions_kept (linked w) (valid w it) k t e) in let few = few_types in omega (arith, there, few)))

  functions_vector : FitsU32 (length (vector unsigned (linked w).functions))
  functions_vector =
      let more = start_types w w.first.start w.second.start in
      let moved = map (λ t. length w.first.types + t) w.second.functions in
      let a = some_numbers w.first.functions in
      let b = some_numbers w.second.functions in
      let c = p.low.functions in
      let d = q.low.functions in
      let e = length-append w.first.functions (moved ++ more) in
      let f = length-append moved more in
      let g : length moved ≡ length w.second.functions = length-map w.second.functions (λ t. length w.first.types + t) in
      let h = few_starts w w.first.start w.second.start in
      let many : length (linked w).functions ≡ length (w.first.functions ++ (moved ++ more)) = ap length (linked_functions_are w) in
      let i = few_numbers (linked w).functions functions_all in
      functions_fit (linked w).functions (omega (arith, a, b, c, d, e, f, g, h, i, many))

  -- ---- the table, and the elements

  few_entries : entries w.first + entries w.second ≤ 1048576
  few_entries = (few_sums w sums).entries

  elements_all : AllByRecursion ElementFits (linked w).elements
  unfolding linked
  elements_all =
      let few = few_entries in
      each_append ElementFits (map (moved_element (number w) 0) w.first.elements) (map (moved_element (second_number w) (entries w.first)) w.second.elements)
      (elements_all_fit (number w) (λ x. number_fits w x sums) 0 (entries w.first) (omega (arith, few)) w.first.elements (placed w.first p))
      (elements_all_fit (second_number w) (λ x. number_fits w ((past_first w).functions + x) sums) (entries w.first) (entries w.second) (omega (arith, few)) w.second.elements (placed w.second q))

  elements_vector : FitsU32 (length (vector element (linked w).elements))
  unfolding linked
  elements_vector =
      let few = few_entries in
      let xs = map (moved_element (number w) 0) w.first.elements in
      let ys = map (moved_element (second_number w) (entries w.first)) w.second.elements in
      let a = elements_short (number w) (λ x. number_fits w x sums) 0 (entries w.first) (omega (arith, few)) w.first.elements (placed w.first p) in
      let b = elements_short (second_number w) (λ x. number_fits w ((past_first w).functions + x) sums) (entries w.first) (entries w.second) (omega (arith, few)) w.second.elements (placed w.second q) in
      let c = joined_items element xs ys in
      let d = p.low.elements in
      let e = q.low.elements in
      elements_fit (xs ++ ys) (omega (arith, a, b, c, d, e))

  -- ---- globals

  globals_all : AllByRecursion (λ (g : GlobalEntry). All InstructionFits g.init) (linked w).globals
  unfolding linked
  globals_all =
      each_append (λ (g : GlobalEntry). All InstructionFits g.init) (map (moved_global (global_number w)) w.first.globals) (map (moved_global (second_global w)) w.second.globals)
      (globals_all_fit (global_number w) (λ x. global_number_fits w x sums) w.first.globals p.told.globals)
      (globals_all_fit (second_global w) (λ x. global_number_fits w ((past_first w).globals + x) sums) w.second.globals q.told.globals)

  globals_vector : FitsU32 (length (vector global (linked w).globals))
  unfolding linked
  globals_vector =
      let xs = map (moved_global (global_number w)) w.first.globals in
      let ys = map (moved_global (second_global w)) w.second.globals in
      let a = globals_short (global_number w) (λ x. global_number_fits w x sums) w.first.globals (global_opcodes w.first p) in
      let b = globals_short (second_global w) (λ x. global_number_fits w ((past_first w).globals + x) sums) w.second.globals (global_opcodes w.second q) in
      let c = joined_items global xs ys in
      let d = p.low.globals in
      let e = q.low.globals in
      globals_fit (xs ++ ys) (omega (arith, a, b, c, d, e))

  -- ---- exports

  exports_all : AllByRecursion (λ (e : Exported). ExportFits e.kind) (linked w).exports
  unfolding linked
  exports_all =
      each_append (λ (e : Exported). ExportFits e.kind) (moved_exports (number w) w.first.exports) (moved_exports (second_number w) w.second.exports)
      (exports_all_fit (number w) (λ x. number_fits w x sums) w.first.exports)
      (exports_all_fit (second_number w) (λ x. number_fits w ((past_first w).functions + x) sums) w.second.exports)

  exports_vector : FitsU32 (length (vector exported (linked w).exports))
  unfolding linked
  exports_vector =
      let xs = moved_exports (number w) w.first.exports in
      let ys = moved_exports (second_number w) w.second.exports in
      let a = exports_short (number w) (λ x. number_fits w x sums) w.first.exports in
      let b = exports_short (second_number w) (λ x. number_fits w ((past_first w).functions + x) sums) w.second.exports in
      let c = joined_items exported xs ys in
      let d = p.low.exports in
      let e = q.low.exports in
      exports_fit (xs ++ ys) (omega (arith, a, b, c, d, e))

  -- ---- bodies

  first_few : no_bases.types + length w.first.types < 2 ^ 32
  first_few = let few = (few_sums w sums).types in omega (arith, few)

  second_few : (past_first w).types + length w.second.types < 2 ^ 32
  second_few = let few = (few_sums w sums).types in omega (arith, few)

  first_fit : AllByRecursion BodyFits (moved_bodies w w.first (entries w.second) 0 w.first.bodies)
  first_fit =
      subst (λ bs. AllByRecursion BodyFits (moved_bodies w w.first (entries w.second) 0 bs)) (at_none w.first.bodies)
      (bodies_fit w w.first no_bases (entries w.second) (length w.first.types) sums first_few 0 w.first.bodies p.room (ready_bodies w.first p))

  first_short : length (items sized_body (moved_bodies w w.first (entries w.second) 0 w.first.bodies)) ≤ 63 * length (items sized_body w.first.bodies)
  first_short =
      subst (λ bs. length (items sized_body (moved_bodies w w.first (entries w.second) 0 bs)) ≤ 63 * length (items sized_body w.first.bodies)) (at_none w.first.bodies)
      (bodies_short w w.first no_bases (entries w.second) (length w.first.types) sums first_few 0 w.first.bodies p.room (ready_bodies w.first p) p.low.bodies)

  second_fit : AllByRecursion BodyFits (moved_bodies w w.second (entries w.first) 0 (at_addresses (past_first w) w.second).bodies)
  second_fit = bodies_fit w w.second (past_first w) (entries w.first) (length w.second.types) sums second_few 0 w.second.bodies q.room (ready_bodies w.second q)

  second_short : length (items sized_body (moved_bodies w w.second (entries w.first) 0 (at_addresses (past_first w) w.second).bodies)) ≤ 63 * length (items sized_body w.second.bodies)
  second_short = bodies_short w w.second (past_first w) (entries w.first) (length w.second.types) sums second_few 0 w.second.bodies q.room (ready_bodies w.second q) q.low.bodies

  bodies_all : AllByRecursion BodyFits (linked w).bodies
  unfolding linked
  bodies_all =
      let starts = start_bodies w w.first.start (second_start w) in
      let others = moved_bodies w w.second (entries w.first) 0 (at_addresses (past_first w) w.second).bodies in
      each_append BodyFits (moved_bodies w w.first (entries w.second) 0 w.first.bodies) (others ++ starts) first_fit
      (each_append BodyFits others starts second_fit (start_bodies_fit w w.first.start (second_start w) sums))

  bodies_vector : FitsU32 (length (vector sized_body (linked w).bodies))
  unfolding linked
  bodies_vector =
      let starts = start_bodies w w.first.start (second_start w) in
      let others = moved_bodies w w.second (entries w.first) 0 (at_addresses (past_first w) w.second).bodies in
      let fronts = moved_bodies w w.first (entries w.second) 0 w.first.bodies in
      let a = first_short in
      let b = second_short in
      let c = start_bodies_short w w.first.start (second_start w) sums in
      let d = joined_items sized_body fronts (others ++ starts) in
      let e = joined_items sized_body others starts in
      let f = p.low.bodies in
      let g = q.low.bodies in
      sections_fit (fronts ++ (others ++ starts)) (omega (arith, a, b, c, d, e, f, g))

  -- ---- types and segments

  types_vector : FitsU32 (length (vector function_type (linked w).types))
  unfolding linked
  types_vector =
      let a = joined_items function_type w.first.types w.second.types in
      let b = p.low.types in
      let c = q.low.types in
      types_fit (w.first.types ++ w.second.types) (omega (arith, a, b, c))

  segments_all : AllByRecursion SegmentFits (linked w).segments
  unfolding linked
  segments_all = each_append SegmentFits w.first.segments w.second.segments p.told.segments q.told.segments

  segments_vector : FitsU32 (length (vector segment (linked w).segments))
  unfolding linked
  segments_vector =
      let a = joined_items segment w.first.segments w.second.segments in
      let b = p.low.segments in
      let c = q.low.segments in
      segments_fit (w.first.segments ++ w.second.segments) (omega (arith, a, b, c))

  -- ---- the whole

  tables_all : AllByRecursion LimitsFit (linked w).tables
  unfolding linked
  tables_all = tables_fit w.first.tables w.second.tables (entries w.first + entries w.second) few_entries

  tables_low : FitsU32 (length (vector table (linked w).tables))
  unfolding linked
  tables_low = tables_vector w.first.tables w.second.tables (entries w.first + entries w.second) few_entries

  memories_all : AllByRecursion LimitsFit (linked w).memories
  unfolding linked
  memories_all = tt

  memories_low : FitsU32 (length (vector limits (linked w).memories))
  unfolding linked
  memories_low = memories_vector

  start_all : OptionFits (linked w).start
  unfolding linked
  start_all = start_fits w w.first.start (second_start w) sums

  numbers_fit : NumbersFit (linked w)
  numbers_fit = record {
    imports = All-from_recursion (λ (i : Imported). ImportFits i.kind) (linked w).imports (subst (AllByRecursion (λ (i : Imported). ImportFits i.kind)) (sym (linked_imports_are w)) imports_all);
    functions = All-from_recursion FitsU32 (linked w).functions functions_all;
    tables = All-from_recursion LimitsFit (linked w).tables tables_all;
    memories = All-from_recursion LimitsFit (linked w).memories memories_all;
    globals = All-from_recursion (λ (g : GlobalEntry). All InstructionFits g.init) (linked w).globals globals_all;
    exports = All-from_recursion (λ (e : Exported). ExportFits e.kind) (linked w).exports exports_all;
    start = start_all;
    elements = All-from_recursion ElementFits (linked w).elements elements_all;
    bodies = All-from_recursion BodyFits (linked w).bodies bodies_all;
    segments = All-from_recursion SegmentFits (linked w).segments segments_all;
  }

  pub sections_low : SectionsFit (linked w)
  sections_low = record {
    types = types_vector;
    imports = subst (λ is. FitsU32 (length (vector imported is))) (sym (linked_imports_are w)) imports_vector;
    functions = functions_vector;
    tables = tables_low;
    memories = memories_low;
    globals = globals_vector;
    exports = exports_vector;
    elements = elements_vector;
    bodies = bodies_vector;
    segments = segments_vector;
  }

pub is_writable : LinkedIsWritable
is_writable w it s t =
    let rows = meets_no_row w it.not_refused in
    let p = known w.first s it.first.is_valid rows.first_profile rows.first_locals in
    let q = known w.second t it.second.is_valid rows.second_profile rows.second_locals in
    fitting_are_writable (linked w) (is_shaped w it p.shaped q.shaped) (numbers_fit w it p q rows.sums) (sections_low w it p q rows.sums)
