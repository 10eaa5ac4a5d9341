-- The two laws of whole modules.
use Rattle.std.proofs.Common.{◌≡◌, ℕ, ◌+◌, ◌<◌, ◌≤◌, true, List, [], ◌∷◌, ◌++◌, length, Option, Some, None, refl, sym, ap, ◌∙◌, subst, arith}
use Rattle.std.specs.Prelude.{Ok, All}
use Rattle.std.specs.List.{AllByRecursion, zip}
use Rattle.std.proofs.lemmas.List.Elements.{All-from_recursion, recursion_from_All}
use Rattle.std.proofs.lemmas.Bool.{eqb-true, eq-eqb}
use Rattle.wasm_lang.specs.declared.fault.Row.TheVariants.{Magic, Version, SectionSize, Counts}
use Rattle.wasm_lang.specs.declared.types.Limits.{Limits}
use Rattle.wasm_lang.specs.Modules.{FunctionType, Imported, GlobalEntry, Exported, ElementSegment, DataSegment, FunctionBody, WasmModule}
use Rattle.wasm_lang.specs.Numbers.{IsU32}
use Rattle.wasm_lang.specs.Limits.{most_types, most_functions, most_params, most_locals, most_levels, most_globals, most_entries, function_imports, global_imports, params_of, levels, MayImport, IsWithinReader}
use Rattle.wasm_lang.specs.Grammar.{IsVec, IsSized, IsFunctionType, IsImport, IsTable, IsLimits, IsGlobal, IsExport, IsElement, IsFunctionBody, IsSegment, IsCustoms, no_custom, header, IsModuleBytes}
use Rattle.wasm_lang.specs.Grammar as grammar
use Rattle.wasm_lang.specs.Reading.{Input, u32, onto, items_field, vec_field}
use Rattle.wasm_lang.specs.ReadingModule.{function_type_field, table_field, memory_field, global_field, export_field, element_field, segment_field, types_content, imports_content, functions_content, globals_content, bodies_content, counts, segments_content, end_field, read_module}
use Rattle.wasm_lang.proofs.ReadingLaws.{from, leaves, Gives, Only, ok_gives, bind_gives, expects_gives, ok_only, bind_only, expects_only, weaker_only, u32_gives, u32_only, items_gives, items_only, vec_gives, vec_of, vec_only}
use Rattle.wasm_lang.proofs.ReadingLawsTypes.{all_are, counted_gives, counted_only, function_type_gives, function_type_only, memory_gives, memory_only, table_gives, table_only}
use Rattle.wasm_lang.proofs.ReadingLawsEntries.{imports_gives, imports_only, global_gives, global_only, export_gives, export_only, numbers_gives, numbers_only, element_gives, element_only, segment_gives, segment_only, BodiesFit, bodies_gives, bodies_only, params_within}
use Rattle.wasm_lang.proofs.ReadingLawsSections.{IsSome, Comes, section_part, part_section, number_part, part_number, part_comes, part_then, part_only, number_gives, number_only, header_only, last_gives, last_only, rest_is}

-- ---- contents of sections

types_gives : (ts : List FunctionType) (bs : List ℕ) (at : ℕ) → length ts ≤ most_types → AllByRecursion (λ t. length t.params ≤ most_params) ts → IsVec IsFunctionType ts bs [] → Gives (types_content (from at bs)) (leaves ts [])
types_gives ts bs at le q v = counted_gives 0 most_types function_type_field (λ t xs ys at q h. function_type_gives t xs ys at q h) (omega (arith, le)) q v at

abbrev TypesFit : List FunctionType → Type 0
TypesFit ts = AllByRecursion (λ t. length t.params ≤ most_params) ts × (0 + length ts ≤ most_types)

types_only : (i : Input) → Only (types_content i) (λ x. IsVec IsFunctionType x.0 i.bytes x.1.bytes × TypesFit x.0)
types_only i = weaker_only (counted_only 0 most_types function_type_field function_type_only i) (λ x p. (p.0, (p.1, p.2)))

abbrev ImportsFit : List Imported → Type 0
ImportsFit is = (0 + function_imports is ≤ most_functions) × (0 + global_imports is ≤ most_globals) × AllByRecursion MayImport is

import_content_gives : (is : List Imported) (bs : List ℕ) (at : ℕ) → ImportsFit is → IsVec IsImport is bs [] → Gives (imports_content (from at bs)) (leaves is [])
import_content_gives is bs at f v = bind_gives _ (u32_gives SectionSize at v.count) (λ at. imports_gives is 0 0 v.after_count [] f.0 f.1 f.2 v.items at)

import_content_only : (i : Input) → Only (imports_content i) (λ x. IsVec IsImport x.0 i.bytes x.1.bytes × ImportsFit x.0)
import_content_only i =
    bind_only _ (u32_only SectionSize i) (λ n c.
    weaker_only (imports_only 0 0 n.0 n.1 (let l : 0 ≤ most_functions = omega arith in l) (let l : 0 ≤ most_globals = omega arith in l)) (λ x p.
    (vec_of c p.0 p.1, (p.2, p.3, p.4))))

functions_gives : (is : List Imported) (fs : List ℕ) (bs : List ℕ) (at : ℕ) → function_imports is + length fs ≤ most_functions → IsVec IsU32 fs bs [] → Gives (functions_content is (from at bs)) (leaves fs [])
functions_gives is fs bs at le v = counted_gives (function_imports is) most_functions u32 numbers_gives le (all_are fs) v at

functions_only : (is : List Imported) (i : Input) → Only (functions_content is i) (λ x. IsVec IsU32 x.0 i.bytes x.1.bytes × (function_imports is + length x.0 ≤ most_functions))
functions_only is i = weaker_only (counted_only (function_imports is) most_functions u32 numbers_only i) (λ x p. (p.0, p.2))

abbrev GlobalsFit : List Imported → List GlobalEntry → Type 0
GlobalsFit is gs = (global_imports is + length gs ≤ most_globals) × AllByRecursion (λ g. levels g.init ≤ most_levels) gs

globals_gives : (is : List Imported) (gs : List GlobalEntry) (bs : List ℕ) (at : ℕ) → GlobalsFit is gs → IsVec IsGlobal gs bs [] → Gives (globals_content is (from at bs)) (leaves gs [])
globals_gives is gs bs at f v = counted_gives (global_imports is) most_globals global_field (λ g xs ys at q h. global_gives g xs ys at q h) f.0 f.1 v at

globals_only : (is : List Imported) (i : Input) → Only (globals_content is i) (λ x. IsVec IsGlobal x.0 i.bytes x.1.bytes × GlobalsFit is x.0)
globals_only is i = weaker_only (counted_only (global_imports is) most_globals global_field global_only i) (λ x p. (p.0, (p.2, p.1)))

tables_gives : (ls : List Limits) (bs : List ℕ) (at : ℕ) → AllByRecursion (λ l. l.min ≤ most_entries) ls → IsVec IsTable ls bs [] → Gives (vec_field table_field (from at bs)) (leaves ls [])
tables_gives ls bs at q v = vec_gives table_field (λ l xs ys at q h. table_gives l xs ys at q h) q v at

memories_gives : (ls : List Limits) (bs : List ℕ) (at : ℕ) → IsVec IsLimits ls bs [] → Gives (vec_field memory_field (from at bs)) (leaves ls [])
memories_gives ls bs at v = vec_gives memory_field (λ l xs ys at q h. memory_gives l xs ys at h) (all_are ls) v at

exports_gives : (es : List Exported) (bs : List ℕ) (at : ℕ) → IsVec IsExport es bs [] → Gives (vec_field export_field (from at bs)) (leaves es [])
exports_gives es bs at v = vec_gives export_field (λ l xs ys at q h. export_gives l xs ys at h) (all_are es) v at

elements_gives : (es : List ElementSegment) (bs : List ℕ) (at : ℕ) → AllByRecursion (λ e. levels e.offset ≤ most_levels) es → IsVec IsElement es bs [] → Gives (vec_field element_field (from at bs)) (leaves es [])
elements_gives es bs at q v = vec_gives element_field (λ l xs ys at q h. element_gives l xs ys at q h) q v at

body_content_gives : (types : List FunctionType) (fs : List ℕ) (ds : List FunctionBody) (bs : List ℕ) (at : ℕ) → length fs ≡ length ds → BodiesFit types (zip fs ds) → IsVec (IsSized IsFunctionBody) ds bs [] → Gives (bodies_content types fs (from at bs)) (leaves ds [])
body_content_gives types fs ds bs at e f v =
    bind_gives _ (u32_gives SectionSize at v.count) (λ k.
    expects_gives Counts at _ (eq-eqb (length ds) (length fs) (sym e)) (bodies_gives types fs ds v.after_count [] e f v.items k))

body_content_only : (types : List FunctionType) (fs : List ℕ) → ((t : ℕ) → params_of types t ≤ most_locals) → (i : Input)
    → Only (bodies_content types fs i) (λ x. IsVec (IsSized IsFunctionBody) x.0 i.bytes x.1.bytes × BodiesFit types (zip fs x.0))
body_content_only types fs le i =
    bind_only _ (u32_only SectionSize i) (λ n c.
    expects_only Counts i.at _ (λ t.
    weaker_only (bodies_only types le fs n.1) (λ x p.
    (vec_of c (sym p.0 ∙ sym (eqb-true n.0 (length fs) t)) p.1, p.2))))

counts_are : (c : Option ℕ) (n : ℕ) → grammar.Counts c n → counts c n ≡ true
counts_are None n h = refl
counts_are (Some c) n h = eq-eqb c n h

are_counts : (c : Option ℕ) (n : ℕ) → counts c n ≡ true → grammar.Counts c n
are_counts None n h = tt
are_counts (Some c) n h = eqb-true c n h

segments_gives : (c : Option ℕ) (ss : List DataSegment) (bs : List ℕ) (at : ℕ) → grammar.Counts c (length ss) → AllByRecursion (λ s. levels s.offset ≤ most_levels) ss → IsVec IsSegment ss bs [] → Gives (segments_content c (from at bs)) (leaves ss [])
segments_gives c ss bs at e q v =
    bind_gives _ (u32_gives SectionSize at v.count) (λ k.
    expects_gives Counts at _ (counts_are c (length ss) e) (items_gives segment_field (λ l xs ys at q h. segment_gives l xs ys at q h) ss v.after_count [] q v.items k))

segments_only : (c : Option ℕ) (i : Input) → Only (segments_content c i) (λ x. IsVec IsSegment x.0 i.bytes x.1.bytes × AllByRecursion (λ s. levels s.offset ≤ most_levels) x.0)
segments_only c i =
    bind_only _ (u32_only SectionSize i) (λ n u.
    expects_only {c = counts c n.0} Counts i.at (λ u. items_field segment_field n.0 n.1) (λ t.
    weaker_only (items_only segment_field segment_only n.0 n.1) (λ x p. (vec_of u p.0 p.1, p.2))))

-- ---- limits of bodies

bodies_fit : (types : List FunctionType) (fs : List ℕ) (bs : List FunctionBody) → AllByRecursion (λ f. params_of types f.0 + length f.1.locals ≤ most_locals) (zip fs bs) → AllByRecursion (λ b. levels b.code ≤ most_levels) bs → BodiesFit types (zip fs bs)
bodies_fit types [] bs p q = tt
bodies_fit types (f ∷ fs) [] p q = tt
bodies_fit types (f ∷ fs) (b ∷ bs) p q = ((p.0, q.0), bodies_fit types fs bs p.1 q.1)

locals_fit : (types : List FunctionType) (fs : List ℕ) (bs : List FunctionBody) → BodiesFit types (zip fs bs) → AllByRecursion (λ f. params_of types f.0 + length f.1.locals ≤ most_locals) (zip fs bs)
locals_fit types [] bs p = tt
locals_fit types (f ∷ fs) [] p = tt
locals_fit types (f ∷ fs) (b ∷ bs) p = (p.0.0, locals_fit types fs bs p.1)

levels_fit : (types : List FunctionType) (fs : List ℕ) (bs : List FunctionBody) → length fs ≡ length bs → BodiesFit types (zip fs bs) → AllByRecursion (λ b. levels b.code ≤ most_levels) bs
levels_fit types fs [] e p = tt
levels_fit types [] (b ∷ bs) e p = let n : 0 ≡ length (b ∷ bs) = e in absurd (omega arith)
levels_fit types (f ∷ fs) (b ∷ bs) e p = (p.0.1, levels_fit types fs bs (let n : length (f ∷ fs) ≡ length (b ∷ bs) = e in omega arith) p.1)

-- ---- what is spelled is read

-- what comes after each section
pub record Comings {bytes : List ℕ} {m : WasmModule} (b : IsModuleBytes bytes m) : Type 0 where
  pub after_types : Comes (2 ∷ 3 ∷ 4 ∷ 5 ∷ 6 ∷ 7 ∷ 8 ∷ 9 ∷ 12 ∷ 10 ∷ 11 ∷ []) b.after_types
  pub after_imports : Comes (3 ∷ 4 ∷ 5 ∷ 6 ∷ 7 ∷ 8 ∷ 9 ∷ 12 ∷ 10 ∷ 11 ∷ []) b.after_imports
  pub after_functions : Comes (4 ∷ 5 ∷ 6 ∷ 7 ∷ 8 ∷ 9 ∷ 12 ∷ 10 ∷ 11 ∷ []) b.after_functions
  pub after_tables : Comes (5 ∷ 6 ∷ 7 ∷ 8 ∷ 9 ∷ 12 ∷ 10 ∷ 11 ∷ []) b.after_tables
  pub after_memories : Comes (6 ∷ 7 ∷ 8 ∷ 9 ∷ 12 ∷ 10 ∷ 11 ∷ []) b.after_memories
  pub after_globals : Comes (7 ∷ 8 ∷ 9 ∷ 12 ∷ 10 ∷ 11 ∷ []) b.after_globals
  pub after_exports : Comes (8 ∷ 9 ∷ 12 ∷ 10 ∷ 11 ∷ []) b.after_exports
  pub after_start : Comes (9 ∷ 12 ∷ 10 ∷ 11 ∷ []) b.after_start
  pub after_elements : Comes (12 ∷ 10 ∷ 11 ∷ []) b.after_elements
  pub after_data_count : Comes (10 ∷ 11 ∷ []) b.after_data_count
  pub after_bodies : Comes (11 ∷ []) b.after_bodies
  pub after_segments : Comes [] b.after_segments

pub comings : (bytes : List ℕ) (m : WasmModule) (b : IsModuleBytes bytes m) → Comings b
comings bytes m b =
    let s11 : Comes [] b.after_segments = ([], b.ends, refl) in
    let s10 : Comes (11 ∷ []) b.after_bodies = part_comes 11 (IsVec IsSegment) [] m.segments b.after_bodies b.after_segments [] (section_part b.segments) s11 in
    let s12 : Comes (10 ∷ 11 ∷ []) b.after_data_count = part_comes 10 (IsVec (IsSized IsFunctionBody)) [] m.bodies b.after_data_count b.after_bodies (11 ∷ []) (section_part b.bodies) s10 in
    let s9 : Comes (12 ∷ 10 ∷ 11 ∷ []) b.after_elements = part_comes 12 (IsSome) None b.data_count b.after_elements b.after_data_count (10 ∷ 11 ∷ []) (number_part b.data_count_section) s12 in
    let s8 : Comes (9 ∷ 12 ∷ 10 ∷ 11 ∷ []) b.after_start = part_comes 9 (IsVec IsElement) [] m.elements b.after_start b.after_elements (12 ∷ 10 ∷ 11 ∷ []) (section_part b.elements) s9 in
    let s7 : Comes (8 ∷ 9 ∷ 12 ∷ 10 ∷ 11 ∷ []) b.after_exports = part_comes 8 (IsSome) None m.start b.after_exports b.after_start (9 ∷ 12 ∷ 10 ∷ 11 ∷ []) (number_part b.start) s8 in
    let s6 : Comes (7 ∷ 8 ∷ 9 ∷ 12 ∷ 10 ∷ 11 ∷ []) b.after_globals = part_comes 7 (IsVec IsExport) [] m.exports b.after_globals b.after_exports (8 ∷ 9 ∷ 12 ∷ 10 ∷ 11 ∷ []) (section_part b.exports) s7 in
    let s5 : Comes (6 ∷ 7 ∷ 8 ∷ 9 ∷ 12 ∷ 10 ∷ 11 ∷ []) b.after_memories = part_comes 6 (IsVec IsGlobal) [] m.globals b.after_memories b.after_globals (7 ∷ 8 ∷ 9 ∷ 12 ∷ 10 ∷ 11 ∷ []) (section_part b.globals) s6 in
    let s4 : Comes (5 ∷ 6 ∷ 7 ∷ 8 ∷ 9 ∷ 12 ∷ 10 ∷ 11 ∷ []) b.after_tables = part_comes 5 (IsVec IsLimits) [] m.memories b.after_tables b.after_memories (6 ∷ 7 ∷ 8 ∷ 9 ∷ 12 ∷ 10 ∷ 11 ∷ []) (section_part b.memories) s5 in
    let s3 : Comes (4 ∷ 5 ∷ 6 ∷ 7 ∷ 8 ∷ 9 ∷ 12 ∷ 10 ∷ 11 ∷ []) b.after_functions = part_comes 4 (IsVec IsTable) [] m.tables b.after_functions b.after_tables (5 ∷ 6 ∷ 7 ∷ 8 ∷ 9 ∷ 12 ∷ 10 ∷ 11 ∷ []) (section_part b.tables) s4 in
    let s2 : Comes (3 ∷ 4 ∷ 5 ∷ 6 ∷ 7 ∷ 8 ∷ 9 ∷ 12 ∷ 10 ∷ 11 ∷ []) b.after_imports = part_comes 3 (IsVec IsU32) [] m.functions b.after_imports b.after_functions (4 ∷ 5 ∷ 6 ∷ 7 ∷ 8 ∷ 9 ∷ 12 ∷ 10 ∷ 11 ∷ []) (section_part b.functions) s3 in
    let s1 : Comes (2 ∷ 3 ∷ 4 ∷ 5 ∷ 6 ∷ 7 ∷ 8 ∷ 9 ∷ 12 ∷ 10 ∷ 11 ∷ []) b.after_types = part_comes 2 (IsVec IsImport) [] m.imports b.after_types b.after_imports (3 ∷ 4 ∷ 5 ∷ 6 ∷ 7 ∷ 8 ∷ 9 ∷ 12 ∷ 10 ∷ 11 ∷ []) (section_part b.imports) s2 in
    record { after_types = s1; after_imports = s2; after_functions = s3; after_tables = s4; after_memories = s5; after_globals = s6; after_exports = s7; after_start = s8; after_elements = s9; after_data_count = s12; after_bodies = s10; after_segments = s11 }

imports_fit : (m : WasmModule) → IsWithinReader m → ImportsFit m.imports
imports_fit m w = ((let l = w.functions in omega (arith, l)), (let l = w.globals in omega (arith, l)), recursion_from_All _ m.imports w.imported_tables)

reads : (bytes : List ℕ) (m : WasmModule) (b : IsModuleBytes bytes m) → IsWithinReader m → Comings b → Gives (read_module (header ++ b.after_header)) (λ at. m)
unfolding read_module
reads bytes m b w s =
    part_then {P = IsVec IsFunctionType} {absent = []} {v = m.types} {xs = b.after_header} {ys = b.after_types} {rs = b.after_header} 1 (2 ∷ 3 ∷ 4 ∷ 5 ∷ 6 ∷ 7 ∷ 8 ∷ 9 ∷ 12 ∷ 10 ∷ 11 ∷ []) types_content _ refl refl refl (λ bs at v. types_gives m.types bs at w.types (recursion_from_All _ m.types w.params) v) (section_part b.types) no_custom s.after_types 8 (λ q1 c1 at.
    part_then {P = IsVec IsImport} {absent = []} {v = m.imports} {xs = b.after_types} {ys = b.after_imports} {rs = q1} 2 (3 ∷ 4 ∷ 5 ∷ 6 ∷ 7 ∷ 8 ∷ 9 ∷ 12 ∷ 10 ∷ 11 ∷ []) imports_content _ refl refl refl (λ bs at v. import_content_gives m.imports bs at (imports_fit m w) v) (section_part b.imports) c1 s.after_imports at (λ q2 c2 at.
    part_then {P = IsVec IsU32} {absent = []} {v = m.functions} {xs = b.after_imports} {ys = b.after_functions} {rs = q2} 3 (4 ∷ 5 ∷ 6 ∷ 7 ∷ 8 ∷ 9 ∷ 12 ∷ 10 ∷ 11 ∷ []) (functions_content m.imports) _ refl refl refl (λ bs at v. functions_gives m.imports m.functions bs at w.functions v) (section_part b.functions) c2 s.after_functions at (λ q3 c3 at.
    part_then {P = IsVec IsTable} {absent = []} {v = m.tables} {xs = b.after_functions} {ys = b.after_tables} {rs = q3} 4 (5 ∷ 6 ∷ 7 ∷ 8 ∷ 9 ∷ 12 ∷ 10 ∷ 11 ∷ []) (vec_field table_field) _ refl refl refl (λ bs at v. tables_gives m.tables bs at (recursion_from_All _ m.tables w.tables) v) (section_part b.tables) c3 s.after_tables at (λ q4 c4 at.
    part_then {P = IsVec IsLimits} {absent = []} {v = m.memories} {xs = b.after_tables} {ys = b.after_memories} {rs = q4} 5 (6 ∷ 7 ∷ 8 ∷ 9 ∷ 12 ∷ 10 ∷ 11 ∷ []) (vec_field memory_field) _ refl refl refl (λ bs at v. memories_gives m.memories bs at v) (section_part b.memories) c4 s.after_memories at (λ q5 c5 at.
    part_then {P = IsVec IsGlobal} {absent = []} {v = m.globals} {xs = b.after_memories} {ys = b.after_globals} {rs = q5} 6 (7 ∷ 8 ∷ 9 ∷ 12 ∷ 10 ∷ 11 ∷ []) (globals_content m.imports) _ refl refl refl (λ bs at v. globals_gives m.imports m.globals bs at (w.globals, recursion_from_All _ m.globals w.global_levels) v) (section_part b.globals) c5 s.after_globals at (λ q6 c6 at.
    part_then {P = IsVec IsExport} {absent = []} {v = m.exports} {xs = b.after_globals} {ys = b.after_exports} {rs = q6} 7 (8 ∷ 9 ∷ 12 ∷ 10 ∷ 11 ∷ []) (vec_field export_field) _ refl refl refl (λ bs at v. exports_gives m.exports bs at v) (section_part b.exports) c6 s.after_exports at (λ q7 c7 at.
    part_then {P = IsSome} {absent = None} {v = m.start} {xs = b.after_exports} {ys = b.after_start} {rs = q7} 8 (9 ∷ 12 ∷ 10 ∷ 11 ∷ []) (λ i. onto Some (u32 i)) _ refl refl refl (λ bs at v. number_gives m.start bs at v) (number_part b.start) c7 s.after_start at (λ q8 c8 at.
    part_then {P = IsVec IsElement} {absent = []} {v = m.elements} {xs = b.after_start} {ys = b.after_elements} {rs = q8} 9 (12 ∷ 10 ∷ 11 ∷ []) (vec_field element_field) _ refl refl refl (λ bs at v. elements_gives m.elements bs at (recursion_from_All _ m.elements w.element_levels) v) (section_part b.elements) c8 s.after_elements at (λ q9 c9 at.
    part_then {P = IsSome} {absent = None} {v = b.data_count} {xs = b.after_elements} {ys = b.after_data_count} {rs = q9} 12 (10 ∷ 11 ∷ []) (λ i. onto Some (u32 i)) _ refl refl refl (λ bs at v. number_gives b.data_count bs at v) (number_part b.data_count_section) c9 s.after_data_count at (λ q12 c12 at.
    part_then {P = IsVec (IsSized IsFunctionBody)} {absent = []} {v = m.bodies} {xs = b.after_data_count} {ys = b.after_bodies} {rs = q12} 10 (11 ∷ []) (bodies_content m.types m.functions) _ refl refl refl (λ bs at v. body_content_gives m.types m.functions m.bodies bs at b.bodies_match (bodies_fit m.types m.functions m.bodies (recursion_from_All _ (zip m.functions m.bodies) w.locals) (recursion_from_All _ m.bodies w.body_levels)) v) (section_part b.bodies) c12 s.after_bodies at (λ q10 c10 at.
    part_then {P = IsVec IsSegment} {absent = []} {v = m.segments} {xs = b.after_bodies} {ys = b.after_segments} {rs = q10} 11 [] (segments_content b.data_count) _ refl refl refl (λ bs at v. segments_gives b.data_count m.segments bs at b.segments_match (recursion_from_All _ m.segments w.segment_levels) v) (section_part b.segments) c10 s.after_segments at (λ q11 c11 at.
    bind_gives _ (last_gives q11 at (rest_is c11 b.ends)) (λ at.
    expects_gives Counts at _ (eq-eqb (length m.bodies) (length m.functions) (sym b.bodies_match))
    (expects_gives {c = counts b.data_count (length m.segments)} Counts at _ (counts_are b.data_count (length m.segments) b.segments_match) (ok_gives at))
    )))))))))))))

pub reads_what_is_spelled : (bytes : List ℕ) (m : WasmModule) → IsModuleBytes bytes m → IsWithinReader m → read_module bytes ≡ Ok m
reads_what_is_spelled bytes m b w = ap read_module b.begins ∙ (reads bytes m b w (comings bytes m b)).is

-- ---- and only that

end_only : (i : Input) → Only (end_field i) (λ at. i.bytes ≡ [])
end_only i = record { holds = by i.bytes }
  where
    by : (bytes : List ℕ) (at : ℕ) → end_field (from i.at bytes) ≡ Ok at → bytes ≡ []
    by [] at q = refl
    by (b ∷ bs) at q = cc

none_fit : (types : List FunctionType) (fs : List ℕ) → BodiesFit types (zip fs [])
none_fit types [] = tt
none_fit types (f ∷ fs) = tt

abbrev IsRead : List ℕ → WasmModule → Type 0
IsRead bytes m = IsModuleBytes bytes m × IsWithinReader m

only : (bytes : List ℕ) → All (λ b. b < 256) bytes → Only (read_module bytes) (IsRead bytes)
unfolding read_module
only bytes all =
    bind_only _ (header_only Magic (0x00 ∷ 0x61 ∷ 0x73 ∷ 0x6d ∷ []) (from 0 bytes)) (λ h h1.
    bind_only _ (header_only Version (0x01 ∷ 0x00 ∷ 0x00 ∷ 0x00 ∷ []) h) (λ i h2.
    bind_only _ (part_only (IsVec IsFunctionType) TypesFit [] 1 types_content (tt, (let l : 0 + 0 ≤ most_types = omega arith in l)) types_only i) (λ types p1.
    bind_only _ (part_only (IsVec IsImport) ImportsFit [] 2 imports_content ((let l : 0 + 0 ≤ most_functions = omega arith in l), (let l : 0 + 0 ≤ most_globals = omega arith in l), tt) import_content_only types.1) (λ is p2.
    bind_only _ (part_only (IsVec IsU32) (λ fs. function_imports is.0 + length fs ≤ most_functions) [] 3 (functions_content is.0) (let l = p2.1.0 in omega (arith, l)) (functions_only is.0) is.1) (λ functions p3.
    bind_only _ (part_only (IsVec IsTable) (λ ls. AllByRecursion (λ l. l.min ≤ most_entries) ls) [] 4 (vec_field table_field) tt (vec_only table_field table_only) functions.1) (λ tables p4.
    bind_only _ (part_only (IsVec IsLimits) (λ ls. AllByRecursion (λ l. Unit {0}) ls) [] 5 (vec_field memory_field) tt (vec_only memory_field (λ i. weaker_only (memory_only i) (λ x h. (h, tt)))) tables.1) (λ memories p5.
    bind_only _ (part_only (IsVec IsGlobal) (GlobalsFit is.0) [] 6 (globals_content is.0) ((let l = p2.1.1 in omega (arith, l)), tt) (globals_only is.0) memories.1) (λ globals p6.
    bind_only _ (part_only (IsVec IsExport) (λ es. AllByRecursion (λ e. Unit {0}) es) [] 7 (vec_field export_field) tt (vec_only export_field (λ i. weaker_only (export_only i) (λ x h. (h, tt)))) globals.1) (λ es p7.
    bind_only _ (part_only IsSome (λ n. Unit {0}) None 8 (λ i. onto Some (u32 i)) tt number_only es.1) (λ start p8.
    bind_only _ (part_only (IsVec IsElement) (λ es. AllByRecursion (λ e. levels e.offset ≤ most_levels) es) [] 9 (vec_field element_field) tt (vec_only element_field element_only) start.1) (λ elements p9.
    bind_only _ (part_only IsSome (λ n. Unit {0}) None 12 (λ i. onto Some (u32 i)) tt number_only elements.1) (λ count p12.
    bind_only _ (part_only (IsVec (IsSized IsFunctionBody)) (λ bs. BodiesFit types.0 (zip functions.0 bs)) [] 10 (bodies_content types.0 functions.0) (none_fit types.0 functions.0) (body_content_only types.0 functions.0 (params_within types.0 p1.1.0)) count.1) (λ bodies p10.
    bind_only _ (part_only (IsVec IsSegment) (λ ss. AllByRecursion (λ s. levels s.offset ≤ most_levels) ss) [] 11 (segments_content count.0) tt (segments_only count.0) bodies.1) (λ segments p11.
    bind_only _ (last_only segments.1) (λ last c.
    bind_only _ (end_only last) (λ at e.
    expects_only Counts at _ (λ t.
    expects_only {c = counts count.0 (length segments.0)} Counts at _ (λ u.
    let matched : length functions.0 ≡ length bodies.0 = sym (eqb-true (length bodies.0) (length functions.0) t) in
    ok_only (
      record {
        after_header = i.bytes;
        after_types = types.1.bytes;
        after_imports = is.1.bytes;
        after_functions = functions.1.bytes;
        after_tables = tables.1.bytes;
        after_memories = memories.1.bytes;
        after_globals = globals.1.bytes;
        after_exports = es.1.bytes;
        after_start = start.1.bytes;
        after_elements = elements.1.bytes;
        after_data_count = count.1.bytes;
        after_bodies = bodies.1.bytes;
        after_segments = segments.1.bytes;
        data_count = count.0;
        are_bytes = all;
        begins = h1 ∙ ap (λ l. 0x00 ∷ 0x61 ∷ 0x73 ∷ 0x6d ∷ l) h2;
        types = part_section 1 IsFunctionType types.0 i.bytes types.1.bytes p1.0;
        imports = part_section 2 IsImport is.0 types.1.bytes is.1.bytes p2.0;
        functions = part_section 3 IsU32 functions.0 is.1.bytes functions.1.bytes p3.0;
        tables = part_section 4 IsTable tables.0 functions.1.bytes tables.1.bytes p4.0;
        memories = part_section 5 IsLimits memories.0 tables.1.bytes memories.1.bytes p5.0;
        globals = part_section 6 IsGlobal globals.0 memories.1.bytes globals.1.bytes p6.0;
        exports = part_section 7 IsExport es.0 globals.1.bytes es.1.bytes p7.0;
        start = part_number 8 start.0 es.1.bytes start.1.bytes p8.0;
        elements = part_section 9 IsElement elements.0 start.1.bytes elements.1.bytes p9.0;
        data_count_section = part_number 12 count.0 elements.1.bytes count.1.bytes p12.0;
        bodies = part_section 10 (IsSized IsFunctionBody) bodies.0 count.1.bytes bodies.1.bytes p10.0;
        segments = part_section 11 IsSegment segments.0 bodies.1.bytes segments.1.bytes p11.0;
        ends = subst (λ l. IsCustoms segments.1.bytes l) e c;
        bodies_match = matched;
        segments_match = are_counts count.0 (length segments.0) u;
      },
      record {
        types = (let l = p1.1.1 in omega (arith, l));
        params = All-from_recursion _ types.0 p1.1.0;
        functions = p3.1;
        globals = p6.1.0;
        imported_tables = All-from_recursion _ is.0 p2.1.2;
        tables = All-from_recursion _ tables.0 p4.1;
        locals = All-from_recursion _ (zip functions.0 bodies.0) (locals_fit types.0 functions.0 bodies.0 p10.1);
        body_levels = All-from_recursion _ bodies.0 (levels_fit types.0 functions.0 bodies.0 matched p10.1);
        global_levels = All-from_recursion _ globals.0 p6.1.1;
        element_levels = All-from_recursion _ elements.0 p9.1;
        segment_levels = All-from_recursion _ segments.0 p11.1;
      },
    )))))))))))))))))))

pub spelled_as_read : (bytes : List ℕ) (m : WasmModule) → All (λ b. b < 256) bytes → read_module bytes ≡ Ok m → IsModuleBytes bytes m × IsWithinReader m
spelled_as_read bytes m all q = (only bytes all).holds m q
