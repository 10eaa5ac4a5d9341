-- What the code makes of two valid modules that can be linked is the linked module.
use Rattle.std.proofs.Common.{◌≡◌, ℕ, zero, suc, ◌+◌, ◌^◌, ◌<◌, ◌≤◌, Bool, true, false, List, [], ◌∷◌, ◌++◌, length, map, Option, Some, None, refl, sym, ap, ◌∙◌, subst, arith}
use Rattle.std.specs.Prelude.{option_map}
use Rattle.wasm_lang.specs.declared.types.Limits.{Limits}
use Rattle.wasm_lang.specs.Modules.{FunctionType, Imported, GlobalEntry, Exported, ElementSegment, DataSegment, FunctionBody, WasmModule}
use Rattle.wasm_lang_valid.specs.Profile.{table_length, memory_bytes}
use Rattle.wasm_lang_valid.specs.Validity.{IsValidModule}
use Rattle.wasm_link_lang.specs.Pairs.{Pair, past_first, at_addresses}
use Rattle.wasm_link_lang.specs.Reductions.{entries}
use Rattle.wasm_link_lang.specs.Refusal.{refusal, least_maximum}
use Rattle.wasm_link_lang.specs.Session as session
use Rattle.wasm_link_code.specs.Linked.{linked, linked_start, second_start, start_bodies, start_types, staying, memory_import, either_table, moved_bodies, moved_element, moved_global}
use Rattle.wasm_link_bind.proofs.Sums.{FewSums, few_sums}
use Rattle.wasm_link_sections.specs.Made.{capped, table_made, start_made, start_bodies_made, module_made, function_in, global_in, imports_made, global_made, element_made, segment_made, bodies_made}
use Rattle.wasm_link_rows.proofs.Chained.{NoRows, no_rows_met}
use Rattle.wasm_link_laws_modules.proofs.Facts.{in_itself}
use Rattle.wasm_link_laws_writable.proofs.Typed.{bodies_types}
use Rattle.wasm_link_laws_writable.proofs.Facts.{imports_typed, own_entries_are}
use Rattle.wasm_link.proofs.Indirect.{first_bodies, second_bodies}
use Rattle.wasm_link.proofs.Parts.{imports_are, first_imports, functions_are, globals_are, elements_are, segments_are}
use Rattle.wasm_link.proofs.Constants.{within}

-- ---- parts

tables_are : (first second : List Limits) (n : ℕ) → n < 2 ^ 32 → table_made first second n ≡ either_table first second n
tables_are [] [] n h = refl
tables_are [] (l ∷ ls) n h = ap (λ k. record { min = k; max = None } ∷ []) (within n h)
tables_are (l ∷ ls) second n h = ap (λ k. record { min = k; max = None } ∷ []) (within n h)

starts_are : (w : Pair) (a b : Option ℕ) → start_made w a b ≡ linked_start w a (option_map (λ f. (past_first w).functions + f) b)
starts_are w None None = refl
starts_are w None (Some b) = refl
starts_are w (Some a) None = refl
starts_are w (Some a) (Some b) = refl

start_bodies_are : (w : Pair) (a b : Option ℕ) → start_bodies_made w a b ≡ start_bodies w a (option_map (λ f. (past_first w).functions + f) b)
start_bodies_are w None None = refl
start_bodies_are w None (Some b) = refl
start_bodies_are w (Some a) None = refl
start_bodies_are w (Some a) (Some b) = refl

-- a module of these parts
abbrev whole : List FunctionType → List Imported → List ℕ → List Limits → List GlobalEntry → List Exported → Option ℕ → List ElementSegment → List FunctionBody → List DataSegment → WasmModule
whole types imports functions tables globals exports start elements bodies segments = record {
  types = types;
  imports = imports;
  functions = functions;
  tables = tables;
  memories = [];
  globals = globals;
  exports = exports;
  start = start;
  elements = elements;
  bodies = bodies;
  segments = segments;
}

pub module_is : (w : Pair) → IsValidModule w.first → IsValidModule w.second → refusal w ≡ None → module_made w ≡ linked w
unfolding linked
module_is w first second none =
    let rows = no_rows_met w none in
    let few = few_sums w rows.sums in
    let types = few.types in
    let entries_few = few.entries in
    let p = in_itself w.first rows.first_profile in
    let q = in_itself w.second rows.second_profile in
    let own = own_entries_are w.first p in
    let others = own_entries_are w.second q in
    let b = module_made w in
    let imports_same =
    ap (λ l. l ++ (imports_made w.first (length w.first.types) w.second.imports ++ memory_import (session.pages w) (least_maximum w))) (imports_are w.first w.second 0 w.first.imports (omega arith) (imports_typed w.first first) ∙ first_imports (staying w.second w.first.imports))
    ∙ ap (λ l. staying w.second w.first.imports ++ (l ++ memory_import (session.pages w) (least_maximum w))) (imports_are w.second w.first (length w.first.types) w.second.imports (omega arith) (imports_typed w.second second)) in
    let functions_same = ap (λ l. w.first.functions ++ (l ++ start_types w w.first.start w.second.start)) (functions_are w.second (length w.first.types) (omega arith) second) in
    let tables_same = tables_are w.first.tables w.second.tables (entries w.first + entries w.second) (omega arith) in
    let globals_same =
    ap (λ l. l ++ map (global_made (global_in w true)) w.second.globals) (globals_are w.first (global_in w false) first)
    ∙ ap (λ l. map (moved_global (global_in w false)) w.first.globals ++ l) (globals_are w.second (global_in w true) second) in
    let start_same = starts_are w w.first.start w.second.start in
    let elements_same =
    ap (λ l. l ++ map (element_made (function_in w true) (entries w.first)) w.second.elements)
    (elements_are w.first (function_in w false) 0 (table_length w.first) (memory_bytes w.first) first (omega arith) p.constant p.within)
    ∙ ap (λ l. map (moved_element (function_in w false) 0) w.first.elements ++ l)
    (elements_are w.second (function_in w true) (entries w.first) (table_length w.second) (memory_bytes w.second) second (omega arith) q.constant q.within) in
    let bodies_same =
    ap (λ l. l ++ (bodies_made w true w.second (entries w.first) 0 w.second.bodies ++ start_bodies_made w w.first.start w.second.start)) (first_bodies w w.first (entries w.second) 0 w.first.bodies (omega arith) (bodies_types w.first first) rows.first_room)
    ∙ ap (λ l. moved_bodies w w.first (entries w.second) 0 w.first.bodies ++ (l ++ start_bodies_made w w.first.start w.second.start)) (second_bodies w w.second (entries w.first) 0 w.second.bodies (omega arith) (bodies_types w.second second) rows.second_room)
    ∙ ap (λ l. moved_bodies w w.first (entries w.second) 0 w.first.bodies ++ (moved_bodies w w.second (entries w.first) 0 (at_addresses (past_first w) w.second).bodies ++ l)) (start_bodies_are w w.first.start w.second.start) in
    let segments_same =
    ap (λ l. l ++ map segment_made w.second.segments) (segments_are w.first first p.constant) ∙ ap (λ l. w.first.segments ++ l) (segments_are w.second second q.constant) in
    let l = linked w in
    ap (λ x. whole b.types x b.functions b.tables b.globals b.exports b.start b.elements b.bodies b.segments) imports_same
    ∙ ap (λ x. whole b.types l.imports x b.tables b.globals b.exports b.start b.elements b.bodies b.segments) functions_same
    ∙ ap (λ x. whole b.types l.imports l.functions x b.globals b.exports b.start b.elements b.bodies b.segments) tables_same
    ∙ ap (λ x. whole b.types l.imports l.functions l.tables x b.exports b.start b.elements b.bodies b.segments) globals_same
    ∙ ap (λ x. whole b.types l.imports l.functions l.tables l.globals b.exports x b.elements b.bodies b.segments) start_same
    ∙ ap (λ x. whole b.types l.imports l.functions l.tables l.globals b.exports l.start x b.bodies b.segments) elements_same
    ∙ ap (λ x. whole b.types l.imports l.functions l.tables l.globals b.exports l.start l.elements x b.segments) bodies_same
    ∙ ap (λ x. whole b.types l.imports l.functions l.tables l.globals b.exports l.start l.elements l.bodies x) segments_same
