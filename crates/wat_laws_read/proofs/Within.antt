-- The module that marks of the grammar say is within the limits of a reader, where no row refuses them.
use Rattle.std.proofs.Common.{◌≡◌, ℕ, zero, suc, ◌+◌, ◌≤◌, Bool, true, false, ◌&&◌, not, cond, List, [], ◌∷◌, ◌++◌, map, length, Option, Some, refl, sym, ap, subst, arith}
use Rattle.std.specs.Prelude.{filter, find, flat_map, nat_lt, option_and_then}
use Rattle.std.specs.List.{AllByRecursion, zip}
use Rattle.std.proofs.lemmas.Bool.{ltb-false}
use Rattle.std.proofs.lemmas.List.{length-map}
use Rattle.std.proofs.lemmas.List.Elements.{All-from_recursion}
use Rattle.wasm_lang.specs.declared.types.Limits.{Limits}
use Rattle.wasm_lang.specs.declared.types.ImportKind.{ImportKind}
use Rattle.wasm_lang.specs.Limits.{most_types, most_functions, most_params, most_locals, most_levels, most_globals, most_entries, levels, params_of, MayImport, IsWithinReader}
use Rattle.wasm_lang.specs.Modules.{FunctionType, GlobalEntry, ElementSegment, DataSegment, FunctionBody, WasmModule}
use Rattle.wat_lang.specs.declared.parts.Space.{Space}
use Rattle.wat_lang.specs.declared.parts.Space.TheVariants as spaces
use Rattle.wat_lang.specs.declared.parts.Part.TheVariants.{Param, Local}
use Rattle.wat_lang.specs.declared.parts.FieldKind.{FieldKind}
use Rattle.wat_lang.specs.declared.parts.FieldKind.TheVariants as kinds
use Rattle.wat_lang.specs.declared.fault.Row.TheVariants as rows
use Rattle.wat_lang.specs.Tokens.{Token}
use Rattle.wat_lang.specs.Numbers.{number_of}
use Rattle.wat_lang.specs.Grammar.{Marked, IsGrammatical}
use Rattle.wat_lang.specs.Names.{text_of, type_of, all_with, types_part, Names, Field, fields_of, described, enters, is_import, names_of, types_in, types_of, signature_of, local_names, names_at}
use Rattle.wat_lang.specs.Modules.{natural_or_0, is_minimum, limits_in, code_in, function_type_in, own_of, import_of, global_of, element_of, segment_of, body_of, module_of}
use Rattle.wat_lang.specs.Rows.{where_holds, number_rows, utf8_rows, taken_rows, from_count, field_rows, head_rows, locals_of, use_rows, order_rows, entries_in, entries_from, count_rows, is_table_minimum, entry_rows, rows_of}
use Rattle.wat_lang.specs.Texts.{SaysModule}
use Rattle.wat_laws_read.proofs.Lists.{empty_parts, each_empty, not_held, weaker, both, mapped, passing}
use Rattle.wat_laws_read.proofs.Cuts.{parts_hold}
use Rattle.wat_laws_read.proofs.Spelled.{HasTableMinimum, DescribesWell, HasForm, FieldHolds, fields_hold}
use Rattle.wat_laws_read.proofs.Shaped.{parts_all}
use Rattle.wat_laws_read.proofs.Counts.{entries_few, marks_few, enters_is, count_entries, kind_by, import_is, with_kind, functions_counted, globals_counted}
use Rattle.wat_laws_read.proofs.Levels.{levels_few}

-- ---- rows

-- what none of the rows refuses
record Free (ms : List Marked) (fs : List Field) : Type 0 where
  fields : AllByRecursion (λ (f : Field). field_rows (names_of fs) (types_of fs) f ≡ []) fs
  counts : count_rows fs ≡ []
  entries : entry_rows ms ≡ []

free : (ms : List Marked) → rows_of ms ≡ [] → Free ms (fields_of ms)
free ms e =
    let fs = fields_of ms in
    let r6 = count_rows fs ++ entry_rows ms in
    let r5 = order_rows false false fs ++ r6 in
    let r4 = flat_map (field_rows (names_of fs) (types_of fs)) fs ++ r5 in
    let r3 = taken_rows fs ms ++ r4 in
    let r2 = utf8_rows ms ++ r3 in
    let p1 = empty_parts (number_rows ms) r2 e in
    let p2 = empty_parts (utf8_rows ms) r3 p1.1 in
    let p3 = empty_parts (taken_rows fs ms) r4 p2.1 in
    let p4 = empty_parts (flat_map (field_rows (names_of fs) (types_of fs)) fs) r5 p3.1 in
    let p5 = empty_parts (order_rows false false fs) r6 p4.1 in
    let p6 = empty_parts (count_rows fs) (entry_rows ms) p5.1 in
    record { fields = each_empty (field_rows (names_of fs) (types_of fs)) fs p4.0; counts = p6.0; entries = p6.1 }

-- ---- fields that enter a space

no_import : (b : Bool) → b && false ≡ true → ⊥
no_import true e = absurd cc
no_import false e = absurd cc

own_function : (k : FieldKind) (at : ℕ) (parts : List Marked) → enters spaces.Func (record { kind = k; at = at; parts = parts }) && not (is_import k) ≡ true → k ≡ kinds.Func
own_function kinds.Func at parts e = refl
own_function kinds.Import at parts e = absurd (no_import (enters spaces.Func (record { kind = kinds.Import; at = at; parts = parts })) e)
own_function _ at parts e = absurd cc

own_table : (k : FieldKind) (at : ℕ) (parts : List Marked) → enters spaces.Table (record { kind = k; at = at; parts = parts }) && not (is_import k) ≡ true → k ≡ kinds.Table
own_table kinds.Table at parts e = refl
own_table kinds.Import at parts e = absurd (no_import (enters spaces.Table (record { kind = kinds.Import; at = at; parts = parts })) e)
own_table _ at parts e = absurd cc

-- no import is described as a type
entered_type : (k : FieldKind) (at : ℕ) (parts : List Marked) → HasForm k parts → enters spaces.Type (record { kind = k; at = at; parts = parts }) ≡ true → k ≡ kinds.Type
entered_type kinds.Type at parts h e = refl
entered_type kinds.Import at parts h e = absurd (by (h.0).space (h.0).at h.1 h.2)
  where
    by : (s : Space) (place : ℕ) → described parts ≡ Some (record { space = s; at = place }) → DescribesWell s parts → ⊥
    by spaces.Func place q d = let is : enters spaces.Type (record { kind = kinds.Import; at = at; parts = parts }) ≡ false = enters_is spaces.Type (record { kind = kinds.Import; at = at; parts = parts }) (Some (record { space = spaces.Func; at = place })) q in cc
    by spaces.Table place q d = let is : enters spaces.Type (record { kind = kinds.Import; at = at; parts = parts }) ≡ false = enters_is spaces.Type (record { kind = kinds.Import; at = at; parts = parts }) (Some (record { space = spaces.Table; at = place })) q in cc
    by spaces.Memory place q d = let is : enters spaces.Type (record { kind = kinds.Import; at = at; parts = parts }) ≡ false = enters_is spaces.Type (record { kind = kinds.Import; at = at; parts = parts }) (Some (record { space = spaces.Memory; at = place })) q in cc
    by spaces.Global place q d = let is : enters spaces.Type (record { kind = kinds.Import; at = at; parts = parts }) ≡ false = enters_is spaces.Type (record { kind = kinds.Import; at = at; parts = parts }) (Some (record { space = spaces.Global; at = place })) q in cc
    by _ place q d = d
entered_type _ at parts h e = absurd cc

-- ---- types, and locals with them

type_rows : (names : Space → Names) (types : List FunctionType) (k : FieldKind) (at : ℕ) (parts : List Marked) → k ≡ kinds.Type → field_rows names types (record { kind = k; at = at; parts = parts }) ≡ []
    → from_count most_params 0 (all_with (types_part Param) parts) ≡ []
type_rows names types kinds.Type at parts e none =
    (empty_parts (use_rows (names_at names (locals_of names types (record { kind = kinds.Type; at = at; parts = parts }))) [] parts) (from_count most_params 0 (all_with (types_part Param) parts)) none).1
type_rows names types _ at parts e none = absurd cc

few_params : (parts : List Marked) → from_count most_params 0 (all_with (types_part Param) parts) ≡ [] → length (types_in Param parts) ≤ most_params
few_params parts none =
    let few = marks_few most_params 0 (all_with (types_part Param) parts) none (omega arith) in
    let same : length (types_in Param parts) ≡ length (all_with (types_part Param) parts) = length-map (all_with (types_part Param) parts) type_of in
    omega (arith, few, same)

types_few : (names : Space → Names) (types : List FunctionType) (fs : List Field) → AllByRecursion FieldHolds fs → AllByRecursion (λ (f : Field). field_rows names types f ≡ []) fs
    → AllByRecursion (λ (t : FunctionType). length t.params ≤ most_params) (types_of fs)
types_few names types fs holds none =
    mapped (λ (t : FunctionType). length t.params ≤ most_params) (λ (f : Field). signature_of f.parts) (filter (enters spaces.Type) fs)
    (weaker (λ (f : Field). (enters spaces.Type f ≡ true) × (FieldHolds f × (field_rows names types f ≡ []))) (λ (f : Field). length (types_in Param f.parts) ≤ most_params)
    (λ f h. few_params f.parts (type_rows names types f.kind f.at f.parts (entered_type f.kind f.at f.parts (h.1.0).form h.0) h.1.1)) (filter (enters spaces.Type) fs)
    (passing (λ (f : Field). FieldHolds f × (field_rows names types f ≡ [])) (enters spaces.Type) fs (both FieldHolds (λ (f : Field). field_rows names types f ≡ []) fs holds none)))

pub params_few : (types : List FunctionType) (t : ℕ) → AllByRecursion (λ (t : FunctionType). length t.params ≤ most_params) types → params_of types t ≤ most_params
params_few [] t all = omega arith
params_few (x ∷ types) zero all = all.0
params_few (x ∷ types) (suc t) all = params_few types t all.1

body_rows : (names : Space → Names) (types : List FunctionType) (k : FieldKind) (at : ℕ) (parts : List Marked) → k ≡ kinds.Func → field_rows names types (record { kind = k; at = at; parts = parts }) ≡ []
    → from_count most_locals (params_of types (function_type_in names parts)) (all_with (types_part Local) parts) ≡ []
body_rows names types kinds.Func at parts e none =
    let own = from_count most_locals (params_of types (function_type_in names parts)) (all_with (types_part Local) parts) in
    let heads = head_rows names types at parts in
    (empty_parts heads own (empty_parts (use_rows (names_at names (locals_of names types (record { kind = kinds.Func; at = at; parts = parts }))) [] parts) (heads ++ own) none).1).1
body_rows names types _ at parts e none = absurd cc

few_locals : (types : List FunctionType) (t : ℕ) (parts : List Marked) → params_of types t ≤ most_params → from_count most_locals (params_of types t) (all_with (types_part Local) parts) ≡ [] → params_of types t + length (types_in Local parts) ≤ most_locals
few_locals types t parts params none =
    let few = marks_few most_locals (params_of types t) (all_with (types_part Local) parts) none (omega (arith, params)) in
    let same : length (types_in Local parts) ≡ length (all_with (types_part Local) parts) = length-map (all_with (types_part Local) parts) type_of in
    omega (arith, few, same)

zipped : {X A B : Type 0} (P : A × B → Type 0) (f : X → A) (g : X → B) (xs : List X) → AllByRecursion (λ x. P (f x, g x)) xs → AllByRecursion P (zip (map f xs) (map g xs))
zipped P f g [] all = tt
zipped P f g (x ∷ xs) all = (all.0, zipped P f g xs all.1)

-- ---- tables

abbrev HasFewEntries : Marked → Type 0
HasFewEntries m = is_table_minimum m.mark ≡ true → natural_or_0 (number_of (text_of m)) ≤ most_entries

entries_held : (ms : List Marked) → entry_rows ms ≡ [] → AllByRecursion HasFewEntries ms
entries_held [] e = tt
entries_held (m ∷ ms) e = by (λ h. entries_held ms h) (is_table_minimum m.mark) refl e
  where
    row : Marked → Bool
    row n = nat_lt most_entries (natural_or_0 (number_of (text_of n)))

    by : (entry_rows ms ≡ [] → AllByRecursion HasFewEntries ms) → (b : Bool) → is_table_minimum m.mark ≡ b
        → flat_map (λ (n : Marked). where_holds (row n) rows.Limit n.token.at) (cond b (m ∷ all_with is_table_minimum ms) (all_with is_table_minimum ms)) ≡ [] → AllByRecursion HasFewEntries (m ∷ ms)
    by below true n e =
        let parts = empty_parts (where_holds (row m) rows.Limit m.token.at) (entry_rows ms) e in
        ((λ is. ltb-false most_entries (natural_or_0 (number_of (text_of m))) (not_held (row m) rows.Limit m.token.at parts.0)), below parts.1)
    by below false n e = ((λ is. absurd cc), below e)

found : (P : Marked → Type 0) (test : Marked → Bool) (ms : List Marked) (m : Marked) → AllByRecursion P ms → find test ms ≡ Some m → P m
found P test [] m all e = absurd cc
found P test (n ∷ ms) m all e = by (λ f. found P test ms m all.1 f) (test n) e
  where
    by : (find test ms ≡ Some m → P m) → (b : Bool) → cond b (Some n) (find test ms) ≡ Some m → P m
    by below true e = let same : n ≡ m = cc in subst P same all.0
    by below false e = below e

few_entries : (parts : List Marked) → AllByRecursion HasFewEntries parts → HasTableMinimum parts → (limits_in parts).min ≤ most_entries
few_entries parts all h =
    let few = found HasFewEntries (λ m. is_minimum m.mark) parts h.0 all h.1 in
    let is : (limits_in parts).min ≡ natural_or_0 (number_of (text_of h.0)) = ap (λ (o : Option Marked). natural_or_0 (option_and_then (λ (m : Marked). number_of (text_of m)) o)) h.1 in
    let least = few (ap is_table_minimum h.2) in
    omega (arith, is, least)

may_import : (names : Space → Names) (parts : List Marked) → AllByRecursion HasFewEntries parts → HasForm kinds.Import parts → MayImport (import_of names parts)
may_import names parts all h = subst (λ (k : ImportKind). MayImport (with_kind parts k)) (sym (import_is names parts (h.0).space (h.0).at h.1)) (by (h.0).space h.2)
  where
    by : (s : Space) → DescribesWell s parts → MayImport (with_kind parts (kind_by names parts s))
    by spaces.Table d = few_entries parts all d
    by _ d = tt

abbrev ImportFits : (Space → Names) → Field → Type 0
ImportFits names f = is_import f.kind ≡ true → MayImport (import_of names f.parts)

import_kind_fits : (names : Space → Names) (k : FieldKind) (parts : List Marked) → AllByRecursion HasFewEntries parts → HasForm k parts → is_import k ≡ true → MayImport (import_of names parts)
import_kind_fits names kinds.Import parts all h e = may_import names parts all h
import_kind_fits names _ parts all h e = absurd cc

table_fits : (k : FieldKind) (parts : List Marked) → k ≡ kinds.Table → AllByRecursion HasFewEntries parts → HasForm k parts → (limits_in parts).min ≤ most_entries
table_fits kinds.Table parts e all h = few_entries parts all h
table_fits _ parts e all h = absurd cc

-- ---- code

abbrev HasFewLevels : (Space → Names) → List FunctionType → Field → Type 0
HasFewLevels names types f = (module_names : Space → Names) (locals : Names) → levels (code_in module_names locals f.parts) ≤ most_levels

few_levels : (names : Space → Names) (types : List FunctionType) (f : Field) → field_rows names types f ≡ [] → HasFewLevels names types f
few_levels names types f none = λ module_names locals.
    levels_few (names_at names (locals_of names types f)) (names_at module_names locals) [] f.parts (empty_parts (use_rows (names_at names (locals_of names types f)) [] f.parts) _ none).0 0 (omega arith) (omega arith)

-- ---- modules

pub within_marks : (ms : List Marked) (ts : List Token) → IsGrammatical ms ts → rows_of ms ≡ [] → IsWithinReader (module_of ms)
within_marks ms ts d none =
    let fs = fields_of ms in
    let names = names_of fs in
    let types = types_of fs in
    let m = module_of ms in
    let unrefused = free ms none in
    let holds = fields_hold ms ts d in
    let counts1 = empty_parts (entries_from most_types 0 (entries_in spaces.Type fs)) (entries_from most_functions 0 (entries_in spaces.Func fs) ++ entries_from most_globals 0 (entries_in spaces.Global fs)) unrefused.counts in
    let counts2 = empty_parts (entries_from most_functions 0 (entries_in spaces.Func fs)) (entries_from most_globals 0 (entries_in spaces.Global fs)) counts1.1 in
    let few_types = entries_few most_types 0 (entries_in spaces.Type fs) counts1.0 (omega arith) in
    let few_functions = entries_few most_functions 0 (entries_in spaces.Func fs) counts2.0 (omega arith) in
    let few_globals = entries_few most_globals 0 (entries_in spaces.Global fs) counts2.1 (omega arith) in
    let many_types : length types ≡ length (filter (enters spaces.Type) fs) = length-map (filter (enters spaces.Type) fs) (λ (f : Field). signature_of f.parts) in
    let many_functions : length m.functions ≡ length (own_of fs spaces.Func) = length-map (own_of fs spaces.Func) (function_type_in names) in
    let many_globals : length m.globals ≡ length (own_of fs spaces.Global) = length-map (own_of fs spaces.Global) (global_of names) in
    let types_counted = count_entries spaces.Type fs in
    let functions_entered = count_entries spaces.Func fs in
    let globals_entered = count_entries spaces.Global fs in
    let functions = functions_counted names fs holds in
    let globals = globals_counted names fs holds in
    let params = types_few names types fs holds unrefused.fields in
    let entries : AllByRecursion (λ (f : Field). AllByRecursion HasFewEntries f.parts) fs = (parts_hold HasFewEntries ms (entries_held ms unrefused.entries)).1 in
    let sized = both FieldHolds (λ (f : Field). AllByRecursion HasFewEntries f.parts) fs holds entries in
    let levels_all = weaker (λ (f : Field). field_rows names types f ≡ []) (HasFewLevels names types) (few_levels names types) fs unrefused.fields in
    let own_levels : (s : Space) → AllByRecursion (λ ps. (module_names : Space → Names) (locals : Names) → levels (code_in module_names locals ps) ≤ most_levels) (own_of fs s) =
    λ s. parts_all (λ ps. (module_names : Space → Names) (locals : Names) → levels (code_in module_names locals ps) ≤ most_levels) (λ f. enters s f && not (is_import f.kind)) fs levels_all in
    let FewLevels : List Marked → Type 0 = λ ps. (module_names : Space → Names) (locals : Names) → levels (code_in module_names locals ps) ≤ most_levels in
    let own_functions = filter (λ f. enters spaces.Func f && not (is_import f.kind)) fs in
    let own_tables = filter (λ f. enters spaces.Table f && not (is_import f.kind)) fs in
    let importing = filter (λ f. is_import f.kind) fs in
    let imported : AllByRecursion MayImport m.imports =
    mapped MayImport (import_of names) (map (λ (f : Field). f.parts) importing)
    (mapped (λ ps. MayImport (import_of names ps)) (λ (f : Field). f.parts) importing
    (weaker (λ (f : Field). (is_import f.kind ≡ true) × (FieldHolds f × AllByRecursion HasFewEntries f.parts)) (λ (f : Field). MayImport (import_of names f.parts))
    (λ f h. import_kind_fits names f.kind f.parts h.1.1 (h.1.0).form h.0) importing
    (passing (λ (f : Field). FieldHolds f × AllByRecursion HasFewEntries f.parts) (λ f. is_import f.kind) fs sized))) in
    let tables : AllByRecursion (λ (l : Limits). l.min ≤ most_entries) m.tables =
    mapped (λ (l : Limits). l.min ≤ most_entries) limits_in (map (λ (f : Field). f.parts) own_tables)
    (mapped (λ ps. (limits_in ps).min ≤ most_entries) (λ (f : Field). f.parts) own_tables
    (weaker (λ (f : Field). (enters spaces.Table f && not (is_import f.kind) ≡ true) × (FieldHolds f × AllByRecursion HasFewEntries f.parts)) (λ (f : Field). (limits_in f.parts).min ≤ most_entries)
    (λ f h. table_fits f.kind f.parts (own_table f.kind f.at f.parts h.0) h.1.1 (h.1.0).form) own_tables
    (passing (λ (f : Field). FieldHolds f × AllByRecursion HasFewEntries f.parts) (λ f. enters spaces.Table f && not (is_import f.kind)) fs sized))) in
    let locals : AllByRecursion (λ (f : ℕ × FunctionBody). params_of types f.0 + length f.1.locals ≤ most_locals) (zip m.functions m.bodies) =
    zipped (λ (f : ℕ × FunctionBody). params_of types f.0 + length f.1.locals ≤ most_locals) (function_type_in names) (body_of names types) (own_of fs spaces.Func)
    (mapped (λ ps. params_of types (function_type_in names ps) + length (types_in Local ps) ≤ most_locals) (λ (f : Field). f.parts) own_functions
    (weaker (λ (f : Field). (enters spaces.Func f && not (is_import f.kind) ≡ true) × (field_rows names types f ≡ [])) (λ (f : Field). params_of types (function_type_in names f.parts) + length (types_in Local f.parts) ≤ most_locals)
    (λ f h. few_locals types (function_type_in names f.parts) f.parts (params_few types (function_type_in names f.parts) params) (body_rows names types f.kind f.at f.parts (own_function f.kind f.at f.parts h.0) h.1)) own_functions
    (passing (λ (f : Field). field_rows names types f ≡ []) (λ f. enters spaces.Func f && not (is_import f.kind)) fs unrefused.fields))) in
    record {
      types = omega (arith, few_types, many_types, types_counted);
      params = All-from_recursion (λ (t : FunctionType). length t.params ≤ most_params) m.types params;
      functions = omega (arith, few_functions, many_functions, functions_entered, functions);
      globals = omega (arith, few_globals, many_globals, globals_entered, globals);
      imported_tables = All-from_recursion MayImport m.imports imported;
      tables = All-from_recursion (λ (l : Limits). l.min ≤ most_entries) m.tables tables;
      locals = All-from_recursion (λ (f : ℕ × FunctionBody). params_of types f.0 + length f.1.locals ≤ most_locals) (zip m.functions m.bodies) locals;
      body_levels = All-from_recursion (λ (b : FunctionBody). levels b.code ≤ most_levels) m.bodies
          (mapped (λ (b : FunctionBody). levels b.code ≤ most_levels) (body_of names types) (own_of fs spaces.Func)
          (weaker FewLevels (λ ps. levels (code_in names (local_names (params_of types (function_type_in names ps)) ps) ps) ≤ most_levels) (λ ps h. h names (local_names (params_of types (function_type_in names ps)) ps)) (own_of fs spaces.Func) (own_levels spaces.Func)));
      global_levels = All-from_recursion (λ (g : GlobalEntry). levels g.init ≤ most_levels) m.globals
          (mapped (λ (g : GlobalEntry). levels g.init ≤ most_levels) (global_of names) (own_of fs spaces.Global) (weaker FewLevels (λ ps. levels (code_in names [] ps) ≤ most_levels) (λ ps h. h names []) (own_of fs spaces.Global) (own_levels spaces.Global)));
      element_levels = All-from_recursion (λ (e : ElementSegment). levels e.offset ≤ most_levels) m.elements
          (mapped (λ (e : ElementSegment). levels e.offset ≤ most_levels) (element_of names) (own_of fs spaces.Elem) (weaker FewLevels (λ ps. levels (code_in names [] ps) ≤ most_levels) (λ ps h. h names []) (own_of fs spaces.Elem) (own_levels spaces.Elem)));
      segment_levels = All-from_recursion (λ (s : DataSegment). levels s.offset ≤ most_levels) m.segments
          (mapped (λ (s : DataSegment). levels s.offset ≤ most_levels) (segment_of names) (own_of fs spaces.Data) (weaker FewLevels (λ ps. levels (code_in names [] ps) ≤ most_levels) (λ ps h. h names []) (own_of fs spaces.Data) (own_levels spaces.Data)));
    }

pub said_is_within : (text : List ℕ) (m : WasmModule) → SaysModule text m → IsWithinReader m
said_is_within text m h = subst IsWithinReader h.is_this (within_marks h.marks h.is_marked.tokens h.is_marked.is_grammatical h.is_accepted)
