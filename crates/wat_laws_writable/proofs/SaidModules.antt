-- The module that a short text says can be written in the binary format.
use Rattle.std.proofs.Common.{◌≡◌, ℕ, ◌+◌, ◌*◌, ◌<◌, ◌≤◌, Bool, true, false, ◌&&◌, not, cond, List, [], ◌∷◌, ◌++◌, map, length, Option, sym, subst, arith, length-append}
use Rattle.std.specs.Prelude.{filter, flat_map, slice_get, All}
use Rattle.std.specs.List.{AllByRecursion}
use Rattle.std.proofs.lemmas.List.{length-map}
use Rattle.std.proofs.lemmas.List.Elements.{All-from_recursion, recursion_from_All}
use Rattle.wasm_lang.specs.Limits.{most_params, params_of}
use Rattle.wasm_lang.specs.Modules.{FunctionType, Imported, GlobalEntry, Exported, WasmModule}
use Rattle.wasm_lang.specs.Shape.{IsWritable}
use Rattle.wasm_binary_write.specs.Spelling.{unsigned, items, vector, sized, function_type, imported, table, limits, instruction, global, exported, element, runs, run, body, segment}
use Rattle.wasm_laws_write.specs.Fits.{FitsU32, InstructionFits, OptionFits, LimitsFit, ImportFits, ExportFits, ElementFits, SegmentFits, BodyFits, NumbersFit, SectionsFit}
use Rattle.wasm_laws_write.specs.Lengths.{total}
use Rattle.wasm_laws_write.proofs.Modules.{fitting_are_writable}
use Rattle.wasm_laws_write.proofs.Short.{numbers_are_short, parts_are_short, types_are_short, imports_are_short, limits_are_short, globals_are_short, exports_are_short, elements_are_short}
use Rattle.wat_lang.specs.declared.parts.Space.{Space}
use Rattle.wat_lang.specs.declared.parts.Space.TheVariants as spaces
use Rattle.wat_lang.specs.declared.parts.Part.TheVariants.{Param, Result, Local}
use Rattle.wat_lang.specs.declared.parts.FieldKind.{FieldKind}
use Rattle.wat_lang.specs.declared.parts.FieldKind.TheVariants as kinds
use Rattle.wat_lang.specs.Grammar.{Marked}
use Rattle.wat_lang.specs.Names.{text_of, all_with, Names, Field, fields_of, enters, is_import, id_bound, names_of, signature_of, types_in, types_of, local_names, names_at}
use Rattle.wat_lang.specs.Modules.{is_module_name, is_field_name, is_export_name, is_bytes, first_used, used, code_in, limits_in, function_type_in, import_kind_in, parts_of, own_of, is_export, is_start, import_of, global_of, export_of, element_of, segment_of, body_of, module_of_fields, module_of}
use Rattle.wat_lang.specs.Rows.{number_rows, utf8_rows, taken_rows, field_rows, order_rows, count_rows, entry_rows, rows_of}
use Rattle.wat_lang.specs.Texts.{IsMarked, SaysModule}
use Rattle.wat_laws_read.proofs.Lists.{empty_parts, weaker, both, mapped, passing}
use Rattle.wat_laws_read.proofs.Cuts.{parts_hold}
use Rattle.wat_laws_read.proofs.Spelled.{HasForm, FieldHolds, fields_hold}
use Rattle.wat_laws_read.proofs.Shaped.{parts_all, shaped_marks}
use Rattle.wat_laws_read.proofs.Counts.{kind_by, import_is}
use Rattle.wat_laws_read.proofs.Within.{params_few, within_marks}
use Rattle.wat_laws_writable.proofs.Weights.{AreBytes, weight, IsOfBytes, marks_light, marks_of_bytes, field_weight, fields_light}
use Rattle.wat_laws_writable.proofs.Fits.{IsFine, numbers_held, most_names, used_small, first_small, limits_fit, function_type_fits, export_fits, code_fits, names_at_few, locals_few}
use Rattle.wat_laws_writable.proofs.Sizes.{used_few, types_in_few, code_length, locals_length, string_light, strings_light, parts_weight, parts_light, fields_filtered_light, section_fits}

-- ---- the parts of a field

abbrev most_weight : ℕ
most_weight = 33554432

-- no number is refused, all are bytes, and there are few
record PartsFit (ps : List Marked) : Type 0 where
  fine : AllByRecursion IsFine ps
  bytes : AllByRecursion IsOfBytes ps
  light : weight ps ≤ most_weight

each_light : (fs : List Field) (n : ℕ) → total field_weight fs ≤ n → AllByRecursion (λ (f : Field). field_weight f ≤ n) fs
each_light [] n h = tt
each_light (f ∷ fs) n h = (omega (arith, h), each_light fs n (omega (arith, h)))

few_fields : (fs : List Field) → length fs ≤ total field_weight fs
few_fields [] = omega arith
few_fields (f ∷ fs) = let h = few_fields fs in omega (arith, h)

few_parts : (ms : List Marked) → length ms ≤ weight ms
few_parts [] = omega arith
few_parts (m ∷ ms) = let h = few_parts ms in omega (arith, h)

filtered_few : {X : Type 0} (test : X → Bool) (xs : List X) → length (filter test xs) ≤ length xs
filtered_few test [] = omega arith
filtered_few test (x ∷ xs) = by (test x) (filtered_few test xs)
  where
    by : (b : Bool) → length (filter test xs) ≤ length xs → length (cond b (x ∷ filter test xs) (filter test xs)) ≤ length (x ∷ xs)
    by true h = omega (arith, h)
    by false h = omega (arith, h)

names_few : (fs : List Field) → length fs ≤ most_weight → (s : Space) → length (names_of fs s) ≤ most_names
names_few fs few s =
    let a = filter (λ f. enters s f && is_import f.kind) fs in
    let b = filter (λ f. enters s f && not (is_import f.kind)) fs in
    let id : Field → Option (List ℕ) = λ g. id_bound s g.parts in
    let whole : length (names_of fs s) ≡ length (map id a) + length (map id b) = length-append (map id a) (map id b) in
    let first : length (map id a) ≡ length a = length-map a id in
    let second : length (map id b) ≡ length b = length-map b id in
    let p = filtered_few (λ f. enters s f && is_import f.kind) fs in
    let q = filtered_few (λ f. enters s f && not (is_import f.kind)) fs in
    omega (arith, whole, first, second, p, q, few)

-- ---- what a field says

module _ (names : Space → Names) (few : (s : Space) → length (names s) ≤ most_names) where
  code_in_fits : (locals : Names) → length locals ≤ most_names → (ps : List Marked) → PartsFit ps → AllByRecursion InstructionFits (code_in names locals ps)
  code_in_fits locals some ps h =
      let parts = few_parts ps in let light = h.light in
      code_fits (names_at names locals) [] ps (λ ls k. names_at_few names locals ls few some (omega (arith, k, parts, light))) h.fine

  code_in_short : (locals : Names) → length locals ≤ most_names → (ps : List Marked) → PartsFit ps → length (items instruction (code_in names locals ps)) ≤ 11 + 11 * weight ps
  code_in_short locals some ps h = code_length (names_at names locals) ps h.light (code_in_fits locals some ps h)

  constant_fits : (ps : List Marked) → PartsFit ps → AllByRecursion InstructionFits (code_in names [] ps)
  constant_fits ps h = code_in_fits [] (omega arith) ps h

  constant_short : (ps : List Marked) → PartsFit ps → length (items instruction (code_in names [] ps)) ≤ 11 + 11 * weight ps
  constant_short ps h = code_in_short [] (omega arith) ps h

  type_number_fits : (ps : List Marked) → PartsFit ps → FitsU32 (function_type_in names ps)
  type_number_fits ps h = function_type_fits names ps (few spaces.Type) h.fine

  kind_fits : (ps : List Marked) → PartsFit ps → (s : Space) → ImportFits (kind_by names ps s)
  kind_fits ps h spaces.Table = limits_fit ps h.fine
  kind_fits ps h spaces.Memory = limits_fit ps h.fine
  kind_fits ps h spaces.Global = tt
  kind_fits ps h _ = type_number_fits ps h

  import_fits : (ps : List Marked) → PartsFit ps → HasForm kinds.Import ps → ImportFits (import_kind_in names ps)
  import_fits ps h d = subst ImportFits (sym (import_is names ps (d.0).space (d.0).at d.1)) (kind_fits ps h (d.0).space)

  element_fits : (ps : List Marked) → PartsFit ps → ElementFits (element_of names ps)
  element_fits ps h = record {
    table = omega arith;
    offset = All-from_recursion InstructionFits (code_in names [] ps) (constant_fits ps h);
    functions = All-from_recursion FitsU32 (used names spaces.Func ps) (used_small names spaces.Func ps (few spaces.Func) h.fine);
  }

  start_fits : (pss : List (List Marked)) → AllByRecursion PartsFit pss → OptionFits (slice_get (map (first_used names spaces.Func) pss) 0)
  start_fits [] all = tt
  start_fits (ps ∷ pss) all = first_small names spaces.Func ps (few spaces.Func) (all.0).fine

  module _ (types : List FunctionType) (low : AllByRecursion (λ (t : FunctionType). length t.params ≤ most_params) types) where
    abbrev locals_at : List Marked → Names
    locals_at ps = local_names (params_of types (function_type_in names ps)) ps

    few_locals : (ps : List Marked) → PartsFit ps → length (locals_at ps) ≤ most_names
    few_locals ps h =
        let a = locals_few (params_of types (function_type_in names ps)) ps in
        let b = params_few types (function_type_in names ps) low in
        let c = few_parts ps in let light = h.light in
        omega (arith, a, b, c, light)

    body_fits : (ps : List Marked) → PartsFit ps → BodyFits (body_of names types ps)
    body_fits ps h =
        let a = types_in_few Local ps in let c = few_parts ps in let light = h.light in
        record {
          locals = omega (arith, a, c, light);
          code = All-from_recursion InstructionFits (code_in names (locals_at ps) ps) (code_in_fits (locals_at ps) (few_locals ps h) ps h);
        }

    body_short : (ps : List Marked) → PartsFit ps → length (sized (body (body_of names types ps))) ≤ 64 * parts_weight ps
    body_short ps h =
        let light = h.light in
        let a = types_in_few Local ps in let c = few_parts ps in
        let locals = locals_length (types_in Local ps) (omega (arith, a, c, light)) in
        let code = code_in_short (locals_at ps) (few_locals ps h) ps h in
        let whole = length-append (vector run (runs (types_in Local ps))) (items instruction (code_in names (locals_at ps) ps)) in
        let part = parts_are_short (body (body_of names types ps)) (omega (arith, whole, locals, code, a, c, light)) in
        omega (arith, part, whole, locals, code, a, c)

  import_short : (ps : List Marked) → PartsFit ps → HasForm kinds.Import ps → length (imported (import_of names ps)) ≤ 64 * parts_weight ps
  import_short ps h d =
      let light = h.light in
      let a = string_light is_module_name ps in let b = string_light is_field_name ps in
      let short = imports_are_short (import_of names ps) (omega (arith, a, light)) (omega (arith, b, light)) (import_fits ps h d) in
      omega (arith, a, b, short)

  global_short : (ps : List Marked) → PartsFit ps → length (global (global_of names ps)) ≤ 64 * parts_weight ps
  global_short ps h = let short = globals_are_short (global_of names ps) in let code = constant_short ps h in omega (arith, short, code)

  export_short : (ps : List Marked) → PartsFit ps → length (exported (export_of names ps)) ≤ 64 * parts_weight ps
  export_short ps h =
      let light = h.light in let a = string_light is_export_name ps in
      let short = exports_are_short (export_of names ps) (omega (arith, a, light)) (export_fits names few ps h.fine) in
      omega (arith, a, short)

  element_short : (ps : List Marked) → PartsFit ps → length (element (element_of names ps)) ≤ 64 * parts_weight ps
  element_short ps h =
      let light = h.light in let c = few_parts ps in
      let some = used_few names spaces.Func ps in
      let fit = element_fits ps h in
      let short = elements_are_short (element_of names ps) fit.table (omega (arith, some, c, light)) fit.functions in
      let code = constant_short ps h in
      omega (arith, short, code, some, c)

  segment_short : (ps : List Marked) → PartsFit ps → length (segment (segment_of names ps)) ≤ 64 * parts_weight ps
  segment_short ps h =
      let light = h.light in
      let code = constant_short ps h in
      let bytes = strings_light ps in
      let said = flat_map text_of (all_with is_bytes ps) in
      let part = parts_are_short said (omega (arith, bytes, light)) in
      let first = numbers_are_short 0 (omega arith) in
      let inner = length-append (items instruction (code_in names [] ps)) (sized said) in
      let whole = length-append (unsigned 0) (items instruction (code_in names [] ps) ++ sized said) in
      omega (arith, code, bytes, part, first, inner, whole)

limits_short : (ps : List Marked) → PartsFit ps → length (limits (limits_in ps)) ≤ 64 * parts_weight ps
limits_short ps h = let short = limits_are_short (limits_in ps) (limits_fit ps h.fine) in omega (arith, short)

table_short : (ps : List Marked) → PartsFit ps → length (table (limits_in ps)) ≤ 64 * parts_weight ps
table_short ps h = let short = limits_are_short (limits_in ps) (limits_fit ps h.fine) in omega (arith, short)

type_short : (ps : List Marked) → PartsFit ps → length (function_type (signature_of ps)) ≤ 64 * parts_weight ps
type_short ps h =
    let light = h.light in let c = few_parts ps in
    let a = types_in_few Param ps in let b = types_in_few Result ps in
    let short = types_are_short (signature_of ps) (omega (arith, a, c, light)) (omega (arith, b, c, light)) in
    omega (arith, short, a, b, c)

-- what the strings of a segment say
data_bytes : (ms : List Marked) → AllByRecursion IsOfBytes ms → AreBytes (flat_map text_of (all_with is_bytes ms))
data_bytes [] all = tt
data_bytes (m ∷ ms) all = by (is_bytes m.mark) (data_bytes ms all.1)
  where
    behind : (xs : List ℕ) → AreBytes xs → AreBytes (flat_map text_of (all_with is_bytes ms)) → AreBytes (xs ++ flat_map text_of (all_with is_bytes ms))
    behind [] a b = b
    behind (x ∷ xs) a b = (a.0, behind xs a.1 b)

    by : (b : Bool) → AreBytes (flat_map text_of (all_with is_bytes ms)) → AreBytes (flat_map text_of (cond b (m ∷ all_with is_bytes ms) (all_with is_bytes ms)))
    by true h = behind (text_of m) all.0 h
    by false h = h

-- ---- modules

-- imports are of fields that import
abbrev IsBrought : List Marked → Type 0
IsBrought ps = PartsFit ps × HasForm kinds.Import ps

brought_kind : (k : FieldKind) (ps : List Marked) → is_import k ≡ true → HasForm k ps → HasForm kinds.Import ps
brought_kind kinds.Import ps e h = h
brought_kind _ ps e h = absurd cc

-- what is known of all fields of a module that is said
record FieldsFit (fs : List Field) : Type 0 where
  names : (s : Space) → length (names_of fs s) ≤ most_names
  parts : AllByRecursion (λ (f : Field). PartsFit f.parts) fs
  brought : AllByRecursion IsBrought (parts_of (λ f. is_import f.kind) fs)
  low : AllByRecursion (λ (t : FunctionType). length t.params ≤ most_params) (types_of fs)
  light : total field_weight fs ≤ most_weight

numbers_fit : (fs : List Field) → FieldsFit fs → NumbersFit (module_of_fields fs)
numbers_fit fs h =
    let names = names_of fs in
    let m = module_of_fields fs in
    let own : (s : Space) → AllByRecursion PartsFit (own_of fs s) = λ s. parts_all PartsFit (λ f. enters s f && not (is_import f.kind)) fs h.parts in
    record {
      imports = All-from_recursion (λ (i : Imported). ImportFits i.kind) m.imports
          (mapped (λ (i : Imported). ImportFits i.kind) (import_of names) (parts_of (λ f. is_import f.kind) fs)
          (weaker IsBrought (λ ps. ImportFits (import_kind_in names ps)) (λ ps k. import_fits names h.names ps k.0 k.1) (parts_of (λ f. is_import f.kind) fs) h.brought));
      functions = All-from_recursion FitsU32 m.functions
          (mapped FitsU32 (function_type_in names) (own_of fs spaces.Func) (weaker PartsFit (λ ps. FitsU32 (function_type_in names ps)) (type_number_fits names h.names) (own_of fs spaces.Func) (own spaces.Func)));
      tables = All-from_recursion LimitsFit m.tables (mapped LimitsFit limits_in (own_of fs spaces.Table) (weaker PartsFit (λ ps. LimitsFit (limits_in ps)) (λ ps k. limits_fit ps k.fine) (own_of fs spaces.Table) (own spaces.Table)));
      memories = All-from_recursion LimitsFit m.memories (mapped LimitsFit limits_in (own_of fs spaces.Memory) (weaker PartsFit (λ ps. LimitsFit (limits_in ps)) (λ ps k. limits_fit ps k.fine) (own_of fs spaces.Memory) (own spaces.Memory)));
      globals = All-from_recursion (λ (g : GlobalEntry). All InstructionFits g.init) m.globals
          (mapped (λ (g : GlobalEntry). All InstructionFits g.init) (global_of names) (own_of fs spaces.Global)
          (weaker PartsFit (λ ps. All InstructionFits (code_in names [] ps)) (λ ps k. All-from_recursion InstructionFits (code_in names [] ps) (constant_fits names h.names ps k)) (own_of fs spaces.Global) (own spaces.Global)));
      exports = All-from_recursion (λ (e : Exported). ExportFits e.kind) m.exports
          (mapped (λ (e : Exported). ExportFits e.kind) (export_of names) (parts_of (λ f. is_export f.kind) fs)
          (weaker PartsFit (λ ps. ExportFits ((export_of names ps).kind)) (λ ps k. export_fits names h.names ps k.fine) (parts_of (λ f. is_export f.kind) fs) (parts_all PartsFit (λ f. is_export f.kind) fs h.parts)));
      start = start_fits names h.names (parts_of (λ f. is_start f.kind) fs) (parts_all PartsFit (λ f. is_start f.kind) fs h.parts);
      elements = All-from_recursion ElementFits m.elements (mapped ElementFits (element_of names) (own_of fs spaces.Elem) (weaker PartsFit (λ ps. ElementFits (element_of names ps)) (element_fits names h.names) (own_of fs spaces.Elem) (own spaces.Elem)));
      bodies = All-from_recursion BodyFits m.bodies
          (mapped BodyFits (body_of names (types_of fs)) (own_of fs spaces.Func) (weaker PartsFit (λ ps. BodyFits (body_of names (types_of fs) ps)) (body_fits names h.names (types_of fs) h.low) (own_of fs spaces.Func) (own spaces.Func)));
      segments = All-from_recursion SegmentFits m.segments
          (mapped SegmentFits (segment_of names) (own_of fs spaces.Data)
          (weaker PartsFit (λ ps. SegmentFits (segment_of names ps)) (λ ps k. record {
            memory = omega arith;
            offset = All-from_recursion InstructionFits (code_in names [] ps) (constant_fits names h.names ps k);
            bytes = All-from_recursion (λ b. b < 256) (flat_map text_of (all_with is_bytes ps)) (data_bytes ps k.bytes);
          }) (own_of fs spaces.Data) (own spaces.Data)));
    }

-- a section of what parts of fields say
parts_fit : {Y : Type 0} (Q : List Marked → Type 0) (f : Y → List ℕ) (g : List Marked → Y) (pss : List (List Marked)) → ((ps : List Marked) → Q ps → length (f (g ps)) ≤ 64 * parts_weight ps) → AllByRecursion Q pss
    → total parts_weight pss ≤ most_weight → FitsU32 (length (vector f (map g pss)))
parts_fit Q f g pss short all light = section_fits f g parts_weight pss (weaker Q (λ ps. (1 ≤ parts_weight ps) × (length (f (g ps)) ≤ 64 * parts_weight ps)) (λ ps q. (omega arith, short ps q)) pss all) light

own_light : (fs : List Field) → total field_weight fs ≤ most_weight → (test : Field → Bool) → total parts_weight (parts_of test fs) ≤ most_weight
own_light fs light test = let less = parts_light test fs in omega (arith, less, light)

sections_fit : (fs : List Field) → FieldsFit fs → SectionsFit (module_of_fields fs)
sections_fit fs h =
    let names = names_of fs in
    let own : (s : Space) → AllByRecursion PartsFit (own_of fs s) = λ s. parts_all PartsFit (λ f. enters s f && not (is_import f.kind)) fs h.parts in
    let light : (s : Space) → total parts_weight (own_of fs s) ≤ most_weight = λ s. own_light fs h.light (λ f. enters s f && not (is_import f.kind)) in
    let types = filter (enters spaces.Type) fs in
    let types_light = fields_filtered_light (enters spaces.Type) fs in
    let all_light = h.light in
    let typed : AllByRecursion (λ (f : Field). (1 ≤ field_weight f) × (length (function_type (signature_of f.parts)) ≤ 64 * field_weight f)) types =
    weaker (λ (f : Field). (enters spaces.Type f ≡ true) × PartsFit f.parts) (λ (f : Field). (1 ≤ field_weight f) × (length (function_type (signature_of f.parts)) ≤ 64 * field_weight f))
    (λ f k. (omega arith, type_short f.parts k.1)) types (passing (λ (f : Field). PartsFit f.parts) (enters spaces.Type) fs h.parts) in
    record {
      types = section_fits function_type (λ (f : Field). signature_of f.parts) field_weight types typed (omega (arith, types_light, all_light));
      imports = parts_fit IsBrought imported (import_of names) (parts_of (λ f. is_import f.kind) fs) (λ ps k. import_short names h.names ps k.0 k.1) h.brought (own_light fs h.light (λ f. is_import f.kind));
      functions = parts_fit PartsFit unsigned (function_type_in names) (own_of fs spaces.Func) (λ ps k. (let short = numbers_are_short (function_type_in names ps) (type_number_fits names h.names ps k) in omega (arith, short))) (own spaces.Func) (light spaces.Func);
      tables = parts_fit PartsFit table limits_in (own_of fs spaces.Table) table_short (own spaces.Table) (light spaces.Table);
      memories = parts_fit PartsFit limits limits_in (own_of fs spaces.Memory) limits_short (own spaces.Memory) (light spaces.Memory);
      globals = parts_fit PartsFit global (global_of names) (own_of fs spaces.Global) (global_short names h.names) (own spaces.Global) (light spaces.Global);
      exports = parts_fit PartsFit exported (export_of names) (parts_of (λ f. is_export f.kind) fs) (export_short names h.names) (parts_all PartsFit (λ f. is_export f.kind) fs h.parts) (own_light fs h.light (λ f. is_export f.kind));
      elements = parts_fit PartsFit element (element_of names) (own_of fs spaces.Elem) (element_short names h.names) (own spaces.Elem) (light spaces.Elem);
      bodies = parts_fit PartsFit (λ b. sized (body b)) (body_of names (types_of fs)) (own_of fs spaces.Func) (body_short names h.names (types_of fs) h.low) (own spaces.Func) (light spaces.Func);
      segments = parts_fit PartsFit segment (segment_of names) (own_of fs spaces.Data) (segment_short names h.names) (own spaces.Data) (light spaces.Data);
    }

fields_fit : (text : List ℕ) (ms : List Marked) → AreBytes text → length text ≤ 16777216 → IsMarked text ms → rows_of ms ≡ [] → FieldsFit (fields_of ms)
fields_fit text ms bytes short marked none =
    let fs = fields_of ms in
    let weigh = marks_light text ms marked in
    let less = fields_light ms in
    let light : total field_weight fs ≤ most_weight = omega (arith, weigh, less, short) in
    let many = few_fields fs in
    let rest = utf8_rows ms ++ (taken_rows fs ms ++ (flat_map (field_rows (names_of fs) (types_of fs)) fs ++ (order_rows false false fs ++ (count_rows fs ++ entry_rows ms)))) in
    let fine = (parts_hold IsFine ms (numbers_held ms (empty_parts (number_rows ms) rest none).0)).1 in
    let of_bytes = (parts_hold IsOfBytes ms (marks_of_bytes text ms bytes marked)).1 in
    let few = each_light fs most_weight light in
    let fits : AllByRecursion (λ (f : Field). PartsFit f.parts) fs =
    weaker (λ (f : Field). AllByRecursion IsFine f.parts × (AllByRecursion IsOfBytes f.parts × (field_weight f ≤ most_weight))) (λ (f : Field). PartsFit f.parts)
    (λ f k. record { fine = k.0; bytes = k.1.0; light = (let w = k.1.1 in omega (arith, w)) }) fs
    (both (λ (f : Field). AllByRecursion IsFine f.parts) (λ (f : Field). AllByRecursion IsOfBytes f.parts × (field_weight f ≤ most_weight)) fs fine
    (both (λ (f : Field). AllByRecursion IsOfBytes f.parts) (λ (f : Field). field_weight f ≤ most_weight) fs of_bytes few)) in
    let holds = fields_hold ms marked.tokens marked.is_grammatical in
    let importing = filter (λ f. is_import f.kind) fs in
    record {
      names = names_few fs (omega (arith, many, light));
      parts = fits;
      brought = mapped IsBrought (λ (f : Field). f.parts) importing
          (weaker (λ (f : Field). (is_import f.kind ≡ true) × (PartsFit f.parts × FieldHolds f)) (λ (f : Field). IsBrought f.parts) (λ f k. (k.1.0, brought_kind f.kind f.parts k.0 (k.1.1).form)) importing
          (passing (λ (f : Field). PartsFit f.parts × FieldHolds f) (λ f. is_import f.kind) fs (both (λ (f : Field). PartsFit f.parts) FieldHolds fs fits holds)));
      low = recursion_from_All (λ (t : FunctionType). length t.params ≤ most_params) (types_of fs) (within_marks ms marked.tokens marked.is_grammatical none).params;
      light = light;
    }

writable_marks : (text : List ℕ) (ms : List Marked) → AreBytes text → length text ≤ 16777216 → IsMarked text ms → rows_of ms ≡ [] → IsWritable (module_of ms)
writable_marks text ms bytes short marked none =
    let fit = fields_fit text ms bytes short marked none in
    fitting_are_writable (module_of ms) (shaped_marks ms marked.tokens marked.is_grammatical none) (numbers_fit (fields_of ms) fit) (sections_fit (fields_of ms) fit)

pub said_is_writable : (text : List ℕ) (m : WasmModule) → AreBytes text → length text ≤ 16777216 → SaysModule text m → IsWritable m
said_is_writable text m bytes short h = subst IsWritable h.is_this (writable_marks text h.marks bytes short h.is_marked h.is_accepted)
