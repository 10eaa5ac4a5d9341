-- Reading a module: its sections in their order.
use Rattle.std.specs.Prelude.{ℕ, zero, suc, ◌+◌, List, [], ◌∷◌, ◌++◌, length, replicate, drop, Bool, true, false, nat_le, ◌==◌, if◌then◌else◌, Result, Ok, Option, Some, None}
use Rattle.wasm_lang.specs.declared.fault.Fault.{Fault}
use Rattle.wasm_lang.specs.declared.fault.Row.{Row}
use Rattle.wasm_lang.specs.declared.fault.Row.TheVariants.{Magic, Version, Truncated, SectionOrder, SectionSize, UnknownByte, Counts, Limit}
use Rattle.wasm_lang.specs.declared.types.ValType.{ValType}
use Rattle.wasm_lang.specs.declared.types.Limits.{Limits}
use Rattle.wasm_lang.specs.declared.types.GlobalType.{GlobalType}
use Rattle.wasm_lang.specs.declared.types.ImportKind.{ImportKind}
use Rattle.wasm_lang.specs.declared.types.ImportKind.TheVariants as imports
use Rattle.wasm_lang.specs.declared.types.ExportKind.{ExportKind}
use Rattle.wasm_lang.specs.declared.types.ExportKind.TheVariants as exports
use Rattle.wasm_lang.specs.Modules.{FunctionType, Imported, GlobalEntry, Exported, ElementSegment, DataSegment, FunctionBody, WasmModule}
use Rattle.wasm_lang.specs.Limits.{most_types, most_functions, most_params, most_locals, most_globals, most_entries, function_imports, global_imports, params_of}
use Rattle.wasm_lang.specs.Reading.{Input, Field, ◌>>=◌, fault, expects, byte_field, u32_field, byte, u32, exactly, onto, items_field, vec_field, count_field, bytes_field, name_field, sized, val_type_field}
use Rattle.wasm_lang.specs.ReadingCode.{code_field}

-- ---- types

abbrev pub function_type_field : Input → Field FunctionType
function_type_field i =
    exactly 0x60 i >>= λ b.
    count_field 0 most_params b.1 >>= λ n.
    items_field val_type_field n.0 n.1 >>= λ ps.
    vec_field val_type_field ps.1 >>= λ rs.
    Ok (record { params = ps.0; results = rs.0 }, rs.1)

-- a byte 0 or 1
abbrev pub flag_field : Input → Field Bool
flag_field i = byte i >>= λ b. flag b.0 >>= λ f. Ok (f, b.1)
  where
    flag : ℕ → Result Bool Fault
    flag b = if b == 0x00 then Ok false else (if b == 0x01 then Ok true else fault UnknownByte i.at)

-- limits, by the field of their minimum
abbrev pub limits_by : (Input → Field ℕ) → Input → Field Limits
limits_by min i = flag_field i >>= λ more. min more.1 >>= λ n. max_if more.0 n.0 n.1
  where
    max_if : Bool → ℕ → Input → Field Limits
    max_if false n j = Ok (record { min = n; max = None }, j)
    max_if true n j = u32 j >>= λ m. Ok (record { min = n; max = Some m.0 }, m.1)

abbrev pub memory_field : Input → Field Limits
memory_field = limits_by u32

abbrev pub table_field : Input → Field Limits
table_field i = exactly 0x70 i >>= λ b. limits_by (count_field 0 most_entries) b.1

abbrev pub global_type_field : Input → Field GlobalType
global_type_field i = val_type_field i >>= λ t. flag_field t.1 >>= λ m. Ok (record { kind = t.0; mutable = m.0 }, m.1)

-- ---- entries of sections

-- what is imported, where so many functions and globals were imported before it
abbrev pub import_kind_field : (functions globals : ℕ) → Input → Field ImportKind
import_kind_field functions globals i = byte i >>= λ b. by b.0 b.1
  where
    by : ℕ → Input → Field ImportKind
    by b j =
        if b == 0x00 then (expects (nat_le (functions + 1) most_functions) Limit i.at >>= λ _. onto imports.Func (u32 j))
        else (if b == 0x01 then onto imports.Table (table_field j)
        else (if b == 0x02 then onto imports.Memory (memory_field j)
        else (if b == 0x03 then (expects (nat_le (globals + 1) most_globals) Limit i.at >>= λ _. onto imports.Global (global_type_field j))
        else fault UnknownByte i.at)))

abbrev pub import_field : (functions globals : ℕ) → Input → Field Imported
import_field functions globals i =
    name_field i >>= λ m.
    name_field m.1 >>= λ n.
    import_kind_field functions globals n.1 >>= λ k.
    Ok (record { module_name = m.0; name = n.0; kind = k.0 }, k.1)

-- so many imports
abbrev pub imports_field : (functions globals count : ℕ) → Input → Field (List Imported)
imports_field functions globals zero i = Ok ([], i)
imports_field functions globals (suc n) i =
    import_field functions globals i >>= λ x.
    imports_field (functions + function_imports (x.0 ∷ [])) (globals + global_imports (x.0 ∷ [])) n x.1 >>= λ xs.
    Ok (x.0 ∷ xs.0, xs.1)

abbrev pub global_field : Input → Field GlobalEntry
global_field i = global_type_field i >>= λ t. code_field t.1 >>= λ code. Ok (record { kind = t.0; init = code.0 }, code.1)

abbrev pub export_kind_field : Input → Field ExportKind
export_kind_field i = byte i >>= λ b. by b.0 b.1
  where
    by : ℕ → Input → Field ExportKind
    by b j =
        if b == 0x00 then onto exports.Func (u32 j)
        else (if b == 0x01 then onto exports.Table (u32 j)
        else (if b == 0x02 then onto exports.Memory (u32 j)
        else (if b == 0x03 then onto exports.Global (u32 j)
        else fault UnknownByte i.at)))

abbrev pub export_field : Input → Field Exported
export_field i = name_field i >>= λ n. export_kind_field n.1 >>= λ k. Ok (record { name = n.0; kind = k.0 }, k.1)

abbrev pub element_field : Input → Field ElementSegment
element_field i =
    u32 i >>= λ t.
    code_field t.1 >>= λ code.
    vec_field u32 code.1 >>= λ fs.
    Ok (record { table = t.0; offset = code.0; functions = fs.0 }, fs.1)

abbrev pub segment_field : Input → Field DataSegment
segment_field i =
    u32 i >>= λ m.
    code_field m.1 >>= λ code.
    bytes_field code.1 >>= λ bytes.
    Ok (record { memory = m.0; offset = code.0; bytes = bytes.0 }, bytes.1)

-- so many runs of locals, where the function has so many parameters and locals before them
abbrev pub runs_field : (used count : ℕ) → Input → Field (List ValType)
runs_field used zero i = Ok ([], i)
runs_field used (suc n) i =
    count_field used most_locals i >>= λ k.
    val_type_field k.1 >>= λ t.
    runs_field (used + k.0) n t.1 >>= λ ts.
    Ok (replicate k.0 t.0 ++ ts.0, ts.1)

abbrev pub body_content : (params : ℕ) → Input → Field FunctionBody
body_content params i =
    u32 i >>= λ n.
    runs_field params n.0 n.1 >>= λ locals.
    code_field locals.1 >>= λ code.
    Ok (record { locals = locals.0; code = code.0 }, code.1)

-- a body's size, which has to fit its section, and the body
abbrev pub body_field : (params : ℕ) → Input → Field FunctionBody
body_field params i =
    u32 i >>= λ size.
    expects (nat_le size.0 (length size.1.bytes)) SectionSize i.at >>= λ _.
    sized size.0 (body_content params) size.1

-- a body for each function, by the number of its type
abbrev pub bodies_field : List FunctionType → List ℕ → Input → Field (List FunctionBody)
bodies_field types [] i = Ok ([], i)
bodies_field types (t ∷ ts) i =
    body_field (params_of types t) i >>= λ b.
    bodies_field types ts b.1 >>= λ bs.
    Ok (b.0 ∷ bs.0, bs.1)

-- ---- contents of sections

abbrev pub types_content : Input → Field (List FunctionType)
types_content i = count_field 0 most_types i >>= λ n. items_field function_type_field n.0 n.1

abbrev pub imports_content : Input → Field (List Imported)
imports_content i = u32 i >>= λ n. imports_field 0 0 n.0 n.1

abbrev pub functions_content : List Imported → Input → Field (List ℕ)
functions_content is i = count_field (function_imports is) most_functions i >>= λ n. items_field u32 n.0 n.1

abbrev pub globals_content : List Imported → Input → Field (List GlobalEntry)
globals_content is i = count_field (global_imports is) most_globals i >>= λ n. items_field global_field n.0 n.1

-- as many bodies as functions
abbrev pub bodies_content : List FunctionType → List ℕ → Input → Field (List FunctionBody)
bodies_content types functions i =
    u32 i >>= λ n.
    expects (n.0 == length functions) Counts i.at >>= λ _.
    bodies_field types functions n.1

-- whether a data count, where there is one, is this
abbrev pub counts : Option ℕ → ℕ → Bool
counts None n = true
counts (Some count) n = count == n

abbrev pub segments_content : Option ℕ → Input → Field (List DataSegment)
segments_content count i =
    u32 i >>= λ n.
    expects (counts count n.0) Counts i.at >>= λ _.
    items_field segment_field n.0 n.1

-- a name, and whatever follows
abbrev pub custom_content : Input → Field (List ℕ)
custom_content i = name_field i >>= λ n. Ok (n.0, record { at = n.1.at + length n.1.bytes; bytes = [] })

-- ---- sections

-- a section after its id: its size, which has to fit the input, and its content
abbrev pub section_field : {X : Type 0} → (Input → Field X) → Input → Field X
section_field content i =
    u32_field Truncated i >>= λ size.
    expects (nat_le size.0 (length size.1.bytes)) Truncated (size.1.at + length size.1.bytes) >>= λ _.
    sized size.0 content size.1

abbrev pub begins_with : ℕ → List ℕ → Bool
begins_with id [] = false
begins_with id (b ∷ bs) = b == id

abbrev pub after_id : Input → Input
after_id i = record { at = i.at + 1; bytes = drop 1 i.bytes }

-- the custom sections that stand next, so many at most, are passed over
abbrev pub customs_within : ℕ → Input → Result Input Fault
customs_within zero i = Ok i
customs_within (suc n) i =
    if begins_with 0 i.bytes then (section_field custom_content (after_id i) >>= λ x. customs_within n x.1) else Ok i

abbrev pub customs_field : Input → Result Input Fault
customs_field i = customs_within (length i.bytes) i

-- the section with this id where it stands next, or what a module without it has
abbrev pub part_field : {X : Type 0} → ℕ → X → (Input → Field X) → Input → Field X
part_field id absent content i =
    customs_field i >>= λ j.
    if begins_with id j.bytes then section_field content (after_id j) else Ok (absent, j)

-- these bytes
abbrev pub header_field : Row → List ℕ → Input → Result Input Fault
header_field row [] i = Ok i
header_field row (expected ∷ es) i =
    byte_field Truncated i >>= λ b.
    expects (b.0 == expected) row i.at >>= λ _.
    header_field row es b.1

-- nothing stands after the last section: a section there is out of order, and another byte isn't an id
abbrev pub end_field : Input → Result ℕ Fault
end_field i = by i.bytes
  where
    by : List ℕ → Result ℕ Fault
    by [] = Ok i.at
    by (b ∷ bs) = fault (if nat_le b 12 then SectionOrder else UnknownByte) i.at

-- the bytes as a module, or the first field that can't be read
unfoldable pub read_module : List ℕ → Result WasmModule Fault
read_module bytes =
    header_field Magic (0x00 ∷ 0x61 ∷ 0x73 ∷ 0x6d ∷ []) (record { at = 0; bytes = bytes }) >>= λ i.
    header_field Version (0x01 ∷ 0x00 ∷ 0x00 ∷ 0x00 ∷ []) i >>= λ i.
    part_field 1 [] types_content i >>= λ types.
    part_field 2 [] imports_content types.1 >>= λ is.
    part_field 3 [] (functions_content is.0) is.1 >>= λ functions.
    part_field 4 [] (vec_field table_field) functions.1 >>= λ tables.
    part_field 5 [] (vec_field memory_field) tables.1 >>= λ memories.
    part_field 6 [] (globals_content is.0) memories.1 >>= λ globals.
    part_field 7 [] (vec_field export_field) globals.1 >>= λ es.
    part_field 8 None (λ i. onto Some (u32 i)) es.1 >>= λ start.
    part_field 9 [] (vec_field element_field) start.1 >>= λ elements.
    part_field 12 None (λ i. onto Some (u32 i)) elements.1 >>= λ count.
    part_field 10 [] (bodies_content types.0 functions.0) count.1 >>= λ bodies.
    part_field 11 [] (segments_content count.0) bodies.1 >>= λ segments.
    customs_field segments.1 >>= λ i.
    end_field i >>= λ at.
    expects (length bodies.0 == length functions.0) Counts at >>= λ _.
    expects (counts count.0 (length segments.0)) Counts at >>= λ _.
    Ok (record {
      types = types.0;
      imports = is.0;
      functions = functions.0;
      tables = tables.0;
      memories = memories.0;
      globals = globals.0;
      exports = es.0;
      start = start.0;
      elements = elements.0;
      bodies = bodies.0;
      segments = segments.0;
    })
