-- The reading of a module by the heads of its sections, in three steps: the same as `read_module`, as a lemma of this crate says.
use Rattle.std.specs.Prelude.{ℕ, List, [], ◌∷◌, length, ◌==◌, Result, Ok, Option, Some, None}
use Rattle.sem_words.specs.Lists.{list_items}
use Rattle.wasm_lang.specs.declared.fault.Fault.{Fault}
use Rattle.wasm_lang.specs.declared.fault.Row.TheVariants.{Magic, Version, Counts}
use Rattle.wasm_lang.specs.declared.types.Limits.{Limits}
use Rattle.wasm_lang.specs.Modules.{FunctionType, Imported, GlobalEntry, Exported, ElementSegment, WasmModule}
use Rattle.wasm_lang.specs.Reading.{Input, ◌>>=◌, expects, onto, vec_field, u32}
use Rattle.wasm_lang.specs.ReadingModule.{header_field, types_content, imports_content, functions_content, table_field, memory_field, globals_content, export_field, element_field, bodies_content, segments_content, counts, customs_field, end_field}
use Rattle.wasm_binary.specs.declared.reader.Declared.{Declared}
use Rattle.wasm_binary.specs.declared.reader.Defined.{Defined}
use Rattle.wasm_binary.specs.Parts.{part_by}
use Rattle.wasm_binary_entries.specs.Views.{types_of, imports_of, globals_of, exports_of, elements_of}

-- the sections before the exports
pub record Front : Type 0 where
  pub types : List FunctionType
  pub imports : List Imported
  pub functions : List ℕ
  pub tables : List Limits
  pub memories : List Limits
  pub globals : List GlobalEntry

-- the sections between the globals and the data count
pub record Middle : Type 0 where
  pub exports : List Exported
  pub start : Option ℕ
  pub elements : List ElementSegment

abbrev pub front_of : Declared → Front
front_of d = record {
  types = types_of d.types;
  imports = imports_of d.imports;
  functions = list_items d.functions;
  tables = list_items d.tables;
  memories = list_items d.memories;
  globals = globals_of d.globals;
}

abbrev pub middle_of : Defined → Middle
middle_of d = record { exports = exports_of d.exports; start = d.start; elements = elements_of d.elements }

-- from the code on
abbrev pub contents_from : Front → Middle → Option ℕ → Input → Result WasmModule Fault
contents_from front middle count i =
    part_by 10 [] (bodies_content front.types front.functions) i >>= λ bodies.
    part_by 11 [] (segments_content count) bodies.1 >>= λ segments.
    customs_field segments.1 >>= λ i.
    end_field i >>= λ at.
    expects (length bodies.0 == length front.functions) Counts at >>= λ _.
    expects (counts count (length segments.0)) Counts at >>= λ _.
    Ok (record {
      types = front.types;
      imports = front.imports;
      functions = front.functions;
      tables = front.tables;
      memories = front.memories;
      globals = front.globals;
      exports = middle.exports;
      start = middle.start;
      elements = middle.elements;
      bodies = bodies.0;
      segments = segments.0;
    })

-- from the exports on
abbrev pub definitions_from : Front → Input → Result WasmModule Fault
definitions_from front i =
    part_by 7 [] (vec_field export_field) i >>= λ es.
    part_by 8 None (λ i. onto Some (u32 i)) es.1 >>= λ start.
    part_by 9 [] (vec_field element_field) start.1 >>= λ elements.
    part_by 12 None (λ i. onto Some (u32 i)) elements.1 >>= λ count.
    contents_from front (record { exports = es.0; start = start.0; elements = elements.0 }) count.0 count.1

-- from the functions on
abbrev pub declarations_from : List FunctionType → List Imported → Input → Result WasmModule Fault
declarations_from types is i =
    part_by 3 [] (functions_content is) i >>= λ functions.
    part_by 4 [] (vec_field table_field) functions.1 >>= λ tables.
    part_by 5 [] (vec_field memory_field) tables.1 >>= λ memories.
    part_by 6 [] (globals_content is) memories.1 >>= λ globals.
    definitions_from (record { types = types; imports = is; functions = functions.0; tables = tables.0; memories = memories.0; globals = globals.0 }) globals.1

-- after the header
abbrev pub sections_from : Input → Result WasmModule Fault
sections_from i =
    part_by 1 [] types_content i >>= λ types.
    part_by 2 [] imports_content types.1 >>= λ is.
    declarations_from types.0 is.0 is.1

abbrev pub read_by_parts : List ℕ → Result WasmModule Fault
read_by_parts bytes =
    header_field Magic (0x00 ∷ 0x61 ∷ 0x73 ∷ 0x6d ∷ []) (record { at = 0; bytes = bytes }) >>= λ i.
    header_field Version (0x01 ∷ 0x00 ∷ 0x00 ∷ 0x00 ∷ []) i >>= λ i.
    sections_from i
