-- The module that the marks of a text say, where no row refuses it (chapter 6, as abstract syntax of chapter 2).
use Rattle.std.specs.Prelude.{ℕ, zero, suc, ◌+◌, ◌-◌, ◌^◌, Bool, true, false, ◌&&◌, not, List, [], ◌∷◌, ◌++◌, map, flat_map, length, take, take_while, filter, get_or, slice_get, Option, Some, None, option_map, option_and_then, unwrap_or, is_some, ℤ, pos, codes, ◌==◌}
use Rattle.sem_words.specs.Words.{word_of}
use Rattle.wasm_lang.specs.declared.types.ValType.{ValType}
use Rattle.wasm_lang.specs.declared.types.ValType.TheVariants.{I32}
use Rattle.wasm_lang.specs.declared.types.MemOp.{MemOp}
use Rattle.wasm_lang.specs.declared.types.Limits.{Limits}
use Rattle.wasm_lang.specs.declared.types.GlobalType.{GlobalType}
use Rattle.wasm_lang.specs.declared.types.ImportKind.{ImportKind}
use Rattle.wasm_lang.specs.declared.types.ImportKind.TheVariants as imports
use Rattle.wasm_lang.specs.declared.types.ExportKind.{ExportKind}
use Rattle.wasm_lang.specs.declared.types.ExportKind.TheVariants as exports
use Rattle.wasm_lang.specs.Instructions.{Plain, local_get, local_set, local_tee, global_get, global_set, load, store, const32, const64, Instruction, block, loop, if_block, end_mark, br, br_if, br_table, call, call_indirect, plain}
use Rattle.wasm_lang.specs.Limits.{params_of}
use Rattle.wasm_lang.specs.Modules.{FunctionType, Imported, GlobalEntry, Exported, ElementSegment, DataSegment, FunctionBody, WasmModule}
use Rattle.wat_lang.specs.declared.parts.Space.{Space}
use Rattle.wat_lang.specs.declared.parts.Space.TheVariants as spaces
use Rattle.wat_lang.specs.declared.parts.Part.TheVariants.{Local}
use Rattle.wat_lang.specs.declared.parts.FieldKind.{FieldKind}
use Rattle.wat_lang.specs.declared.parts.FieldKind.TheVariants as kinds
use Rattle.wat_lang.specs.Numbers.{number_of, access_of}
use Rattle.wat_lang.specs.Grammar.{Mark, an_exported, a_block_result, a_global_type, mutable, a_minimum, a_maximum, a_module_name, a_field_name, an_export_name, some_bytes, a_word_32, a_word_64, an_offset, an_alignment, an_instruction, Marked}
use Rattle.wat_lang.specs.Names.{text_of, type_of, uses_in, all_with, first_with, Field, fields_of, Entry, described, enters, is_import, Names, natural, index_of, names_of, types_in, types_of, type_use, local_names, labels_after, names_at}

-- ---- marks

abbrev pub is_block_result : Mark → Bool
is_block_result a_block_result = true
is_block_result _ = false

abbrev pub is_global_type : Mark → Bool
is_global_type a_global_type = true
is_global_type _ = false

abbrev pub is_mutable : Mark → Bool
is_mutable mutable = true
is_mutable _ = false

abbrev pub is_minimum : Mark → Bool
is_minimum (a_minimum s) = true
is_minimum _ = false

abbrev pub is_maximum : Mark → Bool
is_maximum a_maximum = true
is_maximum _ = false

abbrev pub is_module_name : Mark → Bool
is_module_name a_module_name = true
is_module_name _ = false

abbrev pub is_field_name : Mark → Bool
is_field_name a_field_name = true
is_field_name _ = false

abbrev pub is_export_name : Mark → Bool
is_export_name an_export_name = true
is_export_name _ = false

abbrev pub is_bytes : Mark → Bool
is_bytes some_bytes = true
is_bytes _ = false

abbrev pub is_word : Mark → Bool
is_word a_word_32 = true
is_word a_word_64 = true
is_word _ = false

abbrev pub is_offset : Mark → Bool
is_offset an_offset = true
is_offset _ = false

abbrev pub is_alignment : Mark → Bool
is_alignment an_alignment = true
is_alignment _ = false

abbrev pub is_instruction : Mark → Bool
is_instruction (an_instruction form) = true
is_instruction _ = false

-- ---- numbers

abbrev pub natural_or_0 : Option ℤ → ℕ
natural_or_0 z = unwrap_or (option_and_then natural z) 0

abbrev pub number_in : (Mark → Bool) → List Marked → Option ℤ
number_in test ms = option_and_then (λ m. number_of (text_of m)) (first_with test ms)

-- the exponent of a power of two below 2 ^ 32
abbrev pub exponent_from : (count k : ℕ) → ℕ → Option ℕ
exponent_from zero k n = None
exponent_from (suc count) k n = elim (2 ^ k == n) [ true ↦ Some k | false ↦ exponent_from count (k + 1) n ]

abbrev pub exponent_of : ℕ → Option ℕ
exponent_of n = exponent_from 32 0 n

abbrev pub offset_of : Marked → Option ℤ
offset_of m = access_of (codes "offset=") (text_of m)

abbrev pub alignment_of : Marked → Option ℤ
alignment_of m = access_of (codes "align=") (text_of m)

-- ---- instructions

-- the numbers that are used of a space, in order
abbrev pub used : (Space → Names) → Space → List Marked → List ℕ
used names s ms = map (λ m. unwrap_or (index_of (names s) (text_of m)) 0) (all_with (uses_in s) ms)

abbrev pub first_used : (Space → Names) → Space → List Marked → ℕ
first_used names s ms = get_or (used names s ms) 0 0

-- the last label is the default
abbrev pub table_of : List ℕ → Instruction
table_of ls = br_table (take (length ls - 1) ls) (get_or ls (length ls - 1) 0)

-- Where no alignment is written it is the natural one.
abbrev pub align_in : MemOp → List Marked → ℕ
align_in op ms = unwrap_or (exponent_of (elim (first_with is_alignment ms) [ Some m ↦ natural_or_0 (alignment_of m) | None ↦ op.size ])) 0

abbrev pub offset_in : List Marked → ℕ
offset_in ms = elim (first_with is_offset ms) [ Some m ↦ natural_or_0 (offset_of m) | None ↦ 0 ]

abbrev pub word_in : (bits : ℕ) → List Marked → ℕ
word_in bits ms = word_of bits (unwrap_or (number_in is_word ms) (pos 0))

-- a form with its immediates
abbrev pub plain_with : (Space → Names) → List Marked → Plain → Plain
plain_with names ms (local_get x) = local_get (first_used names spaces.Local ms)
plain_with names ms (local_set x) = local_set (first_used names spaces.Local ms)
plain_with names ms (local_tee x) = local_tee (first_used names spaces.Local ms)
plain_with names ms (global_get x) = global_get (first_used names spaces.Global ms)
plain_with names ms (global_set x) = global_set (first_used names spaces.Global ms)
plain_with names ms (load op align offset) = load op (align_in op ms) (offset_in ms)
plain_with names ms (store op align offset) = store op (align_in op ms) (offset_in ms)
plain_with names ms (const32 word) = const32 (word_in 32 ms)
plain_with names ms (const64 word) = const64 (word_in 64 ms)
plain_with names ms p = p

abbrev pub block_type : List Marked → Option ValType
block_type ms = option_map type_of (first_with is_block_result ms)

abbrev pub with_immediates : (Space → Names) → List Marked → Instruction → Instruction
with_immediates names ms (block r) = block (block_type ms)
with_immediates names ms (loop r) = loop (block_type ms)
with_immediates names ms (if_block r) = if_block (block_type ms)
with_immediates names ms (br l) = br (first_used names spaces.Label ms)
with_immediates names ms (br_if l) = br_if (first_used names spaces.Label ms)
with_immediates names ms (br_table ls l) = table_of (used names spaces.Label ms)
with_immediates names ms (call f) = call (first_used names spaces.Func ms)
with_immediates names ms (call_indirect t) = call_indirect (first_used names spaces.Type ms)
with_immediates names ms (plain p) = plain (plain_with names ms p)
with_immediates names ms i = i

-- what stands before the next instruction
abbrev pub immediates_in : List Marked → List Marked
immediates_in ms = take_while (λ m. not (is_instruction m.mark)) ms

abbrev pub instruction_at : (Space → Names) → List Marked → Mark → List Instruction
instruction_at names ms (an_instruction form) = with_immediates names (immediates_in ms) form ∷ []
instruction_at names ms _ = []

-- the instructions, where these labels are open before them
abbrev pub instructions_in : (Names → Space → Names) → (labels : Names) → List Marked → List Instruction
instructions_in names labels [] = []
instructions_in names labels (m ∷ ms) = instruction_at (names labels) ms m.mark ++ instructions_in names (labels_after labels m) ms

-- the last end of an expression isn't written
abbrev pub code_in : (Space → Names) → (locals : Names) → List Marked → List Instruction
code_in module_names locals ms = instructions_in (names_at module_names locals) [] ms ++ end_mark ∷ []

-- ---- parts of fields

abbrev pub limits_in : List Marked → Limits
limits_in ms = record { min = natural_or_0 (number_in is_minimum ms); max = option_map (λ z. natural_or_0 (Some z)) (number_in is_maximum ms) }

abbrev pub value_type_in : (Mark → Bool) → List Marked → ValType
value_type_in test ms = unwrap_or (option_map type_of (first_with test ms)) I32

abbrev pub global_type_in : List Marked → GlobalType
global_type_in ms = record { kind = value_type_in is_global_type ms; mutable = is_some (first_with is_mutable ms) }

abbrev pub string_in : (Mark → Bool) → List Marked → List ℕ
string_in test ms = elim (first_with test ms) [ Some m ↦ text_of m | None ↦ [] ]

abbrev pub function_type_in : (Space → Names) → List Marked → ℕ
function_type_in names ms = unwrap_or (type_use (names spaces.Type) ms) 0

abbrev pub import_kind_in : (Space → Names) → List Marked → ImportKind
import_kind_in names ms = by (described ms)
  where
    of_space : Space → ImportKind
    of_space spaces.Table = imports.Table (limits_in ms)
    of_space spaces.Memory = imports.Memory (limits_in ms)
    of_space spaces.Global = imports.Global (global_type_in ms)
    of_space _ = imports.Func (function_type_in names ms)

    by : Option Entry → ImportKind
    by None = imports.Func 0
    by (Some e) = of_space e.space

abbrev pub exported_by : (Space → Names) → List Marked → ExportKind → Mark → ExportKind
exported_by names ms others (an_exported spaces.Func) = exports.Func (first_used names spaces.Func ms)
exported_by names ms others (an_exported spaces.Table) = exports.Table (first_used names spaces.Table ms)
exported_by names ms others (an_exported spaces.Memory) = exports.Memory (first_used names spaces.Memory ms)
exported_by names ms others (an_exported spaces.Global) = exports.Global (first_used names spaces.Global ms)
exported_by names ms others _ = others

abbrev pub export_kind_in : (Space → Names) → List Marked → ExportKind
export_kind_in names [] = exports.Func 0
export_kind_in names (m ∷ ms) = exported_by names ms (export_kind_in names ms) m.mark

-- ---- the module

abbrev pub parts_of : (Field → Bool) → List Field → List (List Marked)
parts_of test fs = map (λ f. f.parts) (filter test fs)

abbrev pub own_of : List Field → Space → List (List Marked)
own_of fs s = parts_of (λ f. enters s f && not (is_import f.kind)) fs

abbrev pub is_export : FieldKind → Bool
is_export kinds.Export = true
is_export _ = false

abbrev pub is_start : FieldKind → Bool
is_start kinds.Start = true
is_start _ = false

abbrev pub import_of : (Space → Names) → List Marked → Imported
import_of names ms = record { module_name = string_in is_module_name ms; name = string_in is_field_name ms; kind = import_kind_in names ms }

abbrev pub global_of : (Space → Names) → List Marked → GlobalEntry
global_of names ms = record { kind = global_type_in ms; init = code_in names [] ms }

abbrev pub export_of : (Space → Names) → List Marked → Exported
export_of names ms = record { name = string_in is_export_name ms; kind = export_kind_in names ms }

-- Segments are of the table 0 and of the memory 0.
abbrev pub element_of : (Space → Names) → List Marked → ElementSegment
element_of names ms = record { table = 0; offset = code_in names [] ms; functions = used names spaces.Func ms }

abbrev pub segment_of : (Space → Names) → List Marked → DataSegment
segment_of names ms = record { memory = 0; offset = code_in names [] ms; bytes = flat_map text_of (all_with is_bytes ms) }

abbrev pub body_of : (Space → Names) → List FunctionType → List Marked → FunctionBody
body_of names types ms = record {
  locals = types_in Local ms;
  code = code_in names (local_names (params_of types (function_type_in names ms)) ms) ms;
}

abbrev pub module_of_fields : List Field → WasmModule
module_of_fields fs = record {
  types = types_of fs;
  imports = map (import_of (names_of fs)) (parts_of (λ f. is_import f.kind) fs);
  functions = map (function_type_in (names_of fs)) (own_of fs spaces.Func);
  tables = map limits_in (own_of fs spaces.Table);
  memories = map limits_in (own_of fs spaces.Memory);
  globals = map (global_of (names_of fs)) (own_of fs spaces.Global);
  exports = map (export_of (names_of fs)) (parts_of (λ f. is_export f.kind) fs);
  start = slice_get (map (first_used (names_of fs) spaces.Func) (parts_of (λ f. is_start f.kind) fs)) 0;
  elements = map (element_of (names_of fs)) (own_of fs spaces.Elem);
  bodies = map (body_of (names_of fs) (types_of fs)) (own_of fs spaces.Func);
  segments = map (segment_of (names_of fs)) (own_of fs spaces.Data);
}

abbrev pub module_of : List Marked → WasmModule
module_of ms = module_of_fields (fields_of ms)
