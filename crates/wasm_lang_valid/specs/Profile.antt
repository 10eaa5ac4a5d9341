-- Which valid modules can be translated. The limits are this product's own.
use Rattle.std.specs.Prelude.{◌≡◌, ℕ, zero, suc, ◌+◌, ◌*◌, Bool, true, false, ◌&&◌, nat_eq, nat_lt, nat_le, cond, List, [], ◌∷◌, length, Option, Some, None, slice_get}
use Rattle.std.specs.Cmp.Lexicographic.{pointwise}
use Rattle.wasm_lang.specs.declared.types.ValType.TheVariants.{I64}
use Rattle.wasm_lang.specs.declared.types.Limits.{Limits}
use Rattle.wasm_lang.specs.declared.types.ImportKind.{ImportKind}
use Rattle.wasm_lang.specs.declared.types.ImportKind.TheVariants as imports
use Rattle.wasm_lang.specs.Instructions.{Instruction, plain, const32, global_get}
use Rattle.wasm_lang.specs.Modules.{FunctionType, Imported, ElementSegment, DataSegment, WasmModule}
use Rattle.wasm_lang_valid.specs.declared.profile.Beyond.TheVariants.{ImportedTable, MutableImport, WideImport, OffsetFromImport, SegmentOutside, MemoryLarge, Levels, MixedImport, Size, WideMulDiv}
use Rattle.wasm_lang_valid.specs.declared.profile.Outside.{Outside}
use Rattle.wasm_lang_valid.specs.Measures.{env_name, high_name, measures_of}
use Rattle.wasm_lang_valid.specs.ModuleRules.{is_table, function_types, global_types}
use Rattle.wasm_lang_valid.specs.Runnable.{is_mutable, first_import, or_else, above, row_or, pages, most_pages_to_run}
use Rattle.wasm_lang_valid.specs.Typing.{same_result, result_of}
use Rattle.wasm_lang_valid.specs.Validity.{IsValidModule}

-- this value where the test holds, else another
abbrev pub where_so : Bool → ℕ → Option ℕ → Option ℕ
where_so true value other = Some value
where_so false value other = other

-- a global of 64 bits, or the function `$high` of `env` with a result of 64 bits

abbrev pub has_wide_result : Option FunctionType → Bool
has_wide_result None = false
has_wide_result (Some t) = same_result (result_of t) (Some I64)

abbrev pub is_wide_kind : WasmModule → Imported → ImportKind → Bool
is_wide_kind m i (imports.Global g) = same_result (Some g.kind) (Some I64)
is_wide_kind m i (imports.Func t) = pointwise nat_eq i.module_name env_name && pointwise nat_eq i.name high_name && has_wide_result (slice_get m.types t)
is_wide_kind m i _ = false

abbrev pub wide_import : WasmModule → ℕ → List Imported → Option ℕ
wide_import m n [] = None
wide_import m n (i ∷ is) = where_so (is_wide_kind m i i.kind) n (wide_import m (n + 1) is)

-- segments, those of the table first

abbrev pub is_global_offset : List Instruction → Bool
is_global_offset (plain (global_get x) ∷ is) = true
is_global_offset is = false

-- the offset where it is a constant
abbrev pub constant_offset : List Instruction → Option ℕ
constant_offset (plain (const32 n) ∷ is) = Some n
constant_offset is = None

abbrev pub passes : Option ℕ → ℕ → ℕ → Bool
passes None size room = false
passes (Some offset) size room = nat_lt room (offset + size)

abbrev pub global_segment : ℕ → List DataSegment → Option ℕ
global_segment n [] = None
global_segment n (d ∷ ds) = where_so (is_global_offset d.offset) n (global_segment (n + 1) ds)

abbrev pub offset_from_import : ℕ → List ElementSegment → List DataSegment → Option ℕ
offset_from_import n [] ds = global_segment n ds
offset_from_import n (e ∷ es) ds = where_so (is_global_offset e.offset) n (offset_from_import (n + 1) es ds)

abbrev pub outside_memory : ℕ → ℕ → List DataSegment → Option ℕ
outside_memory bytes n [] = None
outside_memory bytes n (d ∷ ds) = where_so (passes (constant_offset d.offset) (length d.bytes) bytes) n (outside_memory bytes (n + 1) ds)

abbrev pub segment_outside : ℕ → ℕ → ℕ → List ElementSegment → List DataSegment → Option ℕ
segment_outside entries bytes n [] ds = outside_memory bytes n ds
segment_outside entries bytes n (e ∷ es) ds = where_so (passes (constant_offset e.offset) (length e.functions) entries) n (segment_outside entries bytes (n + 1) es ds)

-- the length of the table is its minimum

abbrev pub table_min : ImportKind → Option ℕ
table_min (imports.Table l) = Some l.min
table_min _ = None

abbrev pub imported_entries : List Imported → Option ℕ
imported_entries [] = None
imported_entries (i ∷ is) = or_else (table_min i.kind) (imported_entries is)

abbrev pub own_entries : List Limits → Option ℕ
own_entries [] = None
own_entries (l ∷ ls) = Some l.min

abbrev pub or_zero : Option ℕ → ℕ
or_zero None = 0
or_zero (Some n) = n

abbrev pub table_length : WasmModule → ℕ
table_length m = or_zero (or_else (imported_entries m.imports) (own_entries m.tables))

abbrev pub memory_bytes : WasmModule → ℕ
memory_bytes m = or_zero (pages m) * 65536

-- counts, in the order in which they are looked at

abbrev pub most_levels : ℕ
most_levels = 900

-- with the imported ones
abbrev pub most_functions : ℕ
most_functions = 20000

-- of a type
abbrev pub most_params : ℕ
most_params = 1000

-- with the imported ones
abbrev pub most_globals : ℕ
most_globals = 10000

-- of a function
abbrev pub most_slots : ℕ
most_slots = 20000

abbrev pub most_entries : ℕ
most_entries = 65536

-- of all tables that stand for the one, each of them padded
abbrev pub most_cells : ℕ
most_cells = 1048576

-- of the two names of an imported function or global
abbrev pub most_name_bytes : ℕ
most_name_bytes = 49000

abbrev pub too_many : ℕ → ℕ → Option ℕ → Option ℕ
too_many limit n other = where_so (nat_lt limit n) n other

abbrev pub params_past : List FunctionType → Option ℕ → Option ℕ
params_past [] other = other
params_past (t ∷ ts) other = too_many most_params (length t.params) (params_past ts other)

abbrev pub has_name : ImportKind → Bool
has_name (imports.Func t) = true
has_name (imports.Global g) = true
has_name _ = false

abbrev pub names_past : List Imported → Option ℕ
names_past [] = None
names_past (i ∷ is) = cond (has_name i.kind) (too_many most_name_bytes (length i.module_name + length i.name) (names_past is)) (names_past is)

-- the least power of two that is at least 1 and at least this length, which is below 2 ^ 32
abbrev pub doubled : ℕ → ℕ → ℕ → ℕ
doubled zero power n = power
doubled (suc turns) power n = cond (nat_le n power) power (doubled turns (power * 2) n)

abbrev pub padded : ℕ → ℕ
padded n = doubled 32 1 n

abbrev pub size_past : WasmModule → Option ℕ
size_past m =
    too_many most_functions (length (function_types m))
    (params_past m.types
    (too_many most_globals (length (global_types m))
    (too_many most_slots (measures_of m).slots
    (too_many most_entries (table_length m)
    (too_many most_cells ((measures_of m).call_types * padded (table_length m)) (names_past m.imports))))))

-- the first row that a module to translate meets, if any
abbrev pub outside_profile : WasmModule → Option Outside
outside_profile m =
    row_or ImportedTable (first_import is_table 0 m.imports)
    (row_or MutableImport (first_import is_mutable 0 m.imports)
    (row_or MixedImport (measures_of m).mixed
    (row_or WideImport (wide_import m 0 m.imports)
    (row_or OffsetFromImport (offset_from_import 0 m.elements m.segments)
    (row_or SegmentOutside (segment_outside (table_length m) (memory_bytes m) 0 m.elements m.segments)
    (row_or MemoryLarge (above most_pages_to_run (pages m))
    (row_or Levels (above most_levels (Some (measures_of m).levels))
    (row_or Size (size_past m) (row_or WideMulDiv (measures_of m).mul_div None)))))))))

-- the module can be translated
pub record IsInProfile (m : WasmModule) : Type 0 where
  pub valid : IsValidModule m
  pub within : outside_profile m ≡ None
