-- The tables of asm.js that stand for the table of WebAssembly: one for each form of type that a call of an entry names. In each of them an
-- entry of another type, and a place where no entry stands, has a function that traps.
use Rattle.std.specs.Prelude.{ℕ, ◌+◌, ◌*◌, ◌/◌, ◌%◌, Bool, true, false, ◌&&◌, List, [], ◌∷◌, ◌++◌, map, Option, Some, None, slice_get, ◌==◌, if◌then◌else◌}
use Rattle.std.specs.List.{list_any, flat_map, range_with_len}
use Rattle.wasm_lang.specs.declared.types.ValType.{ValType}
use Rattle.wasm_lang.specs.declared.types.ValType.TheVariants.{I32, I64}
use Rattle.wasm_lang.specs.Modules.{FunctionType, WasmModule}
use Rattle.wasm_lang_valid.specs.Profile.{padded, table_length}
use Rattle.asm_lang.specs.Modules.{returns, Function, Table}
use Rattle.wasm2js_translation.specs.Names.{Name, Numbered, numbered, function, table, no_entry, other_entry, spelled}
use Rattle.wasm2js_translation.specs.Words.{natural, trap_call}
pub use Rattle.wasm2js_lang.specs.Tables.{Cell, a_function, empty, other, MaskedTable, masked}
use Rattle.wasm2js_translation.specs.Helpers.{argument, function_of}

-- how many cells each table has: a power of two
abbrev pub cell_count : WasmModule → ℕ
cell_count m = padded (table_length m)

-- ---- what stands for missing entries, by how many words are taken and whether there is a result

abbrev pub words_of : List ValType → ℕ
words_of [] = 0
words_of (I32 ∷ ts) = 1 + words_of ts
words_of (I64 ∷ ts) = 2 + words_of ts

abbrev pub result_mark : List ValType → ℕ
result_mark [] = 0
result_mark (t ∷ ts) = 1

abbrev pub stub_number : Option FunctionType → ℕ
stub_number None = 0
stub_number (Some t) = 2 * words_of t.params + result_mark t.results

abbrev pub stub_of : WasmModule → MaskedTable → ℕ
stub_of m t = stub_number (slice_get m.types t.function_type)

abbrev pub cell_name : (stub : ℕ) → Cell → Name
cell_name stub (a_function f) = numbered function f
cell_name stub empty = numbered no_entry stub
cell_name stub other = numbered other_entry stub

abbrev pub table_for : WasmModule → MaskedTable → Table
table_for m t = record { name = spelled (numbered table t.function_type); members = map (λ x. spelled (cell_name (stub_of m t) x)) t.cells }

abbrev pub tables_for : WasmModule → List Table
tables_for m = map (table_for m) (masked m)

-- a function of so many words that traps
abbrev pub stub_function : Numbered → (kind stub : ℕ) → Function
stub_function name kind stub =
    function_of (numbered name stub) (map argument (range_with_len 0 (stub / 2))) []
    (trap_call kind ∷ (if stub % 2 == 1 then returns (Some (natural 0)) ∷ [] else []))

abbrev pub is_empty : Cell → Bool
is_empty empty = true
is_empty x = false

abbrev pub is_other : Cell → Bool
is_other other = true
is_other x = false

-- a table whose types have this number has such a cell
abbrev pub is_needed : WasmModule → List MaskedTable → (Cell → Bool) → (stub : ℕ) → Bool
is_needed m ts test stub = list_any (λ t. (stub_of m t == stub) && list_any test t.cells) ts

-- types have at most 1,000 parameters of two words
abbrev pub stub_numbers : List ℕ
stub_numbers = range_with_len 0 4002

abbrev pub stubs_for : WasmModule → List MaskedTable → (stub : ℕ) → List Function
stubs_for m ts stub =
    (if is_needed m ts is_empty stub then stub_function no_entry 5 stub ∷ [] else [])
    ++ (if is_needed m ts is_other stub then stub_function other_entry 6 stub ∷ [] else [])

abbrev pub stubs : WasmModule → List Function
stubs m = let ts = masked m in flat_map (stubs_for m ts) stub_numbers
