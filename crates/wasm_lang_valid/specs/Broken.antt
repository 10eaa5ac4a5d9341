-- Which rules an item of a module breaks, each rule by itself. `item_rule` of `ModuleRules` is the one of the least number.
use Rattle.std.specs.Prelude.{ℕ, Bool, false, not, ◌&&◌, ◌||◌, nat_lt, nat_le, List, [], ◌∷◌, length, take, Option, Some, None, slice_get}
use Rattle.wasm_lang.specs.declared.types.ValType.{ValType}
use Rattle.wasm_lang.specs.declared.types.ValType.TheVariants.{I32, I64}
use Rattle.wasm_lang.specs.declared.types.Limits.{Limits}
use Rattle.wasm_lang.specs.declared.types.ImportKind.{ImportKind}
use Rattle.wasm_lang.specs.declared.types.ImportKind.TheVariants as imports
use Rattle.wasm_lang.specs.declared.types.ExportKind.{ExportKind}
use Rattle.wasm_lang.specs.declared.types.ExportKind.TheVariants as exports
use Rattle.wasm_lang.specs.Instructions.{Instruction, plain, const32, const64, global_get}
use Rattle.wasm_lang.specs.Modules.{FunctionType, Imported, Exported, ElementSegment, DataSegment, WasmModule}
use Rattle.wasm_lang_valid.specs.declared.rule.Rule.{Rule}
use Rattle.wasm_lang_valid.specs.declared.rule.Rule.TheVariants.{NoType, NoFunction, NoTable, NoMemory, NoGlobal, Initializer, Size, SecondMemory, SecondTable, RepeatedName, StartType, TwoResults}
use Rattle.wasm_lang_valid.specs.declared.section.Section.{Section}
use Rattle.wasm_lang_valid.specs.declared.section.Section.TheVariants as sections
use Rattle.wasm_lang_valid.specs.Typing.{same}
use Rattle.wasm_lang_valid.specs.ModuleRules.{is_type, is_function, is_global, is_table_number, is_memory_number, is_ordered, has_pages, imports_table, imports_memory, imported_globals, is_constant, is_end, is_named, is_start, type_of_function, are_functions}

abbrev pub type_breaks : FunctionType → Rule → Bool
type_breaks t TwoResults = not (nat_le (length t.results) 1)
type_breaks t rule = false

abbrev pub number_breaks : WasmModule → ℕ → Rule → Bool
number_breaks m t NoType = not (is_type m t)
number_breaks m t rule = false

-- the second operand says whether there is one before
abbrev pub table_breaks : Limits → Bool → Rule → Bool
table_breaks l before Size = not (is_ordered l)
table_breaks l before SecondTable = before
table_breaks l before rule = false

abbrev pub memory_breaks : Limits → Bool → Rule → Bool
memory_breaks l before Size = not (is_ordered l && has_pages l)
memory_breaks l before SecondMemory = before
memory_breaks l before rule = false

-- the second operand is the imports before
abbrev pub import_breaks : WasmModule → List Imported → ImportKind → Rule → Bool
import_breaks m before (imports.Func t) = number_breaks m t
import_breaks m before (imports.Table l) = table_breaks l (imports_table before)
import_breaks m before (imports.Memory l) = memory_breaks l (imports_memory before)
import_breaks m before (imports.Global g) = λ rule. false

-- first values and offsets

-- the instruction gets a global that doesn't exist
abbrev pub gets_none : WasmModule → Instruction → Bool
gets_none m (plain (global_get x)) = not (is_global m x)
gets_none m i = false

-- the instruction is a constant of this type, or gets an imported constant of this type
abbrev pub gives : WasmModule → ValType → Instruction → Bool
gives m t (plain (const32 n)) = same t I32
gives m t (plain (const64 n)) = same t I64
gives m t (plain (global_get x)) = is_constant t (slice_get (imported_globals m.imports) x)
gives m t i = false

-- the expression is one instruction of this kind and its end
abbrev pub is_one : (Instruction → Bool) → List Instruction → Bool
is_one kind [] = false
is_one kind (i ∷ []) = false
is_one kind (i ∷ j ∷ []) = is_end j && kind i
is_one kind (i ∷ j ∷ k ∷ is) = false

abbrev pub init_breaks : WasmModule → ValType → List Instruction → Rule → Bool
init_breaks m t init NoGlobal = is_one (gets_none m) init
init_breaks m t init Initializer = not (is_one (gives m t) init)
init_breaks m t init rule = false

-- exports

abbrev pub names_none : WasmModule → ExportKind → Rule → Bool
names_none m (exports.Func f) NoFunction = not (is_function m f)
names_none m (exports.Table t) NoTable = not (is_table_number m t)
names_none m (exports.Memory t) NoMemory = not (is_memory_number m t)
names_none m (exports.Global g) NoGlobal = not (is_global m g)
names_none m kind rule = false

-- the second operand says whether the name is repeated
abbrev pub exported_breaks : WasmModule → Bool → ExportKind → Rule → Bool
exported_breaks m repeated kind RepeatedName = repeated
exported_breaks m repeated kind rule = names_none m kind rule

-- .. the exports before
abbrev pub export_breaks : WasmModule → List Exported → Exported → Rule → Bool
export_breaks m before e = exported_breaks m (is_named e.name before) e.kind

abbrev pub start_breaks : WasmModule → ℕ → Rule → Bool
start_breaks m f NoFunction = not (is_function m f)
start_breaks m f StartType = not (is_start (type_of_function m f))
start_breaks m f rule = false

-- segments

abbrev pub element_breaks : WasmModule → ElementSegment → Rule → Bool
element_breaks m e NoFunction = not (are_functions m e.functions)
element_breaks m e NoTable = not (is_table_number m e.table)
element_breaks m e rule = init_breaks m I32 e.offset rule

abbrev pub segment_breaks : WasmModule → DataSegment → Rule → Bool
segment_breaks m d NoMemory = not (is_memory_number m d.memory)
segment_breaks m d rule = init_breaks m I32 d.offset rule

-- where there is no such item, nothing is broken
abbrev pub breaks_at : {A : Type 0} → Option A → (A → Rule → Bool) → Rule → Bool
breaks_at None breaks = λ rule. false
breaks_at (Some x) breaks = breaks x

-- whether the item of this section at this place breaks this rule, in all sections but that of the code
abbrev pub item_breaks : WasmModule → Section → ℕ → Rule → Bool
item_breaks m sections.Types i = breaks_at (slice_get m.types i) type_breaks
item_breaks m sections.Imports i = breaks_at (slice_get m.imports i) (λ x. import_breaks m (take i m.imports) x.kind)
item_breaks m sections.Functions i = breaks_at (slice_get m.functions i) (number_breaks m)
item_breaks m sections.Tables i = breaks_at (slice_get m.tables i) (λ l. table_breaks l (imports_table m.imports || nat_lt 0 i))
item_breaks m sections.Memories i = breaks_at (slice_get m.memories i) (λ l. memory_breaks l (imports_memory m.imports || nat_lt 0 i))
item_breaks m sections.Globals i = breaks_at (slice_get m.globals i) (λ g. init_breaks m g.kind.kind g.init)
item_breaks m sections.Exports i = breaks_at (slice_get m.exports i) (export_breaks m (take i m.exports))
item_breaks m sections.Start i = breaks_at m.start (start_breaks m)
item_breaks m sections.Elements i = breaks_at (slice_get m.elements i) (element_breaks m)
item_breaks m sections.Code i = λ rule. false
item_breaks m sections.Data i = breaks_at (slice_get m.segments i) (segment_breaks m)
