-- The rules on the items of a module, one item at a time (sections 3.2, 3.4 and 3.5). A rule speaks of the item, of those before
-- it in its section, and of the sections before it.
use Rattle.std.specs.Prelude.{ℕ, Bool, true, false, not, ◌&&◌, ◌||◌, nat_eq, nat_lt, nat_le, List, [], ◌∷◌, ◌++◌, length, map, take, Option, Some, None, slice_get}
use Rattle.std.specs.Cmp.Lexicographic.{pointwise}
use Rattle.wasm_lang.specs.declared.types.ValType.{ValType}
use Rattle.wasm_lang.specs.declared.types.ValType.TheVariants.{I32, I64}
use Rattle.wasm_lang.specs.declared.types.Limits.{Limits}
use Rattle.wasm_lang.specs.declared.types.GlobalType.{GlobalType}
use Rattle.wasm_lang.specs.declared.types.ImportKind.{ImportKind}
use Rattle.wasm_lang.specs.declared.types.ImportKind.TheVariants as imports
use Rattle.wasm_lang.specs.declared.types.ExportKind.{ExportKind}
use Rattle.wasm_lang.specs.declared.types.ExportKind.TheVariants as exports
use Rattle.wasm_lang.specs.Instructions.{Instruction, plain, end_mark, const32, const64, global_get}
use Rattle.wasm_lang.specs.Modules.{FunctionType, Imported, Exported, ElementSegment, DataSegment, WasmModule}
use Rattle.wasm_lang_valid.specs.declared.rule.Rule.{Rule}
use Rattle.wasm_lang_valid.specs.declared.rule.Rule.TheVariants.{NoType, NoFunction, NoTable, NoMemory, NoGlobal, Initializer, Size, SecondMemory, SecondTable, RepeatedName, StartType, TwoResults}
use Rattle.wasm_lang_valid.specs.declared.section.Section.{Section}
use Rattle.wasm_lang_valid.specs.declared.section.Section.TheVariants as sections
use Rattle.wasm_lang_valid.specs.Typing.{same}

-- a rule whose test is this, and then the rules of higher numbers; None where all are kept
abbrev pub meets : Bool → Rule → Option Rule → Option Rule
meets true rule more = more
meets false rule more = Some rule

-- what is imported

abbrev pub function_of : ImportKind → List ℕ
function_of (imports.Func t) = t ∷ []
function_of _ = []

abbrev pub global_of : ImportKind → List GlobalType
global_of (imports.Global g) = g ∷ []
global_of _ = []

abbrev pub is_table : ImportKind → Bool
is_table (imports.Table l) = true
is_table _ = false

abbrev pub is_memory : ImportKind → Bool
is_memory (imports.Memory l) = true
is_memory _ = false

-- the numbers of the types of the imported functions
abbrev pub imported_functions : List Imported → List ℕ
imported_functions [] = []
imported_functions (i ∷ is) = function_of i.kind ++ imported_functions is

abbrev pub imported_globals : List Imported → List GlobalType
imported_globals [] = []
imported_globals (i ∷ is) = global_of i.kind ++ imported_globals is

abbrev pub imports_table : List Imported → Bool
imports_table [] = false
imports_table (i ∷ is) = is_table i.kind || imports_table is

abbrev pub imports_memory : List Imported → Bool
imports_memory [] = false
imports_memory (i ∷ is) = is_memory i.kind || imports_memory is

-- what there is, the imported ones first

-- the numbers of the functions' types
abbrev pub function_types : WasmModule → List ℕ
function_types m = imported_functions m.imports ++ m.functions

abbrev pub global_types : WasmModule → List GlobalType
global_types m = imported_globals m.imports ++ map (λ g. g.kind) m.globals

abbrev pub is_empty : {A : Type 0} → List A → Bool
is_empty [] = true
is_empty (x ∷ xs) = false

abbrev pub has_table : WasmModule → Bool
has_table m = imports_table m.imports || not (is_empty m.tables)

abbrev pub has_memory : WasmModule → Bool
has_memory m = imports_memory m.imports || not (is_empty m.memories)

abbrev pub is_type : WasmModule → ℕ → Bool
is_type m t = nat_lt t (length m.types)

abbrev pub is_function : WasmModule → ℕ → Bool
is_function m f = nat_lt f (length (function_types m))

abbrev pub is_global : WasmModule → ℕ → Bool
is_global m g = nat_lt g (length (global_types m))

-- there is at most one table and one memory
abbrev pub is_table_number : WasmModule → ℕ → Bool
is_table_number m t = nat_eq t 0 && has_table m

abbrev pub is_memory_number : WasmModule → ℕ → Bool
is_memory_number m t = nat_eq t 0 && has_memory m

-- types

abbrev pub type_rule : FunctionType → Option Rule
type_rule t = meets (nat_le (length t.results) 1) TwoResults None

-- limits (section 3.2.1)

abbrev pub is_ordered : Limits → Bool
is_ordered l = within l.max
  where
    within : Option ℕ → Bool
    within None = true
    within (Some most) = nat_le l.min most

abbrev pub most_pages : ℕ
most_pages = 65536

abbrev pub has_pages : Limits → Bool
has_pages l = nat_le l.min most_pages && within l.max
  where
    within : Option ℕ → Bool
    within None = true
    within (Some most) = nat_le most most_pages

-- the second operand says whether there is one before
abbrev pub table_rule : Limits → Bool → Option Rule
table_rule l before = meets (is_ordered l) Size (meets (not before) SecondTable None)

abbrev pub memory_rule : Limits → Bool → Option Rule
memory_rule l before = meets (is_ordered l && has_pages l) Size (meets (not before) SecondMemory None)

-- imports

abbrev pub import_rule : WasmModule → List Imported → ImportKind → Option Rule
import_rule m before (imports.Func t) = meets (is_type m t) NoType None
import_rule m before (imports.Table l) = table_rule l (imports_table before)
import_rule m before (imports.Memory l) = memory_rule l (imports_memory before)
import_rule m before (imports.Global g) = None

-- first values and offsets (section 3.3.7): one constant, or one imported global that is constant, of this type

abbrev pub is_constant : ValType → Option GlobalType → Bool
is_constant t None = false
is_constant t (Some g) = not g.mutable && same t g.kind

abbrev pub is_end : Instruction → Bool
is_end end_mark = true
is_end i = false

abbrev pub value_rule : WasmModule → ValType → Instruction → Option Rule
value_rule m t (plain (const32 n)) = meets (same t I32) Initializer None
value_rule m t (plain (const64 n)) = meets (same t I64) Initializer None
value_rule m t (plain (global_get x)) = meets (is_global m x) NoGlobal (meets (is_constant t (slice_get (imported_globals m.imports) x)) Initializer None)
value_rule m t i = Some Initializer

abbrev pub init_rule : WasmModule → ValType → List Instruction → Option Rule
init_rule m t [] = Some Initializer
init_rule m t (i ∷ []) = Some Initializer
init_rule m t (i ∷ j ∷ []) = meets (is_end j) Initializer (value_rule m t i)
init_rule m t (i ∷ j ∷ k ∷ is) = Some Initializer

-- exports: the second operand is the exports before

abbrev pub exported_rule : WasmModule → ExportKind → Option Rule → Option Rule
exported_rule m (exports.Func f) more = meets (is_function m f) NoFunction more
exported_rule m (exports.Table t) more = meets (is_table_number m t) NoTable more
exported_rule m (exports.Memory t) more = meets (is_memory_number m t) NoMemory more
exported_rule m (exports.Global g) more = meets (is_global m g) NoGlobal more

abbrev pub is_named : List ℕ → List Exported → Bool
is_named name [] = false
is_named name (e ∷ es) = pointwise nat_eq name e.name || is_named name es

abbrev pub export_rule : WasmModule → List Exported → Exported → Option Rule
export_rule m before e = exported_rule m e.kind (meets (not (is_named e.name before)) RepeatedName None)

-- the start function takes and gives nothing

abbrev pub type_of_function : WasmModule → ℕ → Option FunctionType
type_of_function m f = found (slice_get (function_types m) f)
  where
    found : Option ℕ → Option FunctionType
    found None = None
    found (Some t) = slice_get m.types t

abbrev pub is_start : Option FunctionType → Bool
is_start None = false
is_start (Some t) = is_empty t.params && is_empty t.results

abbrev pub start_rule : WasmModule → ℕ → Option Rule
start_rule m f = meets (is_function m f) NoFunction (meets (is_start (type_of_function m f)) StartType None)

-- segments

abbrev pub are_functions : WasmModule → List ℕ → Bool
are_functions m [] = true
are_functions m (f ∷ fs) = is_function m f && are_functions m fs

abbrev pub element_rule : WasmModule → ElementSegment → Option Rule
element_rule m e = meets (are_functions m e.functions) NoFunction (meets (is_table_number m e.table) NoTable (init_rule m I32 e.offset))

abbrev pub segment_rule : WasmModule → DataSegment → Option Rule
segment_rule m d = meets (is_memory_number m d.memory) NoMemory (init_rule m I32 d.offset)

-- all sections but that of the code

abbrev pub at : {A : Type 0} → Option A → (A → Option Rule) → Option Rule
at None rule = None
at (Some x) rule = rule x

-- the rule of the least number that the item of this section at this place breaks, if any
abbrev pub item_rule : WasmModule → Section → ℕ → Option Rule
item_rule m sections.Types i = at (slice_get m.types i) type_rule
item_rule m sections.Imports i = at (slice_get m.imports i) (λ x. import_rule m (take i m.imports) x.kind)
item_rule m sections.Functions i = at (slice_get m.functions i) (λ t. meets (is_type m t) NoType None)
item_rule m sections.Tables i = at (slice_get m.tables i) (λ l. table_rule l (imports_table m.imports || nat_lt 0 i))
item_rule m sections.Memories i = at (slice_get m.memories i) (λ l. memory_rule l (imports_memory m.imports || nat_lt 0 i))
item_rule m sections.Globals i = at (slice_get m.globals i) (λ g. init_rule m g.kind.kind g.init)
item_rule m sections.Exports i = at (slice_get m.exports i) (export_rule m (take i m.exports))
item_rule m sections.Start i = at m.start (start_rule m)
item_rule m sections.Elements i = at (slice_get m.elements i) (element_rule m)
item_rule m sections.Code i = None
item_rule m sections.Data i = at (slice_get m.segments i) (segment_rule m)
