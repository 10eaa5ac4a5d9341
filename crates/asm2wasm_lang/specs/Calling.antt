-- How a module of WebAssembly that stands for one of asm.js is called, and what it asks of its host: ints are i32, foreign members
-- are imports of the module `env`, a heap is its memory `env` `memory`, and exports keep their keys.
use Rattle.std.specs.Prelude.{◌≡◌, ℕ, ◌+◌, Bool, false, List, [], ◌∷◌, ◌++◌, length, map, All, replicate, Option, Some, None, codes, slice_get, if◌then◌else◌}
use Rattle.wasm_lang.specs.declared.types.ValType.TheVariants.{I32}
use Rattle.wasm_lang.specs.declared.types.GlobalType.{GlobalType}
use Rattle.wasm_lang.specs.declared.types.Limits.{Limits}
use Rattle.wasm_lang.specs.declared.types.ImportKind.{ImportKind}
use Rattle.wasm_lang.specs.declared.types.ImportKind.TheVariants as imports
use Rattle.wasm_lang.specs.declared.types.ExportKind.TheVariants as exports
use Rattle.wasm_lang.specs.Modules.{FunctionType, Imported, Exported, WasmModule}
use Rattle.wasm_lang_valid.specs.ModuleRules.{type_of_function}
use Rattle.asm_lang.specs.Modules.{Function, Module}
use Rattle.asm_lang_valid.specs.Scope.{signature_of}
use Rattle.asm_lang_valid.specs.LimitRows.{ForeignCall, foreign_calls}
use Rattle.asm_lang_valid.specs.Refusal as text
use Rattle.asm_lang_valid.specs.Refusal.{foreign_globals, has_heap, exported_from}
use Rattle.asm2wasm_lang.specs.Heaps.{pages_for}

-- ---- what a module imports, one kind at a time and in order

-- what is imported under two names
pub record Import (A : Type 0) : Type 0 where
  pub module_name : List ℕ
  pub name : List ℕ
  pub is : A

abbrev pub imported_as : {A : Type 0} → Imported → A → Import A
imported_as i x = record { module_name = i.module_name; name = i.name; is = x }

-- a function has a type where its number is one
abbrev pub function_of : WasmModule → ImportKind → List (Option FunctionType)
function_of w (imports.Func t) = slice_get w.types t ∷ []
function_of w _ = []

abbrev pub table_of : ImportKind → List Limits
table_of (imports.Table l) = l ∷ []
table_of _ = []

abbrev pub memory_of : ImportKind → List Limits
memory_of (imports.Memory l) = l ∷ []
memory_of _ = []

abbrev pub global_of : ImportKind → List GlobalType
global_of (imports.Global g) = g ∷ []
global_of _ = []

abbrev pub of_kind : {A : Type 0} → (ImportKind → List A) → List Imported → List (Import A)
of_kind kind [] = []
of_kind kind (i ∷ is) = map (imported_as i) (kind i.kind) ++ of_kind kind is

-- ---- what a module of asm.js asks for

abbrev pub from_env : {A : Type 0} → List ℕ → A → Import A
from_env name x = record { module_name = codes "env"; name = name; is = x }

-- so many ints to an int, or to nothing
abbrev pub int_type : ℕ → Bool → FunctionType
int_type params result = record { params = replicate params I32; results = if result then I32 ∷ [] else [] }

abbrev pub constant_int : GlobalType
constant_int = record { kind = I32; mutable = false }

abbrev pub exactly : ℕ → Limits
exactly n = record { min = n; max = Some n }

-- a foreign function is imported once for each number of arguments and result with which it is called
abbrev pub functions_asked : Module → List (Import (Option FunctionType))
functions_asked m = map (λ (f : ForeignCall). from_env f.name (Some (int_type f.params f.result))) (foreign_calls m)

abbrev pub globals_asked : Module → List (Import GlobalType)
globals_asked m = map (λ name. from_env name constant_int) (foreign_globals m)

abbrev pub memories_asked : Module → ℕ → List (Import Limits)
memories_asked m size = if has_heap m then from_env (codes "memory") (exactly (pages_for size)) ∷ [] else []

-- functions are counted after the imported ones
abbrev pub exports_given : Module → List Exported
exports_given m = map (λ (e : text.Exported). record { name = e.key; kind = exports.Func (length (foreign_calls m) + e.function) }) (exported_from m m.exports)

-- function n takes as many ints as that of the text has parameters, and gives one where that has a result
abbrev pub IsTypedAs : Module → WasmModule → ℕ → Type 0
IsTypedAs m w n =
    (f : Function) → slice_get m.functions n ≡ Some f
    → type_of_function w (length (foreign_calls m) + n) ≡ Some (int_type (length f.params) (signature_of f).result)

-- the module of WebAssembly is called as this one with a heap of this length is, and nothing else is imported or exported
pub record IsCalledAs (m : Module) (size : ℕ) (w : WasmModule) : Type 0 where
  pub functions : of_kind (function_of w) w.imports ≡ functions_asked m
  pub globals : of_kind global_of w.imports ≡ globals_asked m
  pub memories : of_kind memory_of w.imports ≡ memories_asked m size
  pub tables : of_kind table_of w.imports ≡ []
  pub exported : w.exports ≡ exports_given m
  pub typed : All (λ (e : text.Exported). IsTypedAs m w e.function) (exported_from m m.exports)
  -- all bytes are the host's, and nothing runs before the first call
  pub no_memory : w.memories ≡ []
  pub no_bytes : w.segments ≡ []
  pub no_start : w.start ≡ None
