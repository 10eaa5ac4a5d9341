-- What a reader of this product takes: counts above these limits are refused. They are this product's own.
use Rattle.std.specs.Prelude.{ℕ, ◌+◌, ◌-◌, ◌≤◌, List, [], ◌∷◌, length, All, max, Option, Some, None, slice_get}
use Rattle.std.specs.List.{zip}
use Rattle.wasm_lang.specs.declared.types.ImportKind.{ImportKind}
use Rattle.wasm_lang.specs.declared.types.ImportKind.TheVariants as imports
use Rattle.wasm_lang.specs.Instructions.{Instruction, block, loop, if_block, end_mark}
use Rattle.wasm_lang.specs.Modules.{FunctionType, Imported, WasmModule}

abbrev pub most_types : ℕ
most_types = 10000

-- with the imported ones
abbrev pub most_functions : ℕ
most_functions = 80000

-- of a type
abbrev pub most_params : ℕ
most_params = 2000

-- of a function, with its parameters
abbrev pub most_locals : ℕ
most_locals = 60000

-- of an expression
abbrev pub most_levels : ℕ
most_levels = 300000

-- with the imported ones
abbrev pub most_globals : ℕ
most_globals = 220000

-- as a table's minimum
abbrev pub most_entries : ℕ
most_entries = 1048576

-- how many imports are functions, and how many are globals
abbrev pub function_imports : List Imported → ℕ
function_imports [] = 0
function_imports (i ∷ is) = one_function i.kind + function_imports is
  where
    one_function : ImportKind → ℕ
    one_function (imports.Func t) = 1
    one_function _ = 0

abbrev pub global_imports : List Imported → ℕ
global_imports [] = 0
global_imports (i ∷ is) = one_global i.kind + global_imports is
  where
    one_global : ImportKind → ℕ
    one_global (imports.Global t) = 1
    one_global _ = 0

-- The levels of an expression: the greatest number of blocks that stand open at once, where so many are open before it.
abbrev pub levels_from : ℕ → List Instruction → ℕ
levels_from open_blocks [] = open_blocks
levels_from open_blocks (block r ∷ is) = levels_from (open_blocks + 1) is
levels_from open_blocks (loop r ∷ is) = levels_from (open_blocks + 1) is
levels_from open_blocks (if_block r ∷ is) = levels_from (open_blocks + 1) is
levels_from open_blocks (end_mark ∷ is) = max open_blocks (levels_from (open_blocks - 1) is)
levels_from open_blocks (i ∷ is) = levels_from open_blocks is

abbrev pub levels : List Instruction → ℕ
levels code = levels_from 0 code

-- the number of parameters of a type, by its number; 0 where there is no such type
abbrev pub params_of : List FunctionType → ℕ → ℕ
params_of types t = count (slice_get types t)
  where
    count : Option FunctionType → ℕ
    count None = 0
    count (Some type) = length type.params

abbrev pub MayImport : Imported → Type 0
MayImport i = entries i.kind
  where
    entries : ImportKind → Type 0
    entries (imports.Table l) = l.min ≤ most_entries
    entries _ = Unit {0}

-- the module is within the limits
pub record IsWithinReader (m : WasmModule) : Type 0 where
  pub types : length m.types ≤ most_types
  pub params : All (λ t. length t.params ≤ most_params) m.types
  pub functions : function_imports m.imports + length m.functions ≤ most_functions
  pub globals : global_imports m.imports + length m.globals ≤ most_globals
  pub imported_tables : All MayImport m.imports
  pub tables : All (λ l. l.min ≤ most_entries) m.tables
  pub locals : All (λ f. params_of m.types f.0 + length f.1.locals ≤ most_locals) (zip m.functions m.bodies)
  pub body_levels : All (λ b. levels b.code ≤ most_levels) m.bodies
  pub global_levels : All (λ g. levels g.init ≤ most_levels) m.globals
  pub element_levels : All (λ e. levels e.offset ≤ most_levels) m.elements
  pub segment_levels : All (λ s. levels s.offset ≤ most_levels) m.segments
