-- What is printed of a module: a line of counts, then a line for each function, the imported ones first. Numbers are decimal, and
-- each line is ended by a line feed.
use Rattle.std.specs.Prelude.{ℕ, suc, List, [], ◌∷◌, ◌++◌, length, slice_get, unwrap_or, codes, decimal}
use Rattle.std.specs.List.{concat, flat_map}
use Rattle.session_lang.specs.Names.{import_name}
use Rattle.wasm_lang.specs.declared.types.ValType.{ValType}
use Rattle.wasm_lang.specs.declared.types.ValType.TheVariants.{I32, I64}
use Rattle.wasm_lang.specs.declared.types.ImportKind.{ImportKind}
use Rattle.wasm_lang.specs.declared.types.ImportKind.TheVariants.{Func, Table, Memory, Global}
use Rattle.wasm_lang.specs.Modules.{FunctionType, Imported, FunctionBody, WasmModule}
use Rattle.wasm_lang_valid.specs.ModuleRules.{imported_functions}
use Rattle.wasm_lang_valid.specs.Validity.{no_type}

-- the functions that the module defines, its imports and its exports
abbrev pub counts_line : WasmModule → List ℕ
counts_line m = concat (codes "wasm functions " ∷ decimal (length m.functions) ∷ codes " imports " ∷ decimal (length m.imports)
    ∷ codes " exports " ∷ decimal (length m.exports) ∷ codes "\n" ∷ [])

-- ---- types

abbrev pub type_name : ValType → List ℕ
type_name I32 = codes "i32"
type_name I64 = codes "i64"

-- each behind a space
abbrev pub others_text : List ValType → List ℕ
others_text ts = flat_map (λ t. codes " " ++ type_name t) ts

-- with single spaces between
abbrev pub types_text : List ValType → List ℕ
types_text [] = []
types_text (t ∷ ts) = type_name t ++ others_text ts

-- a valid module's functions have at most one result
abbrev pub result_text : List ValType → List ℕ
result_text [] = codes "-"
result_text (t ∷ ts) = type_name t

abbrev pub type_text : FunctionType → List ℕ
type_text t = concat (codes "(" ∷ types_text t.params ∷ codes ") " ∷ result_text t.results ∷ [])

-- the type of this number, which a valid module has
abbrev pub numbered_text : List FunctionType → ℕ → List ℕ
numbered_text types t = type_text (unwrap_or (slice_get types t) no_type)

-- ---- functions

abbrev pub import_line : List FunctionType → ℕ → Imported → ℕ → List ℕ
import_line types n i t = concat (codes "import " ∷ decimal n ∷ codes " " ∷ import_name i.module_name i.name ∷ codes " " ∷ numbered_text types t ∷ codes "\n" ∷ [])

-- with how many instructions it has, the last end among them
abbrev pub function_line : List FunctionType → ℕ → ℕ → FunctionBody → List ℕ
function_line types n t body = concat (codes "func " ∷ decimal n ∷ codes " " ∷ numbered_text types t ∷ codes " " ∷ decimal (length body.code) ∷ codes "\n" ∷ [])

-- what an import adds to the lines, and the number of the next function
abbrev pub import_lines_of : List FunctionType → ℕ → Imported → ImportKind → List ℕ
import_lines_of types n i (Func t) = import_line types n i t
import_lines_of types n i (Table limits) = []
import_lines_of types n i (Memory limits) = []
import_lines_of types n i (Global kind) = []

abbrev pub number_after : ℕ → ImportKind → ℕ
number_after n (Func t) = suc n
number_after n (Table limits) = n
number_after n (Memory limits) = n
number_after n (Global kind) = n

-- the imported functions, numbered from this one on
abbrev pub import_lines : List FunctionType → ℕ → List Imported → List ℕ
import_lines types n [] = []
import_lines types n (i ∷ is) = import_lines_of types n i i.kind ++ import_lines types (number_after n i.kind) is

-- the module's own functions, each by the number of its type and its body
abbrev pub function_lines : List FunctionType → ℕ → List ℕ → List FunctionBody → List ℕ
function_lines types n [] bodies = []
function_lines types n (t ∷ ts) [] = []
function_lines types n (t ∷ ts) (body ∷ bodies) = function_line types n t body ++ function_lines types (suc n) ts bodies

abbrev pub listing : WasmModule → List ℕ
listing m = counts_line m ++ import_lines m.types 0 m.imports ++ function_lines m.types (length (imported_functions m.imports)) m.functions m.bodies
