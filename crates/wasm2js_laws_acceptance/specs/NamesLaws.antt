-- No name of a translated module is declared twice or forbidden, and each that is used means what it is used for.
use Rattle.std.specs.Prelude.{◌≡◌, true, [], ◌++◌}
use Rattle.wasm_lang.specs.Modules.{WasmModule}
use Rattle.wasm_lang.specs.Shape.{IsShaped}
use Rattle.wasm_lang_valid.specs.Profile.{IsInProfile}
use Rattle.asm_lang.specs.Modules.{Module}
use Rattle.asm_lang_valid.specs.NameRows.{Imports, globals_names, functions_names, tables_names, exports_names, name_rows, global_texts, function_texts}
use Rattle.asm_lang_valid.specs.Rows.{functions_at, tables_at, exports_at}
use Rattle.asm_lang_valid.specs.Typed.{functions_typed}
use Rattle.wasm2js_translation.specs.Modules.{translated}

-- ---- part by part: the rows of names are none

abbrev pub no_imports : Imports
no_imports = record { values = []; functions = [] }

abbrev pub VariablesHaveNoRows : Type 0
VariablesHaveNoRows = (w : WasmModule) → IsInProfile w → IsShaped w → let m = translated w in globals_names m m.params no_imports m.globals 1 ≡ []

-- each function is typed in its scope
abbrev pub HasTypedFunctions : Module → Type 0
HasTypedFunctions m = functions_typed m m.functions ≡ true

abbrev pub FunctionsHaveNoRows : Type 0
FunctionsHaveNoRows = (w : WasmModule) → HasTypedFunctions (translated w) → let m = translated w in functions_names m (m.params ++ global_texts m) m.functions (functions_at m) ≡ []

abbrev pub TablesHaveNoRows : Type 0
TablesHaveNoRows = (w : WasmModule) → IsInProfile w → IsShaped w → let m = translated w in tables_names m (m.params ++ (global_texts m ++ function_texts m)) m.tables (tables_at m) ≡ []

abbrev pub ExportsHaveNoRows : Type 0
ExportsHaveNoRows = (w : WasmModule) → IsInProfile w → IsShaped w → let m = translated w in exports_names m m.exports (exports_at m) ≡ []

-- ---- the whole

abbrev pub NamesHaveNoRows : Type 0
NamesHaveNoRows = (w : WasmModule) → IsInProfile w → IsShaped w → HasTypedFunctions (translated w) → name_rows (translated w) ≡ []
