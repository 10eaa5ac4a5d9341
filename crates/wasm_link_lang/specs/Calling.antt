-- How a linked module is called, and what it asks of its host: what isn't bound of both modules' imports, and the functions that both export.
use Rattle.std.specs.Prelude.{◌≡◌, ℕ, true, if◌then◌else◌, List, [], ◌∷◌, ◌++◌, All, Option, Some, None, codes}
use Rattle.wasm_lang.specs.declared.types.Limits.{Limits}
use Rattle.wasm_lang.specs.Modules.{FunctionType, Imported, Exported, WasmModule}
use Rattle.wasm_lang_valid.specs.ModuleRules.{type_of_function}
use Rattle.wasm_lang_exec.specs.Session.{exported_function}
use Rattle.asm2wasm_lang.specs.Calling.{Import, from_env, of_kind, function_of, global_of, memory_of, table_of}
use Rattle.wasm_link_lang.specs.Pairs.{Pair, bound_to}
use Rattle.wasm_link_lang.specs.Refusal.{is_there, least_maximum}
use Rattle.wasm_link_lang.specs.Session.{pages}

-- the imports that aren't bound
abbrev pub unbound : (other : WasmModule) → List Imported → List Imported
unbound other [] = []
unbound other (i ∷ is) = if is_there (bound_to other i) then unbound other is else i ∷ unbound other is

-- unbound functions with their types
abbrev pub functions_asked : WasmModule → (other : WasmModule) → List (Import (Option FunctionType))
functions_asked m other = of_kind (function_of m) (unbound other m.imports)

-- `env` `memory`
abbrev pub memory_asked : Option ℕ → (most : Option ℕ) → List (Import Limits)
memory_asked None most = []
memory_asked (Some least) most = from_env (codes "memory") (record { min = least; max = most }) ∷ []

-- an exported function, by its name
pub record ExportedFunction : Type 0 where
  pub name : List ℕ
  pub type : Option FunctionType

abbrev pub with_function : WasmModule → Exported → Option ℕ → List ExportedFunction → List ExportedFunction
with_function m e None es = es
with_function m e (Some f) es = record { name = e.name; type = type_of_function m f } ∷ es

abbrev pub functions_exported : WasmModule → List Exported → List ExportedFunction
functions_exported m [] = []
functions_exported m (e ∷ es) = with_function m e (exported_function e.kind) (functions_exported m es)

-- all exports are functions
abbrev pub OnlyFunctions : List Exported → Type 0
OnlyFunctions es = All (λ (e : Exported). is_there (exported_function e.kind) ≡ true) es

-- by kind and in order
pub record IsCalledAs (w : Pair) (m : WasmModule) : Type 0 where
  pub functions : of_kind (function_of m) m.imports ≡ functions_asked w.first w.second ++ functions_asked w.second w.first
  pub globals : of_kind global_of m.imports ≡ of_kind global_of w.first.imports ++ of_kind global_of w.second.imports
  pub memories : of_kind memory_of m.imports ≡ memory_asked (pages w) (least_maximum w)
  pub tables : of_kind table_of m.imports ≡ []
  pub no_memory : m.memories ≡ []
  pub exported : functions_exported m m.exports ≡ functions_exported w.first w.first.exports ++ functions_exported w.second w.second.exports
  pub only_functions : OnlyFunctions m.exports
