-- How a module of asm.js that stands for one of WebAssembly is called, and what it asks of its host: a 64-bit word is two ints, exports and
-- imports have the names of the other language, and a memory is a heap.
use Rattle.std.specs.Prelude.{◌≡◌, ℕ, ◌+◌, Bool, true, false, List, [], ◌∷◌, map, Option, Some, None, codes, slice_get, option_map, if◌then◌else◌}
use Rattle.std.specs.List.{AllByRecursion, flat_map, list_any}
use Rattle.session_lang.specs.Imports.{high_name}
use Rattle.session_lang.specs.Observation.{trap_name}
use Rattle.session_lang.specs.Names.{import_name, export_name}
use Rattle.session_lang.specs.CallingForms.{ShapePlain}
use Rattle.wasm_lang.specs.declared.types.ValType.{ValType}
use Rattle.wasm_lang.specs.declared.types.ValType.TheVariants.{I32, I64}
use Rattle.wasm_lang.specs.declared.types.ImportKind.{ImportKind}
use Rattle.wasm_lang.specs.declared.types.ImportKind.TheVariants as imports
use Rattle.wasm_lang.specs.declared.types.ExportKind.{ExportKind}
use Rattle.wasm_lang.specs.declared.types.ExportKind.TheVariants as exports
use Rattle.wasm_lang.specs.Modules.{FunctionType, Imported, Exported, WasmModule}
use Rattle.wasm_lang_valid.specs.ModuleRules.{type_of_function, has_memory}
use Rattle.wasm_lang_exec.specs.Fits.{global_imports, global_names}
use Rattle.asm_lang.specs.Trees.{Init, foreign_double, member}
use Rattle.asm_lang.specs.Modules.{Variable, Module}
use Rattle.asm_lang_valid.specs.Scope.{Signature, signature_of, is_foreign, is_in}
use Rattle.asm_lang_valid.specs.Refusal as text
use Rattle.asm_lang_valid.specs.Refusal.{foreign_globals, has_heap, exported_from}

-- ---- the exported functions of a module of WebAssembly

abbrev pub is_wide : ValType → Bool
is_wide I32 = false
is_wide I64 = true

-- an exported function has a type where its number is one
pub record Callable : Type 0 where
  pub key : List ℕ
  pub type : FunctionType

abbrev pub typed_as : List ℕ → Option FunctionType → List Callable
typed_as key None = []
typed_as key (Some t) = record { key = key; type = t } ∷ []

abbrev pub exported_kind : WasmModule → List ℕ → ExportKind → List Callable
exported_kind w key (exports.Func f) = typed_as key (type_of_function w f)
exported_kind w key _ = []

abbrev pub callables : WasmModule → List Callable
callables w = flat_map (λ (e : Exported). exported_kind w e.name e.kind) w.exports

-- which arguments of its calls are 64-bit words, and whether its result is one
abbrev pub shape : Callable → ShapePlain
shape f = record { key = f.key; wide = map is_wide f.type.params; wide_result = list_any is_wide f.type.results }

abbrev pub shapes_of : WasmModule → List ShapePlain
shapes_of w = map shape (callables w)

-- ---- .. and what each is in asm.js: as many ints as its parameters have words, and a result where it has one

-- how the host may call a function of asm.js
pub record Entry : Type 0 where
  pub key : List ℕ
  pub signature : Signature

abbrev pub entry : List ℕ → ℕ → Bool → Entry
entry key params result = record { key = key; signature = record { params = params; result = result } }

abbrev pub words : List ValType → ℕ
words [] = 0
words (t ∷ ts) = (if is_wide t then 2 else 1) + words ts

abbrev pub has_result : List ValType → Bool
has_result [] = false
has_result (t ∷ ts) = true

abbrev pub entry_of : Callable → Entry
entry_of f = entry (export_name f.key) (words f.type.params) (has_result f.type.results)

-- the first begins a session, and the second gives the high word of the last 64-bit result
abbrev pub entries_asked : WasmModule → List Entry
entries_asked w = entry (codes "$init") 0 false ∷ entry (codes "$hi") 0 true ∷ map entry_of (callables w)

-- ---- imports: a name may be imported more than once

abbrev pub if_function : ImportKind → List ℕ → List (List ℕ)
if_function (imports.Func t) name = name ∷ []
if_function _ name = []

abbrev pub functions_asked : WasmModule → List (List ℕ)
functions_asked w = flat_map (λ (i : Imported). if_function i.kind (import_name i.module_name i.name)) w.imports

abbrev pub globals_asked : WasmModule → List (List ℕ)
globals_asked w = global_names (global_imports w.imports)

-- ---- what a module of asm.js gives and asks for

abbrev pub entry_at : Module → text.Exported → Option Entry
entry_at a e = option_map (λ f. record { key = e.key; signature = signature_of f }) (slice_get a.functions e.function)

abbrev pub entries_given : Module → List (Option Entry)
entries_given a = map (entry_at a) (exported_from a a.exports)

-- foreign members that are functions, and such that are doubles
abbrev pub function_member : Module → Init → List (List ℕ)
function_member a (member object name) = if is_foreign a object then name ∷ [] else []
function_member a _ = []

abbrev pub foreign_functions : Module → List (List ℕ)
foreign_functions a = flat_map (λ (v : Variable). function_member a v.init) a.globals

abbrev pub double_member : Init → List (List ℕ)
double_member (foreign_double object name) = name ∷ []
double_member _ = []

abbrev pub foreign_doubles : Module → List (List ℕ)
foreign_doubles a = flat_map (λ (v : Variable). double_member v.init) a.globals

-- ---- the two together

-- each of these names is one of those
abbrev pub AreAmong : List (List ℕ) → List (List ℕ) → Type 0
AreAmong xs ys = AllByRecursion (λ name. is_in name ys ≡ true) xs

pub record IsCalledAs (w : WasmModule) (a : Module) : Type 0 where
  pub exported : entries_given a ≡ map Some (entries_asked w)
  -- all imported functions, and perhaps the two that stand for traps and for high words
  pub functions : AreAmong (functions_asked w) (foreign_functions a)
  pub no_other_functions : AreAmong (foreign_functions a) (trap_name ∷ high_name ∷ functions_asked w)
  pub globals : AreAmong (globals_asked w) (foreign_globals a)
  pub no_other_globals : AreAmong (foreign_globals a) (globals_asked w)
  pub no_doubles : foreign_doubles a ≡ []
  pub heap : has_heap a ≡ has_memory w
