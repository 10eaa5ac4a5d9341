-- What the functions of a translated module are given to use: all that the context of the source's code names.
use Rattle.std.specs.Prelude.{◌≡◌, ℕ, true, List, length, Some, slice_get}
use Rattle.std.specs.List.{AllByRecursion, list_all}
use Rattle.wasm_lang.specs.declared.types.ValType.{ValType}
use Rattle.wasm_lang.specs.declared.types.GlobalType.{GlobalType}
use Rattle.wasm_lang.specs.Modules.{FunctionType, WasmModule}
use Rattle.wasm_lang.specs.Shape.{IsShaped}
use Rattle.wasm_lang_valid.specs.Measures.{called_types, is_among}
use Rattle.wasm_lang_valid.specs.ModuleRules.{type_of_function, global_types, has_memory}
use Rattle.wasm_lang_valid.specs.Profile.{memory_bytes, IsInProfile}
use Rattle.wasm_lang_exec.specs.Code.{Trees}
use Rattle.wasm_lang_exec.specs.Reductions.{an_import, callee_at}
use Rattle.asm_lang.specs.Modules.{Stmt, Table}
use Rattle.asm_lang_valid.specs.Scope.{Signature, a_foreign, module_meaning, function_signature}
use Rattle.asm_lang_valid.specs.Typed.{scope_of}
use Rattle.asm_lang_valid.specs.Typing.{named}
use Rattle.wasm2js_lang.specs.Parts.Functions.{is_asked}
use Rattle.wasm2js_translation.specs.Names.{Name, Fixed, numbered, function, foreign, table, high, spelled}
use Rattle.wasm2js_translation.specs.Words.{name_of}
use Rattle.wasm2js_translation.specs.Bodies.{form_number}
use Rattle.wasm2js_translation.specs.Helpers.{function_of}
use Rattle.wasm2js_translation.specs.Modules.{context_of, own_function, translated}
use Rattle.wasm2js_translation.specs.Pairs.{global_pair, names_of}
use Rattle.wasm2js_translation.specs.Tables.{cell_count}
use Rattle.wasm2js_laws_terms.specs.Sound.{IsHelper}
use Rattle.wasm2js_laws_scopes.specs.Provided.{wide_helper, memory_helper, Called, AreInts, IsFunction, IsTable, Provides, signature_for}
use Rattle.wasm2js_laws_scopes.specs.Laws.{is_own}

-- ---- in any function that declares names of its own alone

-- the words of globals
abbrev pub GlobalsAreProvided : Type 0
GlobalsAreProvided =
    (w : WasmModule) → IsInProfile w → (name : Name) (params locals : List Name) (ss : List Stmt) → list_all is_own params ≡ true → list_all is_own locals ≡ true
    → (x : ℕ) (g : GlobalType) → slice_get (global_types w) x ≡ Some g → AreInts (scope_of (translated w) (function_of name params locals ss)) (names_of g.kind (global_pair x))

-- the functions, imported ones first
abbrev pub FunctionsAreProvided : Type 0
FunctionsAreProvided =
    (w : WasmModule) → IsInProfile w → IsShaped w → (name : Name) (params locals : List Name) (ss : List Stmt) → list_all is_own params ≡ true → list_all is_own locals ≡ true
    → (f : ℕ) (t : FunctionType) → type_of_function w f ≡ Some t → IsFunction (scope_of (translated w) (function_of name params locals ss)) (numbered function f) (signature_for t)

-- what imported functions are imported as, by the names that the host knows them by
abbrev pub ForeignAreProvided : Type 0
ForeignAreProvided =
    (w : WasmModule) → IsInProfile w → (name : Name) (params locals : List Name) (ss : List Stmt) → list_all is_own params ≡ true → list_all is_own locals ≡ true
    → (k : ℕ) (key : List ℕ) (t : FunctionType) → callee_at w k ≡ Some (an_import key t)
    → named (scope_of (translated w) (function_of name params locals ss)) (spelled (numbered foreign k)) ≡ a_foreign key

-- the foreign function that gives the high word of a result
abbrev pub HighIsForeign : Type 0
HighIsForeign =
    (w : WasmModule) (name : Name) (params locals : List Name) (ss : List Stmt) → list_all is_own params ≡ true → list_all is_own locals ≡ true
    → named (scope_of (translated w) (function_of name params locals ss)) (name_of high) ≡ a_foreign (name_of high)

-- what the bodies call: entries of these types, and helpers
abbrev pub is_called : WasmModule → Called
is_called w = record { types = λ t. is_among t (called_types w.types w.bodies); helpers = λ f. is_asked w (name_of f) }

-- the table of each type that such a call names
abbrev pub TablesAreProvided : Type 0
TablesAreProvided =
    (w : WasmModule) → IsInProfile w → IsShaped w → (name : Name) (params locals : List Name) (ss : List Stmt) → list_all is_own params ≡ true → list_all is_own locals ≡ true
    → (t : FunctionType) → (is_called w).types t ≡ true → IsTable (scope_of (translated w) (function_of name params locals ss)) (numbered table (form_number w.types t)) (cell_count w) (signature_for t)

-- all tables have so many members, and those of one table are functions of one signature
abbrev pub MembersAreAlike : Type 0
MembersAreAlike =
    (w : WasmModule) → IsInProfile w → IsShaped w → (i : ℕ) (t : Table) → slice_get (translated w).tables i ≡ Some t
    → (length t.members ≡ cell_count w) × ((form : Signature) × AllByRecursion (λ n. function_signature (module_meaning (translated w) n) ≡ Some form) t.members)

-- helpers that the code of some instruction names
abbrev pub HelpersAreProvided : Type 0
HelpersAreProvided =
    (w : WasmModule) (name : Name) (params locals : List Name) (ss : List Stmt) → list_all is_own params ≡ true → list_all is_own locals ≡ true
    → (f : Fixed) (form : Signature) → wide_helper f ≡ Some form → is_asked w (name_of f) ≡ true → IsHelper (scope_of (translated w) (function_of name params locals ss)) f form.params form.result

abbrev pub MemoryHelpersAreProvided : Type 0
MemoryHelpersAreProvided =
    (w : WasmModule) (name : Name) (params locals : List Name) (ss : List Stmt) → list_all is_own params ≡ true → list_all is_own locals ≡ true → has_memory w ≡ true
    → (f : Fixed) (form : Signature) → memory_helper f ≡ Some form → is_asked w (name_of f) ≡ true → IsHelper (scope_of (translated w) (function_of name params locals ss)) f form.params form.result

-- ---- in the functions of the source

abbrev pub ModulesProvide : Type 0
ModulesProvide =
    (w : WasmModule) → IsInProfile w → IsShaped w → (k : ℕ) (t : FunctionType) (more : List ValType) (code : Trees)
    → Provides (scope_of (translated w) (own_function w k t more code)) (context_of w t more) (is_called w) (memory_bytes w) (cell_count w)
