-- The functions of a translated module.
use Rattle.std.specs.Prelude.{◌≡◌, ℕ, ◌<◌, ◌^◌, List, Some, slice_get}
use Rattle.std.specs.List.{AllByRecursion}
use Rattle.wasm_lang.specs.declared.types.ValType.{ValType}
use Rattle.wasm_lang.specs.Modules.{FunctionType, WasmModule}
use Rattle.wasm_lang_valid.specs.Profile.{memory_bytes}
use Rattle.wasm_lang_valid.specs.ModuleRules.{type_of_function}
use Rattle.wasm_lang_exec.specs.Code.{Trees}
use Rattle.wasm_lang_exec.specs.Reductions.{an_import, a_function, callees}
use Rattle.asm_lang.specs.Modules.{Function}
use Rattle.asm_lang_valid.specs.Typed.{scope_of}
use Rattle.wasm2js_translation.specs.Names.{Numbered, numbered, function}
use Rattle.wasm2js_translation.specs.Modules.{context_of, own_function, wrapper, init_function, high_function, helpers, translated}
use Rattle.wasm2js_translation.specs.Tables.{cell_count, stub_function}
use Rattle.wasm2js_laws_scopes.specs.Provided.{Provides, IsFunction, signature_for}
use Rattle.wasm2js_laws_acceptance.specs.FunctionsFunctions.{of_trap, of_import, uses_of, IsFineFunction, AreFineFunctions, is_called, IsSource}

-- names mean in this function what they are meant for
abbrev pub IsProvided : WasmModule → Function → FunctionType → List ValType → Type 0
IsProvided w f t more = Provides (scope_of (translated w) f) (context_of w t more) (is_called w) (memory_bytes w) (cell_count w)

-- the functions of the source are called by its numbers
abbrev pub HasFunctions : WasmModule → Function → Type 0
HasFunctions w f = (k : ℕ) (t : FunctionType) → type_of_function w k ≡ Some t → IsFunction (scope_of (translated w) f) (numbered function k) (signature_for t)

-- function k of the source, with a body
abbrev pub OwnFunctionsAreFine : Type 0
OwnFunctionsAreFine =
    (w : WasmModule) (k : ℕ) (t : FunctionType) (more : List ValType) (code : Trees) → IsSource w → slice_get (callees w) k ≡ Some (Some (a_function t more code))
    → IsProvided w (own_function w k t more code) t more
    → IsFineFunction (translated w) of_trap (own_function w k t more code)

-- what stands for an entry that is missing, or of another type, by its signature
abbrev pub StubsAreFine : Type 0
StubsAreFine = (w : WasmModule) (name : Numbered) (kind stub : ℕ) → kind < 2 ^ 31 → stub < 4002 → IsFineFunction (translated w) of_trap (stub_function name kind stub)

-- the last high word
abbrev pub HighIsFine : Type 0
HighIsFine = (w : WasmModule) → IsFineFunction (translated w) of_trap high_function

-- the helpers, those on the memory where there is one
abbrev pub HelpersAreFine : Type 0
HelpersAreFine = (w : WasmModule) → IsSource w → AllByRecursion (IsFineFunction (translated w) of_trap) (helpers w)

-- function k, where it is imported
abbrev pub WrappersAreFine : Type 0
WrappersAreFine =
    (w : WasmModule) (k : ℕ) (name : List ℕ) (t : FunctionType) → IsSource w → slice_get (callees w) k ≡ Some (Some (an_import name t))
    → IsFineFunction (translated w) (of_import name t) (wrapper k t)

-- what a session begins with
abbrev pub InitIsFine : Type 0
InitIsFine = (w : WasmModule) → IsSource w → HasFunctions w (init_function w) → IsFineFunction (translated w) of_trap (init_function w)

-- ---- all of them

-- names mean in the functions that the source defines, and in what a session begins with, what they are meant for
pub record AreProvided (w : WasmModule) : Type 0 where
  pub own : (k : ℕ) (t : FunctionType) (more : List ValType) (code : Trees) → slice_get (callees w) k ≡ Some (Some (a_function t more code)) → IsProvided w (own_function w k t more code) t more
  pub init : HasFunctions w (init_function w)

abbrev pub FunctionsAreFine : Type 0
FunctionsAreFine = (w : WasmModule) → IsSource w → AreProvided w → AreFineFunctions (translated w) (uses_of w)
