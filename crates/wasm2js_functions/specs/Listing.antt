-- The functions of a module, by the numbers of their types.
use Rattle.std.specs.Prelude.{ℕ, suc, List, [], ◌∷◌, ◌++◌, Option, Some, None, slice_get}
use Rattle.wasm_lang.specs.Modules.{FunctionType, FunctionBody, WasmModule}
use Rattle.wasm_lang_exec.specs.Code.{tree_of}
use Rattle.wasm_lang_exec.specs.Reductions.{own_callee}
use Rattle.asm_lang.specs.Modules as text
use Rattle.wasm2js_translation.specs.Modules.{wrapper, function_for}

abbrev pub wrapper_for : (k : ℕ) → Option FunctionType → List text.Function
wrapper_for k None = []
wrapper_for k (Some t) = wrapper k t ∷ []

-- for imported functions that have these types, from number k on
abbrev pub wrappers_from : WasmModule → (k : ℕ) → List ℕ → List text.Function
wrappers_from m k [] = []
wrappers_from m k (t ∷ ts) = wrapper_for k (slice_get m.types t) ++ wrappers_from m (suc k) ts

-- the function of number k, from the number of its type and its body
abbrev pub own_at : WasmModule → (k : ℕ) → Option ℕ → Option FunctionBody → List text.Function
own_at m k (Some t) (Some b) = function_for m k (own_callee (slice_get m.types t) b (tree_of b.code))
own_at m k (Some t) None = []
own_at m k None b = []

-- those of these types and with these bodies, from number k on
abbrev pub own_from : WasmModule → (k : ℕ) → List ℕ → List FunctionBody → List text.Function
own_from m k (t ∷ ts) (b ∷ bs) = own_at m k (Some t) (Some b) ++ own_from m (suc k) ts bs
own_from m k (t ∷ ts) [] = []
own_from m k [] bs = []
