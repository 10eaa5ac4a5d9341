-- What the list of functions stands for.
use Rattle.std.specs.Prelude.{◌≡◌, ℕ, List, [], Option, Some, None, slice_get}
use Rattle.sem_words.specs.Lists.{text_bytes}
use Rattle.wasm_lang.specs.Instructions.{Instruction}
use Rattle.wasm_lang.specs.Modules.{FunctionType, FunctionBody, WasmModule}
use Rattle.wasm_lang_exec.specs.Code.{Trees, tree_of}
use Rattle.wasm_lang_exec.specs.Reductions as meaning
use Rattle.wasm_lang_exec.specs.Reductions.{an_import, a_function, callee_at}
use Rattle.wasm_run_plain.specs.Forms.{IsForm}
use Rattle.wasm_run_machine.specs.declared.functions.Callee.{Callee}
use Rattle.wasm_run_machine.specs.declared.functions.Callee.TheVariants.{Import, Own}
use Rattle.wasm_run_machine.specs.declared.functions.Function.{Function}

abbrev pub body_of_callee : Callee → List Instruction
body_of_callee (Import name) = []
body_of_callee (Own body place) = body

abbrev pub body_of_function : Option Function → List Instruction
body_of_function None = []
body_of_function (Some f) = body_of_callee f.callee

-- the instructions of each function; an import has none
abbrev pub bodies_of : List Function → ℕ → List Instruction
bodies_of functions f = body_of_function (slice_get functions f)

-- the instructions of all functions have forms that opcodes can say
abbrev pub AllHaveForms : List Function → Type 0
AllHaveForms functions = (f at : ℕ) (i : Instruction) → slice_get (bodies_of functions f) at ≡ Some i → IsForm i

-- an own function has a tree of code
pub record IsOwn (m : WasmModule) (t : FunctionType) (body : List Instruction) (place : ℕ) (c : Option meaning.Callee) : Type 0 where
  pub entry : FunctionBody
  pub code : Trees
  pub found : slice_get m.bodies place ≡ Some entry
  pub tree : tree_of body ≡ Some code
  pub is_callee : c ≡ Some (a_function t entry.locals code)

abbrev pub IsCallee : WasmModule → FunctionType → Callee → Option meaning.Callee → Type 0
IsCallee m t (Import name) c = c ≡ Some (an_import (text_bytes name) t)
IsCallee m t (Own body place) c = IsOwn m t body place c

pub record IsTyped (m : WasmModule) (f : Function) (c : Option meaning.Callee) : Type 0 where
  pub type : FunctionType
  pub found : slice_get m.types f.kind ≡ Some type
  pub callee : IsCallee m type f.callee c

abbrev pub IsFunction : WasmModule → Option Function → Option meaning.Callee → Type 0
IsFunction m None c = c ≡ None
IsFunction m (Some f) c = IsTyped m f c

-- the list has each function of the module at its number
pub record AreFunctions (m : WasmModule) (functions : List Function) : Type 0 where
  pub each : (f : ℕ) → IsFunction m (slice_get functions f) (callee_at m f)
