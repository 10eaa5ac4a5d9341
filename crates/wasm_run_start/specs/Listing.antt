-- A list of functions, and the callees that it stands for.
use Rattle.std.specs.Prelude.{◌≡◌, ℕ, List, [], ◌∷◌, Option, Some, None, slice_get}
use Rattle.wasm_lang.specs.declared.types.ImportKind.{ImportKind}
use Rattle.wasm_lang.specs.declared.types.ImportKind.TheVariants as imports
use Rattle.wasm_lang.specs.Instructions.{Instruction}
use Rattle.wasm_lang.specs.Modules.{FunctionType, Imported, FunctionBody, WasmModule}
use Rattle.wasm_lang_exec.specs.Code.{tree_of}
use Rattle.wasm_lang_exec.specs.Reductions as meaning
use Rattle.wasm_lang_exec.specs.Reductions.{own_callee}
use Rattle.wasm_run_plain.specs.Forms.{IsForm}
use Rattle.wasm_run_machine.specs.declared.functions.Function.{Function}
use Rattle.wasm_run_machine.specs.Functions.{body_of_callee, IsTyped}

-- the function is this callee, and its instructions have forms that opcodes can say
pub record IsReady (m : WasmModule) (f : Function) (c : Option meaning.Callee) : Type 0 where
  pub typed : IsTyped m f c
  pub forms : (at : ℕ) (i : Instruction) → slice_get (body_of_callee f.callee) at ≡ Some i → IsForm i

-- .. each of a list
abbrev pub AreReady : WasmModule → List Function → List (Option meaning.Callee) → Type 0
AreReady m [] [] = Unit {0}
AreReady m (f ∷ fs) (c ∷ cs) = IsReady m f c × AreReady m fs cs
AreReady m [] (c ∷ cs) = ⊥
AreReady m (f ∷ fs) [] = ⊥

-- the module has a type of this number
pub record IsTypeNumber (m : WasmModule) (t : ℕ) : Type 0 where
  pub type : FunctionType
  pub found : slice_get m.types t ≡ Some type

-- an imported function has a type
abbrev pub HasType : WasmModule → ImportKind → Type 0
HasType m (imports.Func t) = IsTypeNumber m t
HasType m (imports.Table l) = Unit {0}
HasType m (imports.Memory l) = Unit {0}
HasType m (imports.Global g) = Unit {0}

abbrev pub HaveTypes : WasmModule → List Imported → Type 0
HaveTypes m is = (k : ℕ) (i : Imported) → slice_get is k ≡ Some i → HasType m i.kind

-- the callee of a function and its body, where there are both
abbrev pub own_of : WasmModule → Option ℕ → Option FunctionBody → List (Option meaning.Callee)
own_of m (Some t) (Some b) = own_callee (slice_get m.types t) b (tree_of b.code) ∷ []
own_of m (Some t) None = []
own_of m None b = []
